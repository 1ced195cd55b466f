-- A snapshot that is taken: the copies in memory belong to the other parts, and the metadata stands with it.
use Rattle.std.proofs.Common.{◌≡◌, ℕ, ◌+◌, ◌-◌, ◌*◌, ◌≤◌, Bool, true, false, List, [], ◌++◌, Option, Some, None, length, map, drop, refl, sym, ap, ◌∙◌, subst, arith}
use Rattle.std.specs.Prelude.{if◌then◌else◌}
use Rattle.std.specs.List.{AllByRecursion}
use Rattle.std.proofs.lemmas.List.{length-append, length-drop, length-map}
use Rattle.era_base.specs.CrashModel.{State}
use Rattle.era_base.specs.Geometry.{bit_pages_of, need_of}
use Rattle.era_base.specs.declared.disk.Disk.{Ghosts}
use Rattle.era_layout.specs.declared.archive.Archived.{Archived}
use Rattle.era_layout.specs.Root.{RootFields, fields_of}
use Rattle.era_layout.specs.declared.root.Root.{Root}
use Rattle.era_model.specs.Marks.{BlockMarks}
use Rattle.era_slots.specs.declared.slots.Slots.{Slots}
use Rattle.era_meta.specs.declared.metadata.Meta.{Meta}
use Rattle.era_meta.specs.declared.snapshot.Snapshot.{Snapshot}
use Rattle.era_meta.specs.Content.{blocks_of_root}
use Rattle.era_meta.specs.Copies.{CanCopyRoot, IsSnapshotOf}
use Rattle.era_meta.specs.Held.{snapshot_marks, snapshot_root}
use Rattle.era_meta.specs.HeldCalls.{with_flag, with_snapshot}
use Rattle.era_meta.specs.InMemory.{meaning_in, FitTogether, IsAheadOf}
use Rattle.era_meta.specs.SnapshotCalls.{HasHeld}
use Rattle.era_meta.specs.Stored.{IsStoredRoot}
use Rattle.era_meta.proofs.AreasNumbered.{all_drop}
use Rattle.era_meta.proofs.AreasPrepared.{all_lists}
use Rattle.era_meta.proofs.HeldPut.{flag-valid}

-- the flag of the committed root belongs to no other part
pub flag-fit : {D : Type 0} (disk : Ghosts D) (old : Meta D) (slots : Slots D) (flag : Bool) → disk.sectors slots.disk ≡ disk.sectors old.slots.disk → FitTogether disk old
    → FitTogether disk (record old { slots = slots; root = record old.root { held = flag } })
flag-fit disk old slots flag size fit = record {
  valid = flag-valid (fields_of old.root) flag fit.valid;
  sectors = fit.sectors;
  block_sectors = fit.block_sectors;
  lists = fit.lists;
  total = fit.total;
  snapshot = record { lists = fit.snapshot.lists; count = fit.snapshot.count; sectors = fit.snapshot.sectors; block_sectors = fit.snapshot.block_sectors };
  room = subst (λ (n : ℕ). need_of (blocks_of_root (fields_of old.root)) * 8 ≤ n) (sym size) fit.room;
}

-- the lists that are spare once those of the next root are given back
pub released-lists : (width : ℕ) (spare released : List (List ℕ)) (archive : List Archived) → released ≡ spare ++ map (λ (set : Archived). set.pages) archive
    → AllByRecursion (λ pages. length pages ≡ width) spare → AllByRecursion (λ set. length set.pages ≡ width) archive
    → AllByRecursion (λ pages. length pages ≡ width) released × (length released ≡ length spare + length archive)
released-lists width spare released archive is lists sets = (
  subst (AllByRecursion (λ (pages : List ℕ). length pages ≡ width)) (sym is) (all_lists (λ (pages : List ℕ). length pages ≡ width) spare archive lists sets),
  ap length is ∙ length-append spare (map (λ (set : Archived). set.pages) archive) ∙ ap (λ (n : ℕ). length spare + n) (length-map archive (λ (set : Archived). set.pages)),
)

-- the committed root can be copied into the room for a snapshot
pub can-copy : {D : Type 0} (disk : Ghosts D) (old : Meta D) (released : List (List ℕ)) → FitTogether disk old
    → released ≡ old.spare ++ map (λ (set : Archived). set.pages) old.next.archive → CanCopyRoot (fields_of old.snapshot.root) released (fields_of old.root)
can-copy disk old released fit is =
    let width = bit_pages_of (blocks_of_root (fields_of old.root)) in
    let free = released-lists width old.spare released old.next.archive is fit.lists.spare fit.lists.sets in
    let count = free.1 in let total = fit.total in let few = fit.valid.count in let held = fit.snapshot.count in
    record {
      array = fit.snapshot.lists.array ∙ sym fit.valid.array;
      current = fit.snapshot.lists.current ∙ sym fit.valid.current;
      width = width;
      own = fit.snapshot.lists.sets;
      sizes = fit.valid.sets;
      lists = free.0;
      enough = omega arith;
      room = omega arith;
      count = few;
    }

-- once it is copied, the parts belong together with it as the snapshot
pub held-fit : {D : Type 0} (disk : Ghosts D) (old : Meta D) (archive : _) (released spare : List (List ℕ)) (root : Root) (marks : _) → FitTogether disk old
    → released ≡ old.spare ++ map (λ (set : Archived). set.pages) old.next.archive
    → spare ≡ drop (length old.root.archive) (released ++ map (λ (set : Archived). set.pages) old.snapshot.root.archive)
    → archive ≡ [] → fields_of root ≡ fields_of old.root → marks ≡ old.marks
    → FitTogether disk (record old {
      next = record old.next { archive = archive };
      snapshot = record { is_held = true; root = record root { held = false }; marks = marks };
      spare = spare;
    })
held-fit disk old archive released spare root marks fit is left none same marks_same =
    let fields = fields_of old.root in let blocks = blocks_of_root fields in let width = bit_pages_of blocks in
    let one = released-lists width old.spare released old.next.archive is fit.lists.spare fit.lists.sets in
    let all = released ++ map (λ (set : Archived). set.pages) old.snapshot.root.archive in
    let two = released-lists width released all old.snapshot.root.archive refl one.0 fit.snapshot.lists.sets in
    let lists : AllByRecursion (λ pages. length pages ≡ width) spare
    = subst (AllByRecursion (λ (pages : List ℕ). length pages ≡ width)) (sym left) (all_drop (λ (pages : List ℕ). length pages ≡ width) (length old.root.archive) all two.0) in
    let rest : length spare ≡ length all - length old.root.archive = ap length left ∙ length-drop (length old.root.archive) all in
    let sets : root.archive ≡ old.root.archive = ap (λ (r : RootFields). r.archive) same in
    let size = ap length sets in let empty = ap length none in
    let count = one.1 in let more = two.1 in let total = fit.total in let few = fit.valid.count in
    record {
      valid = fit.valid;
      sectors = fit.sectors;
      block_sectors = fit.block_sectors;
      lists = record {
        array = fit.lists.array;
        current = fit.lists.current;
        sets = rw none tt;
        spare = lists;
        count = omega arith;
      };
      total = omega arith;
      snapshot = record {
        lists = record {
          array = ap (λ (r : RootFields). length r.array) same ∙ fit.valid.array;
          current = ap (λ (r : RootFields). length r.current) same ∙ fit.valid.current;
          sets = rw sets fit.valid.sets;
          spare = tt;
          count = omega arith;
        };
        count = omega arith;
        sectors = ap (λ (m : BlockMarks). m.sectors) marks_same ∙ sym fit.sectors;
        block_sectors = ap (λ (m : BlockMarks). m.block_sectors) marks_same ∙ sym fit.block_sectors;
      };
      room = fit.room;
    }

-- a root without a snapshot is its own held root
flag-none : (root : RootFields) → root.held ≡ false → with_flag root false ≡ root
flag-none root none = ap (with_flag root) (sym none)

pub held-none : (snapshot : Snapshot) → snapshot.is_held ≡ false → snapshot_root snapshot ≡ None
held-none snapshot none = ap (λ (flag : Bool). if flag then Some (fields_of snapshot.root) else None) none

pub held-root : (snapshot : Snapshot) (root : RootFields) (marks : BlockMarks) → root.held ≡ false → IsSnapshotOf snapshot (with_flag root true) marks
    → snapshot_root snapshot ≡ Some root
held-root snapshot root marks none is =
    ap (λ (flag : Bool). if flag then Some (fields_of snapshot.root) else None) is.held
    ∙ ap (λ (r : RootFields). Some r) (is.root_same ∙ flag-none root none)

pub held-shared : (snapshot : Snapshot) (root : RootFields) (marks : BlockMarks) → IsSnapshotOf snapshot root marks → snapshot_root snapshot ≡ Some (with_flag root false)
held-shared snapshot root marks is =
    ap (λ (flag : Bool). if flag then Some (fields_of snapshot.root) else None) is.held ∙ ap (λ (r : RootFields). Some r) is.root_same

pub held-marks : (snapshot : Snapshot) (root : RootFields) (marks : BlockMarks) → IsSnapshotOf snapshot root marks → snapshot_marks snapshot ≡ Some marks
held-marks snapshot root marks is =
    ap (λ (flag : Bool). if flag then Some snapshot.marks else None) is.held ∙ ap (λ (m : BlockMarks). Some m) is.marks_same

-- the committed root has the snapshot
pub taken-stored : {D : Type 0} (old new : Meta D) (slots : Slots D) (before now : State) → new.slots ≡ slots
    → fields_of new.root ≡ with_flag (fields_of old.root) true → snapshot_root new.snapshot ≡ Some (fields_of old.root)
    → IsStoredRoot slots (with_flag (fields_of old.root) true) (Some (fields_of old.root)) (with_snapshot true (meaning_in before old)) now
    → HasHeld old true new before now
taken-stored {D} old new slots before now one two three stored =
    let meaning = with_snapshot true (meaning_in before old) in
    subst (λ (s : Slots D). IsStoredRoot s (fields_of new.root) (snapshot_root new.snapshot) meaning now) (sym one)
    (subst (λ (r : RootFields). IsStoredRoot slots r (snapshot_root new.snapshot) meaning now) (sym two)
    (subst (λ (h : Option RootFields). IsStoredRoot slots (with_flag (fields_of old.root) true) h meaning now) (sym three) stored))

-- where nothing is unstored the marks in memory are the stored ones
pub ahead-none : (flag : Bool) (marks stored : BlockMarks) → flag ≡ false → IsAheadOf flag marks stored → marks ≡ stored
ahead-none flag marks stored none ahead = subst (λ (unstored : Bool). IsAheadOf unstored marks stored) none ahead
