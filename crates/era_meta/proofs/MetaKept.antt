-- The metadata stands through its calls, whatever the marks in memory become.
use Rattle.std.proofs.Common.{◌≡◌, ℕ, suc, ◌+◌, ◌*◌, ◌≤◌, Bool, true, false, Some, None, List, [], ◌∷◌, ◌++◌, length, refl, sym, ap, ◌∙◌, subst, arith, add-mul}
use Rattle.std.specs.List.{AllByRecursion}
use Rattle.std.proofs.lemmas.List.{length-append}
use Rattle.std.proofs.lemmas.Nat.{mul-le}
use Rattle.std.specs.Prelude.{nat_lt, if◌then◌else◌}
use Rattle.era_base.specs.CrashModel.{State}
use Rattle.era_base.specs.declared.disk.Disk.{Ghosts}
use Rattle.era_layout.specs.Root.{RootFields, archive_pages, fields_of, pages_of}
use Rattle.era_layout.specs.declared.archive.Archived.{Archived}
use Rattle.era_base.specs.Geometry.{array_pages_of, bit_pages_of, root_pages_of}
use Rattle.era_base.specs.declared.limits.TheConstants.{MOST_SETS}
use Rattle.era_model.specs.Marks.{ArchivedSet, BlockMarks, blocks_of_marks, rolled, with_oldest_merged}
use Rattle.era_meta.specs.declared.metadata.Meta.{Meta}
use Rattle.era_meta.specs.declared.snapshot.Snapshot.{Snapshot}
use Rattle.era_meta.specs.Areas.{page_count, HasPageLists, HaveFewPages}
use Rattle.era_meta.specs.Content.{blocks_of_root}
use Rattle.era_meta.specs.Held.{snapshot_marks, snapshot_root}
use Rattle.era_meta.specs.InMemory.{meaning_in, FitTogether, HasStored, IsAheadOf, IsSnapshotBeside, MetaStands, StillStores}
use Rattle.era_meta.specs.Meaning.{Meaning}
use Rattle.era_meta.specs.MetaCalls.{CommitsMarks, FailsToCommitMarks}
use Rattle.era_meta.specs.SaysMarks.{IsRootFor}
use Rattle.era_meta.proofs.AreasPrepared.{length-sets}

-- other marks of the same geometry belong to the parts too
pub fit-with : {D : Type 0} (disk : Ghosts D) (meta : Meta D) (marks : BlockMarks) (unstored : Bool) → marks.sectors ≡ meta.marks.sectors → marks.block_sectors ≡ meta.marks.block_sectors
    → FitTogether disk meta → FitTogether disk (record meta { marks = marks; unstored = unstored })
fit-with disk meta marks unstored sectors block_sectors fit = record {
  valid = fit.valid;
  sectors = fit.sectors ∙ sym sectors;
  block_sectors = fit.block_sectors ∙ sym block_sectors;
  lists = fit.lists;
  total = fit.total;
  snapshot = fit.snapshot;
  room = fit.room;
}

-- the room for a snapshot is of the next root's geometry too
pub beside-next : (root next : RootFields) (snapshot : Snapshot) → next.sectors ≡ root.sectors → next.block_sectors ≡ root.block_sectors → blocks_of_root next ≡ blocks_of_root root
    → IsSnapshotBeside root snapshot → IsSnapshotBeside next snapshot
beside-next root next snapshot sectors block_sectors blocks beside = record {
  lists = subst (λ (n : ℕ). HasPageLists n (fields_of snapshot.root) []) (sym blocks) beside.lists;
  count = beside.count;
  sectors = beside.sectors ∙ sym sectors;
  block_sectors = beside.block_sectors ∙ sym block_sectors;
}

-- stored marks stand, where they are those in memory
pub stored-stands : {D : Type 0} (old new : Meta D) (marks : BlockMarks) (before now : State) → HasStored old marks new before now
    → new.marks ≡ marks → new.unstored ≡ false → new.snapshot ≡ old.snapshot → (meaning_in before old).held ≡ snapshot_marks old.snapshot → MetaStands new now
stored-stands old new marks before now stored same none snapshot held = record {
  keeps = stored.keeps;
  says = subst (λ (flag : Bool). IsAheadOf flag new.marks (meaning_in now new).marks) (sym none) (same ∙ sym (ap (λ (m : Meaning). m.marks) stored.says));
  held = ap (λ (m : Meaning). m.held) stored.says ∙ held ∙ ap snapshot_marks (sym snapshot);
}

-- and so do those that were stored before, where no others were stored
pub still-stands : {D : Type 0} (old new : Meta D) (marks : BlockMarks) (before now : State) → StillStores old marks new before now
    → IsAheadOf new.unstored new.marks (meaning_in before old).marks → new.snapshot ≡ old.snapshot → (meaning_in before old).held ≡ snapshot_marks old.snapshot → MetaStands new now
still-stands old new marks before now still ahead snapshot held = record {
  keeps = still.keeps;
  says = subst (λ (stored : Meaning). IsAheadOf new.unstored new.marks stored.marks) (sym still.says) ahead;
  held = ap (λ (m : Meaning). m.held) still.says ∙ held ∙ ap snapshot_marks (sym snapshot);
}

-- what a commit of marks did doesn't hang on the marks that were in memory, nor on those that come to be there
pub commits-as : {D : Type 0} (disk : Ghosts D) (old new : Meta D) (m m' n : BlockMarks) (u v : Bool) → m ≡ m'
    → CommitsMarks disk (record old { marks = m; unstored = u }) m new → CommitsMarks disk old m' (record new { marks = n; unstored = v })
commits-as disk old new m m' n u v same did =
    subst (λ (x : BlockMarks). CommitsMarks disk old x (record new { marks = n; unstored = v })) same
    (record { stored = did.stored; number = did.number; calls = did.calls })

pub fails-as : {D : Type 0} (disk : Ghosts D) (old new : Meta D) (m m' n : BlockMarks) (u v : Bool) → m ≡ m'
    → FailsToCommitMarks disk (record old { marks = m; unstored = u }) m new → FailsToCommitMarks disk old m' (record new { marks = n; unstored = v })
fails-as disk old new m m' n u v same did =
    subst (λ (x : BlockMarks). FailsToCommitMarks disk old x (record new { marks = n; unstored = v })) same
    (record {
      still = λ told. let still = did.still told in record { keeps = still.keeps; says = still.says; left = still.left };
      number = did.number;
    })

-- as many pages are put as the marks need
pub pages-count : (blocks : ℕ) (next : RootFields) (m : BlockMarks) → blocks ≡ blocks_of_marks m → length (pages_of next) ≡ page_count blocks (length next.archive) → IsRootFor next m
    → length (pages_of next) ≡ page_count (blocks_of_marks m) (length m.archive)
pages-count blocks next m same count for =
    count ∙ ap (page_count blocks) (length-sets m.archive next.archive for.archive) ∙ ap (λ (n : ℕ). page_count n (length m.archive)) same

-- as many pages as the archived sets have
archive-count : (width : ℕ) (sets : List Archived) → AllByRecursion (λ set. length set.pages ≡ width) sets → length (archive_pages sets) ≡ length sets * width
archive-count width [] all = omega arith
archive-count width (set ∷ sets) all =
    let rest = archive-count width sets all.1 in let size = length-append set.pages (archive_pages sets) in let one = all.0 in
    let split = add-mul 1 (length sets) width in let e : suc (length sets) ≡ 1 + length sets = omega arith in
    rw e (omega arith)

-- no root has more pages than a page area
lists-few : (blocks : ℕ) (root : RootFields) → length root.array ≡ array_pages_of blocks → length root.current ≡ bit_pages_of blocks → length root.archive ≤ MOST_SETS
    → AllByRecursion (λ set. length set.pages ≡ bit_pages_of blocks) root.archive → length (pages_of root) ≤ root_pages_of blocks
lists-few blocks root array current few sets =
    let w = bit_pages_of blocks in
    let front = length-append (root.array ++ root.current) (archive_pages root.archive) in
    let own = length-append root.array root.current in
    let rest = archive-count w root.archive sets in
    let most = mul-le (length root.archive) w 16 w few (let e : w ≤ w = omega arith in e) in
    omega arith

held-few : (blocks : ℕ) (root : RootFields) (is_held : Bool) (held : RootFields) → length (pages_of root) ≤ root_pages_of blocks → length (pages_of held) ≤ root_pages_of blocks
    → HaveFewPages blocks root (if is_held then Some held else None)
held-few blocks root true held one two = (one, two)
held-few blocks root false held one two = one

pub few-pages : {D : Type 0} (disk : Ghosts D) (meta : Meta D) → FitTogether disk meta
    → HaveFewPages (blocks_of_root (fields_of meta.root)) (fields_of meta.root) (snapshot_root meta.snapshot)
few-pages disk meta fit =
    let root = fields_of meta.root in let blocks = blocks_of_root root in
    held-few blocks root meta.snapshot.is_held (fields_of meta.snapshot.root)
    (lists-few blocks root fit.valid.array fit.valid.current fit.valid.count fit.valid.sets)
    (lists-few blocks (fields_of meta.snapshot.root) fit.snapshot.lists.array fit.snapshot.lists.current fit.snapshot.count fit.snapshot.lists.sets)

-- a mark keeps the geometry
pub flags-sectors : (m n : BlockMarks) (flags : List Bool) → n ≡ record m { current = flags } → n.sectors ≡ m.sectors
flags-sectors m n flags is = ap (λ (x : BlockMarks). x.sectors) is

pub flags-size : (m n : BlockMarks) (flags : List Bool) → n ≡ record m { current = flags } → n.block_sectors ≡ m.block_sectors
flags-size m n flags is = ap (λ (x : BlockMarks). x.block_sectors) is

-- and so does an era switch
merged-sectors : (m : BlockMarks) (sets : List ArchivedSet) → (with_oldest_merged m sets).sectors ≡ m.sectors
merged-sectors m [] = refl
merged-sectors m (oldest ∷ sets) = refl

merged-size : (m : BlockMarks) (sets : List ArchivedSet) → (with_oldest_merged m sets).block_sectors ≡ m.block_sectors
merged-size m [] = refl
merged-size m (oldest ∷ sets) = refl

either : (P : BlockMarks → Type 0) (flag : Bool) (one two : BlockMarks) → P one → P two → P (if flag then one else two)
either P true one two first second = first
either P false one two first second = second

pub rolled-sectors : (m : BlockMarks) → (rolled m).sectors ≡ m.sectors
rolled-sectors m = either (λ (n : BlockMarks). n.sectors ≡ m.sectors) (nat_lt (length m.archive) MOST_SETS) m (with_oldest_merged m m.archive) refl (merged-sectors m m.archive)

pub rolled-size : (m : BlockMarks) → (rolled m).block_sectors ≡ m.block_sectors
rolled-size m = either (λ (n : BlockMarks). n.block_sectors ≡ m.block_sectors) (nat_lt (length m.archive) MOST_SETS) m (with_oldest_merged m m.archive) refl (merged-size m m.archive)
