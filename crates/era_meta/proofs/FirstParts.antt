-- The parts with which a blank disk is formatted, and the metadata that they make with its slots.
use Rattle.std.proofs.Common.{◌≡◌, ℕ, ◌+◌, ◌*◌, ◌≤◌, Bool, false, List, [], Option, Some, None, length, refl, sym, ap, ◌∙◌, subst, arith}
use Rattle.std.specs.Prelude.{if◌then◌else◌}
use Rattle.std.specs.List.{AllByRecursion}
use Rattle.std.specs.Option.{option_map}
use Rattle.era_base.specs.Geometry.{bit_pages_of, blocks_of}
use Rattle.era_base.specs.CrashModel.{State}
use Rattle.era_base.specs.declared.disk.Disk.{Ghosts}
use Rattle.era_base.specs.declared.limits.TheConstants.{MOST_SETS}
use Rattle.era_layout.specs.Root.{RootFields, fields_of, numbers_from, pages_of}
use Rattle.era_layout.specs.declared.root.Root.{Root}
use Rattle.era_model.specs.Marks.{BlockMarks, blocks_of_marks}
use Rattle.era_slots.specs.declared.slots.Slots.{Slots}
use Rattle.era_meta.specs.declared.parts.Parts.{Parts}
use Rattle.era_meta.specs.declared.snapshot.Snapshot.{Snapshot}
use Rattle.era_meta.specs.Areas.{page_count, HasPageLists}
use Rattle.era_meta.specs.Content.{blocks_of_root}
use Rattle.era_meta.specs.FormatCalls.{AreFirstParts, StoresMeaning}
use Rattle.era_meta.specs.Formatting.{marks_alone}
use Rattle.era_meta.specs.Held.{snapshot_marks, snapshot_root}
use Rattle.era_meta.specs.InMemory.{FitTogether, MetaStands}
use Rattle.era_meta.specs.Keeping.{stored_in}
use Rattle.era_meta.specs.Meaning.{Meaning, marks_on, pages_in}
use Rattle.era_meta.specs.Openings.{meta_of}
use Rattle.era_meta.specs.Parts.{FitRoot, IsRoomOf}
use Rattle.era_meta.specs.Placing.{IsPlaced}
use Rattle.era_meta.specs.SaysMarks.{IsRootFor}
use Rattle.era_meta.specs.Stored.{HasBlocks, KeepsFor, IsStoredRoot}
use Rattle.era_meta.proofs.AreasPrepared.{length-sets}
use Rattle.era_meta.proofs.Firsts.{first-numbers, zeros-free}

-- room for a root and lists beside it are long enough
pub room-lists : (blocks sectors block_sectors : ℕ) (room : RootFields) (lists : List (List ℕ)) → blocks ≡ blocks_of sectors block_sectors → IsRoomOf sectors block_sectors room
    → AllByRecursion (λ pages. length pages ≡ bit_pages_of blocks) lists → length lists ≤ 3 * MOST_SETS → HasPageLists blocks room lists
room-lists blocks sectors block_sectors room lists same is sizes few = record {
  array = rw same is.array;
  current = rw same is.current;
  sets = rw is.archive tt;
  spare = sizes;
  count = let none = ap length is.archive in omega arith;
}

-- the first root of marks, beside room for the next one
pub first-parts : (m : BlockMarks) (root next : Root) (snapshot : Snapshot) (spare : List (List ℕ)) → IsRoomOf m.sectors m.block_sectors (fields_of next)
    → AllByRecursion (λ page. page ≡ 0) (pages_of (fields_of next)) → IsRootFor (fields_of root) m → IsPlaced (fields_of next) (fields_of root) None → length m.archive ≤ MOST_SETS
    → HasPageLists (blocks_of_root (fields_of root)) (fields_of root) spare → length root.archive + length spare ≡ 3 * MOST_SETS
    → IsRoomOf m.sectors m.block_sectors (fields_of snapshot.root) → snapshot.marks.sectors ≡ m.sectors → snapshot.marks.block_sectors ≡ m.block_sectors
    → FitRoot (fields_of root) (record { root = root; next = next; marks = m; snapshot = snapshot; spare = spare })
first-parts m root next snapshot spare room zero for placed few lists total held sectors block_sectors =
    let blocks = blocks_of_root (fields_of root) in
    let same : blocks ≡ blocks_of_marks m = ap (λ (n : ℕ). blocks_of n root.geometry.block_sectors) for.sectors ∙ ap (blocks_of m.sectors) for.block_sectors in
    let none = ap length room.archive in let none_held = ap length held.archive in
    record {
      is = refl;
      marks = for;
      lists = room-lists blocks m.sectors m.block_sectors (fields_of next) spare same room lists.spare (omega arith);
      total = omega arith;
      snapshot = record {
        lists = room-lists blocks m.sectors m.block_sectors (fields_of snapshot.root) [] same held tt (omega arith);
        count = omega arith;
        sectors = sectors ∙ sym for.sectors;
        block_sectors = block_sectors ∙ sym for.block_sectors;
      };
    }

pub first-pages : (m : BlockMarks) (root next : RootFields) → IsRoomOf m.sectors m.block_sectors next → AllByRecursion (λ page. page ≡ 0) (pages_of next)
    → IsRootFor root m → IsPlaced next root None → length m.archive ≤ MOST_SETS → pages_of root ≡ numbers_from 3 (page_count (blocks_of_marks m) (length m.archive))
first-pages m root next room zero for placed few =
    let blocks = blocks_of_root next in
    let same : blocks ≡ blocks_of_marks m = ap (λ (n : ℕ). blocks_of n next.block_sectors) room.sectors_same ∙ ap (blocks_of m.sectors) room.size_same in
    let count : length root.archive ≡ length m.archive = length-sets m.archive root.archive for.archive in
    first-numbers blocks (pages_of next) root (zeros-free blocks 0 (pages_of next) zero) placed.blocks (omega (arith, count, few))
    ∙ ap (numbers_from 3) (ap (page_count blocks) count ∙ ap (λ (n : ℕ). page_count n (length m.archive)) same)

-- without a snapshot in memory no held root is kept
unheld-root : (snapshot : Snapshot) → snapshot.is_held ≡ false → snapshot_root snapshot ≡ None
unheld-root snapshot none = ap (λ (flag : Bool). if flag then Some (fields_of snapshot.root) else None) none

unheld-marks : (snapshot : Snapshot) → snapshot.is_held ≡ false → snapshot_marks snapshot ≡ None
unheld-marks snapshot none = ap (λ (flag : Bool). if flag then Some snapshot.marks else None) none

pub first-stands : {D : Type 0} (slots : Slots D) (parts : Parts) (now : State) → parts.snapshot.is_held ≡ false
    → IsStoredRoot slots (fields_of parts.root) None (marks_alone parts.marks) now → MetaStands (meta_of slots parts) now
first-stands slots parts now none stored =
    let unheld = unheld-root parts.snapshot none in
    record {
      keeps = subst (λ (held : Option RootFields). KeepsFor slots (fields_of parts.root) held now) (sym unheld) stored.keeps;
      says = sym (ap (λ (meaning : Meaning). meaning.marks) stored.says);
      held = ap (option_map (marks_on (pages_in now.seen))) unheld ∙ sym (unheld-marks parts.snapshot none);
    }

pub first-stores : {D : Type 0} (slots : Slots D) (parts : Parts) (now : State) → parts.snapshot.is_held ≡ false
    → IsStoredRoot slots (fields_of parts.root) None (marks_alone parts.marks) now → StoresMeaning (meta_of slots parts) (marks_alone parts.marks) now
first-stores slots parts now none stored = record {
  says = ap (stored_in now (fields_of parts.root)) (unheld-root parts.snapshot none) ∙ stored.says;
  images = stored.images;
}

pub first-fit : {D : Type 0} (disk : Ghosts D) (slots : Slots D) (parts : Parts) → AreFirstParts parts.marks parts → HasBlocks (fields_of parts.root) (disk.sectors slots.disk)
    → FitTogether disk (meta_of slots parts)
first-fit disk slots parts are room = record {
  valid = are.valid;
  sectors = are.fit.marks.sectors;
  block_sectors = are.fit.marks.block_sectors;
  lists = are.fit.lists;
  total = are.fit.total;
  snapshot = are.fit.snapshot;
  room = room;
}
