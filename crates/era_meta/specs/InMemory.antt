-- The metadata in memory beside its disk: how they belong together, and how the calls change both. A definition takes the members of the disk's trait, as `D.Disk`.
use Rattle.std.specs.Prelude.{◌≡◌, ◌+◌, ◌*◌, ◌≤◌, ◌⊎◌, [], Bool, true, length, if◌then◌else◌}
use Rattle.era_base.specs.CrashModel.{State, Leaves}
use Rattle.era_base.specs.declared.disk.Disk.{Ghosts}
use Rattle.era_base.specs.declared.limits.TheConstants.{MOST_SETS}
use Rattle.era_layout.specs.Root.{RootFields, fields_of, IsValidRoot}
use Rattle.era_model.specs.Marks.{BlockMarks, rolled}
use Rattle.era_meta.specs.declared.metadata.Meta.{Meta}
use Rattle.era_meta.specs.declared.snapshot.Snapshot.{Snapshot}
use Rattle.era_meta.specs.Areas.{HasPageLists}
use Rattle.era_meta.specs.Content.{blocks_of_root}
use Rattle.era_meta.specs.Held.{snapshot_root, snapshot_marks}
use Rattle.era_meta.specs.Meaning.{Meaning, IsImageOf}
use Rattle.era_meta.specs.Keeping.{stored_in, IsLeft, MayLeave}
use Rattle.era_meta.specs.Stored.{KeepsFor, HasBlocks, IsStoredRoot}
use Rattle.era_meta.specs.StoredMarks.{with_marks}

-- What is stored: what the committed root and the held root say, as the disk is read.
abbrev pub meaning_in : {D : Type 0} → State → Meta D → Meaning
meaning_in now meta = stored_in now (fields_of meta.root) (snapshot_root meta.snapshot)

-- A snapshot, or the room for one, is of a root's geometry: its lists are as long as those of the root, and it has no more archived sets than there can be.
pub record IsSnapshotBeside (root : RootFields) (snapshot : Snapshot) : Type 0 where
  pub lists : HasPageLists (blocks_of_root root) (fields_of snapshot.root) []
  pub count : length snapshot.root.archive ≤ MOST_SETS
  pub sectors : snapshot.marks.sectors ≡ root.sectors
  pub block_sectors : snapshot.marks.block_sectors ≡ root.block_sectors

-- The parts in memory belong together: the roots are of one geometry, which is that of the marks and of the snapshot's; the disk has the blocks that they need; and there are as many lists of pages as three roots may have.
pub record FitTogether {D : Type 0} (disk : Ghosts D) (meta : Meta D) : Type 0 where
  pub valid : IsValidRoot (fields_of meta.root)
  pub sectors : meta.root.geometry.sectors ≡ meta.marks.sectors
  pub block_sectors : meta.root.geometry.block_sectors ≡ meta.marks.block_sectors
  pub lists : HasPageLists (blocks_of_root (fields_of meta.root)) (fields_of meta.next) meta.spare
  pub total : length meta.root.archive + length meta.snapshot.root.archive + (length meta.next.archive + length meta.spare) ≡ 3 * MOST_SETS
  pub snapshot : IsSnapshotBeside (fields_of meta.root) meta.snapshot
  pub room : HasBlocks (fields_of meta.root) (disk.sectors meta.slots.disk)

-- The disk keeps the committed root and the held root.
abbrev pub KeepsMeta : {D : Type 0} → Meta D → State → Type 0
KeepsMeta meta now = KeepsFor meta.slots (fields_of meta.root) (snapshot_root meta.snapshot) now

-- The marks in memory are the stored ones, or those after one era switch that isn't stored.
abbrev pub IsAheadOf : Bool → BlockMarks → BlockMarks → Type 0
IsAheadOf unstored marks stored = marks ≡ (if unstored then rolled stored else stored)

-- The metadata stands on its disk: what is stored is kept, the marks in memory are the stored ones or one era switch ahead, and the snapshot in memory is the stored one.
pub record MetaStands {D : Type 0} (meta : Meta D) (now : State) : Type 0 where
  pub keeps : KeepsMeta meta now
  pub says : IsAheadOf meta.unstored meta.marks (meaning_in now meta).marks
  pub held : (meaning_in now meta).held ≡ snapshot_marks meta.snapshot

-- A moment of a call that stores marks: each crash image stands for what is stored, or for that with these marks, or for what was left before.
abbrev pub MetaStores : {D : Type 0} → Meta D → BlockMarks → State → State → Type 0
MetaStores meta marks before now =
    MayLeave meta.slots.target meta.slots.number meta.slots.may_be_open (meaning_in before meta) (with_marks (meaning_in before meta) marks) before now

-- Marks are stored: the disk keeps them with the snapshot that was there, and each crash image stands for them.
abbrev pub HasStored : {D : Type 0} → Meta D → BlockMarks → Meta D → State → State → Type 0
HasStored old marks new before now =
    IsStoredRoot new.slots (fields_of new.root) (snapshot_root new.snapshot) (with_marks (meaning_in before old) marks) now

-- Marks aren't stored: what is stored is as before, and what a failed commit left is these marks or was left before.
pub record StillStores {D : Type 0} (old : Meta D) (marks : BlockMarks) (new : Meta D) (before now : State) : Type 0 where
  pub keeps : KeepsMeta new now
  pub says : meaning_in now new ≡ meaning_in before old
  pub left : new.slots.may_be_open ≡ true → (left : Meaning) → IsLeft new.slots.target new.slots.number left now
      → (left ≡ with_marks (meaning_in before old) marks) ⊎ ((old.slots.may_be_open ≡ true) × IsLeft old.slots.target old.slots.number left before)

-- A crash may bring this meaning back now: it is what is stored, or what a commit that failed in opening its gate was storing.
abbrev pub MayComeBack : {D : Type 0} → Meta D → Meaning → State → Type 0
MayComeBack meta meaning now =
    (meaning ≡ meaning_in now meta) ⊎ ((meta.slots.may_be_open ≡ true) × IsLeft meta.slots.target meta.slots.number meaning now)

-- Each crash image stands for a meaning that a crash may bring back now.
abbrev pub LeavesMeanings : {D : Type 0} → Meta D → State → Type 0
LeavesMeanings meta now = Leaves (λ image. (meaning : Meaning) × MayComeBack meta meaning now × IsImageOf meaning image) now
