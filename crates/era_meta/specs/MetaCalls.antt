-- What the calls on the metadata ask, and what each of them did, over the struct. A definition takes the members of the disk's trait, as `D.Disk`.
use Rattle.std.specs.Prelude.{◌≡◌, ℕ, ◌+◌, ◌-◌, ◌^◌, ◌<◌, Bool, false, length, if◌then◌else◌}
use Rattle.era_base.specs.Calls.{Now, MakesCalls, SameDisk}
use Rattle.era_base.specs.declared.disk.Disk.{Ghosts}
use Rattle.era_model.specs.Marks.{BlockMarks, blocks_of_marks}
use Rattle.era_slots.specs.Calls.{AtEnd}
use Rattle.era_meta.specs.declared.metadata.Meta.{Meta}
use Rattle.era_meta.specs.Areas.{page_count}
use Rattle.era_meta.specs.InMemory.{FitTogether, HasStored, KeepsMeta, MetaStands, StillStores}

-- The metadata stands: its parts in memory belong together, and it stands on its disk.
pub record IsStanding {D : Type 0} (disk : Ghosts D) (meta : Meta D) : Type 0 where
  pub fit : FitTogether disk meta
  pub stands : Now disk (MetaStands meta) meta.slots.disk

-- A number is left for the next commit.
abbrev pub HasNumbersLeft : {D : Type 0} → Meta D → Type 0
HasNumbersLeft meta = meta.slots.number < 2 ^ 63 - 1

-- The marks may be changed: the metadata stands, nothing is unstored, and a number is left for the next commit.
pub record IsReady {D : Type 0} (disk : Ghosts D) (meta : Meta D) : Type 0 where
  pub standing : IsStanding disk meta
  pub stored : meta.unstored ≡ false
  pub below : HasNumbersLeft meta

-- Marks may be stored that needn't be those after what is stored: the parts in memory belong together, the disk keeps the committed root and the held one, and a number is left.
pub record CanStore {D : Type 0} (disk : Ghosts D) (meta : Meta D) : Type 0 where
  pub fit : FitTogether disk meta
  pub keeps : Now disk (KeepsMeta meta) meta.slots.disk
  pub below : HasNumbersLeft meta

-- How many device calls a commit of marks makes: two where the gate of its slot may be open, a write for each page, and four for the root.
abbrev pub storing_calls : Bool → BlockMarks → ℕ
storing_calls may_be_open m = (if may_be_open then 2 else 0) + page_count (blocks_of_marks m) (length m.archive) + 4

-- Marks were stored: the disk keeps them, the number of the commit is one more, and just the device calls of one commit were made.
pub record CommitsMarks {D : Type 0} (disk : Ghosts D) (old : Meta D) (marks : BlockMarks) (new : Meta D) : Type 0 where
  pub stored : AtEnd disk (HasStored old marks new) old.slots.disk new.slots.disk
  pub number : new.slots.number ≡ old.slots.number + 1
  pub calls : MakesCalls disk (storing_calls old.slots.may_be_open marks) old.slots.disk new.slots.disk

-- Marks were not stored: what is stored is as before, and so is the number of the last commit.
pub record FailsToCommitMarks {D : Type 0} (disk : Ghosts D) (old : Meta D) (marks : BlockMarks) (new : Meta D) : Type 0 where
  pub still : AtEnd disk (StillStores old marks new) old.slots.disk new.slots.disk
  pub number : new.slots.number ≡ old.slots.number

-- The marks in memory are these, and the flag tells whether they are one era switch ahead of what is stored.
pub record IsInMemory {D : Type 0} (meta : Meta D) (m : BlockMarks) (is_ahead : Bool) : Type 0 where
  pub marks : meta.marks ≡ m
  pub unstored : meta.unstored ≡ is_ahead

-- The snapshot in memory is as before, and the disk has its place and its size.
pub record KeepsSnapshot {D : Type 0} (disk : Ghosts D) (old new : Meta D) : Type 0 where
  pub snapshot : new.snapshot ≡ old.snapshot
  pub device : SameDisk disk old.slots.disk new.slots.disk
