-- What taking a snapshot and dropping it did, over the metadata. A definition takes the members of the disk's trait, as `D.Disk`.
use Rattle.std.specs.Prelude.{◌≡◌, ◌+◌, ◌⊎◌, Bool, true, false, Some, None, if◌then◌else◌}
use Rattle.era_base.specs.CrashModel.{State}
use Rattle.era_base.specs.Calls.{MakesCalls, SameDisk}
use Rattle.era_base.specs.declared.disk.Disk.{Ghosts}
use Rattle.era_layout.specs.Root.{fields_of}
use Rattle.era_slots.specs.Calls.{AtEnd}
use Rattle.era_meta.specs.declared.metadata.Meta.{Meta}
use Rattle.era_meta.specs.Held.{snapshot_marks, snapshot_root}
use Rattle.era_meta.specs.HeldCalls.{holding_calls, with_flag, with_snapshot}
use Rattle.era_meta.specs.InMemory.{meaning_in, KeepsMeta}
use Rattle.era_meta.specs.Keeping.{IsLeft, MayLeave}
use Rattle.era_meta.specs.Meaning.{Meaning}
use Rattle.era_meta.specs.MetaCalls.{IsInMemory}
use Rattle.era_meta.specs.Stored.{IsStoredRoot}

-- A moment of a call that takes a snapshot, or drops it: each crash image stands for what is stored, or for that with the new snapshot, or for what was left before.
abbrev pub MetaHolds : {D : Type 0} → Meta D → Bool → State → State → Type 0
MetaHolds meta taken before now =
    MayLeave meta.slots.target meta.slots.number meta.slots.may_be_open (meaning_in before meta) (with_snapshot taken (meaning_in before meta)) before now

-- The new snapshot is stored, and each crash image stands for the marks with it.
abbrev pub HasHeld : {D : Type 0} → Meta D → Bool → Meta D → State → State → Type 0
HasHeld old taken new before now =
    IsStoredRoot new.slots (fields_of new.root) (snapshot_root new.snapshot) (with_snapshot taken (meaning_in before old)) now

-- It isn't stored: what is stored is as before, and what a failed commit left is that with the new snapshot, or was left before.
pub record StillHolds {D : Type 0} (old : Meta D) (taken : Bool) (new : Meta D) (before now : State) : Type 0 where
  pub keeps : KeepsMeta new now
  pub says : meaning_in now new ≡ meaning_in before old
  pub left : new.slots.may_be_open ≡ true → (left : Meaning) → IsLeft new.slots.target new.slots.number left now
      → (left ≡ with_snapshot taken (meaning_in before old)) ⊎ ((old.slots.may_be_open ≡ true) × IsLeft old.slots.target old.slots.number left before)

-- A snapshot of the marks was taken, or the snapshot was dropped: so it is stored and in memory, the committed root has its pages as before, and so has the root of a snapshot that was taken; the number of the commit is one more, and just the device calls of one commit were made.
pub record CommitsSnapshot {D : Type 0} (disk : Ghosts D) (old : Meta D) (taken : Bool) (new : Meta D) : Type 0 where
  pub stored : AtEnd disk (HasHeld old taken new) old.slots.disk new.slots.disk
  pub snapshot : snapshot_marks new.snapshot ≡ (if taken then Some old.marks else None)
  pub root : fields_of new.root ≡ with_flag (fields_of old.root) taken
  pub shared : snapshot_root new.snapshot ≡ (if taken then Some (with_flag (fields_of old.root) false) else None)
  pub number : new.slots.number ≡ old.slots.number + 1
  pub calls : MakesCalls disk (holding_calls old.slots.may_be_open taken + 4) old.slots.disk new.slots.disk

-- It wasn't taken, or dropped: what is stored and in memory is as before, and so is the number of the last commit.
pub record FailsToCommitSnapshot {D : Type 0} (disk : Ghosts D) (old : Meta D) (taken : Bool) (new : Meta D) : Type 0 where
  pub still : AtEnd disk (StillHolds old taken new) old.slots.disk new.slots.disk
  pub snapshot : new.snapshot ≡ old.snapshot
  pub number : new.slots.number ≡ old.slots.number

-- The marks in memory are as before, none of them is unstored, and the disk has its place and its size.
pub record KeepsMarks {D : Type 0} (disk : Ghosts D) (old new : Meta D) : Type 0 where
  pub memory : IsInMemory new old.marks false
  pub device : SameDisk disk old.slots.disk new.slots.disk
