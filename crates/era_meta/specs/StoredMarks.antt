-- What the calls that store marks did, over the slots. A definition takes the members of the disk's trait, as `D.Disk`.
use Rattle.std.specs.Prelude.{◌≡◌, ℕ, ◌+◌, ◌⊎◌, Bool, true, length, Option, if◌then◌else◌}
use Rattle.era_base.specs.CrashModel.{State, Went, Leaves}
use Rattle.era_base.specs.declared.disk.Disk.{Ghosts}
use Rattle.era_layout.specs.Root.{RootFields, pages_of}
use Rattle.era_model.specs.Marks.{BlockMarks}
use Rattle.era_slots.specs.declared.slots.Slots.{Slots}
use Rattle.era_meta.specs.Meaning.{Meaning, IsImageOf}
use Rattle.era_meta.specs.Keeping.{stored_in, IsLeft, IsOfLeft, MayLeave}
use Rattle.era_meta.specs.Putting.{ArePagesFresh}
use Rattle.era_meta.specs.Stored.{KeepsFor, MayCommitTo, IsStoredRoot}

-- The marks of a meaning are these, and its snapshot is what it was.
abbrev pub with_marks : Meaning → BlockMarks → Meaning
with_marks meaning marks = record { marks = marks; held = meaning.held }

-- For each root that a disk keeps beside slots, with none of whose blocks the pages of the next root are shared.
pub record MayStore {D : Type 0} (slots : Slots D) (root next : RootFields) (held : Option RootFields) (now : State) : Type 0 where
  pub keeps : KeepsFor slots root held now
  pub fresh : ArePagesFresh (pages_of next) root next held

-- At each moment until marks are committed, each crash image stands for what the committed root says, or for what was left before.
abbrev pub PreparesMarks : {D : Type 0} → Ghosts D → RootFields → Slots D → Slots D → Type 0
PreparesMarks disk next old new = disk.tells ≡ true → (root : RootFields) (held : Option RootFields)
    → MayStore old root next held (disk.history old.disk).now
    → Went (λ before now. Leaves (λ image. IsImageOf (stored_in before root held) image ⊎ IsOfLeft old.target old.number old.may_be_open before image) now)
    (disk.history old.disk) (disk.history new.disk)

-- The next root may be committed: its pages say the marks, and the snapshot and what is stored are what they were.
pub record IsPrepared {D : Type 0} (slots : Slots D) (root next : RootFields) (held : Option RootFields) (marks : BlockMarks) (old : Meaning) (now : State) : Type 0 where
  pub may : MayCommitTo slots root next held held now
  pub says : stored_in now root held ≡ old
  pub next_says : stored_in now next held ≡ with_marks old marks

-- Pages of marks were put, each with Ok: the next root may be committed.
abbrev pub HasPreparedMarks : {D : Type 0} → Ghosts D → RootFields → BlockMarks → Slots D → Slots D → Type 0
HasPreparedMarks disk next marks old new = disk.tells ≡ true → (root : RootFields) (held : Option RootFields)
    → MayStore old root next held (disk.history old.disk).now
    → IsPrepared new root next held marks (stored_in (disk.history old.disk).now root held) (disk.history new.disk).now

-- The committed root is as before, and so is what it says; what a failed commit left is one meaning, or was left before.
pub record IsStillStoredOr {D : Type 0} (old new : Slots D) (root : RootFields) (held : Option RootFields) (next : Meaning) (before now : State) : Type 0 where
  pub keeps : KeepsFor new root held now
  pub says : stored_in now root held ≡ stored_in before root held
  pub left : new.may_be_open ≡ true → (left : Meaning) → IsLeft new.target new.number left now
      → (left ≡ next) ⊎ ((old.may_be_open ≡ true) × IsLeft old.target old.number left before)

-- Marks weren't put: the committed root is as before, and what a failed commit left was left before.
abbrev pub FailsToPrepare : {D : Type 0} → Ghosts D → RootFields → Slots D → Slots D → Type 0
FailsToPrepare disk next old new = disk.tells ≡ true → (root : RootFields) (held : Option RootFields)
    → MayStore old root next held (disk.history old.disk).now
    → (other : Meaning) → IsStillStoredOr old new root held other (disk.history old.disk).now (disk.history new.disk).now

-- At each moment of a storing of marks, each crash image stands for what the committed root says or for that with these marks, or for what was left before.
abbrev pub StoresMarks : {D : Type 0} → Ghosts D → RootFields → BlockMarks → Slots D → Slots D → Type 0
StoresMarks disk next marks old new = disk.tells ≡ true → (root : RootFields) (held : Option RootFields)
    → MayStore old root next held (disk.history old.disk).now
    → Went (λ before now. MayLeave old.target old.number old.may_be_open (stored_in before root held) (with_marks (stored_in before root held) marks) before now)
    (disk.history old.disk) (disk.history new.disk)

-- A storing of marks that answered Ok: the next root is the committed one, and it says these marks and the snapshot that was there.
abbrev pub HasStoredMarks : {D : Type 0} → Ghosts D → RootFields → BlockMarks → Slots D → Slots D → Type 0
HasStoredMarks disk next marks old new = disk.tells ≡ true → (root : RootFields) (held : Option RootFields)
    → MayStore old root next held (disk.history old.disk).now
    → IsStoredRoot new next held (with_marks (stored_in (disk.history old.disk).now root held) marks) (disk.history new.disk).now

-- A storing of marks that failed: what is stored is as before, and what is left is these marks or was left before.
abbrev pub FailsToStoreMarks : {D : Type 0} → Ghosts D → RootFields → BlockMarks → Slots D → Slots D → Type 0
FailsToStoreMarks disk next marks old new = disk.tells ≡ true → (root : RootFields) (held : Option RootFields)
    → MayStore old root next held (disk.history old.disk).now
    → IsStillStoredOr old new root held (with_marks (stored_in (disk.history old.disk).now root held) marks)
    (disk.history old.disk).now (disk.history new.disk).now

-- How many device calls are made until all pages of a root are put: two where the gate may be open, and one a page.
abbrev pub putting_calls : Bool → RootFields → ℕ
putting_calls may_be_open root = (if may_be_open then 2 else 0) + length (pages_of root)
