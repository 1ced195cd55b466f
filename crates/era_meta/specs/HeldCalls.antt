-- What the calls that take a snapshot, or drop it, did over the slots: the committed root is committed again with another snapshot flag. A definition takes the members of the disk's trait, as `D.Disk`.
use Rattle.std.specs.Prelude.{◌≡◌, ℕ, ◌+◌, ◌⊎◌, Bool, true, List, [], ◌∷◌, length, Option, Some, None, if◌then◌else◌}
use Rattle.era_base.specs.CrashModel.{Went, Leaves}
use Rattle.era_base.specs.declared.disk.Disk.{Ghosts}
use Rattle.era_layout.specs.Root.{RootFields}
use Rattle.era_slots.specs.declared.slots.Slots.{Slots}
use Rattle.era_base.specs.CrashModel.{State}
use Rattle.era_meta.specs.Meaning.{Meaning, IsImageOf}
use Rattle.era_meta.specs.Keeping.{stored_in, IsOfLeft, MayLeave}
use Rattle.era_meta.specs.Stored.{KeepsFor, MayCommitTo, IsStoredRoot}
use Rattle.era_meta.specs.StoredMarks.{IsStillStoredOr}

-- A root whose flag tells whether a snapshot is held.
abbrev pub with_flag : RootFields → Bool → RootFields
with_flag root taken = record root { held = taken }

-- The root that is held: the committed one where a snapshot is taken, and none where one is dropped.
abbrev pub held_by_taking : Bool → RootFields → Option RootFields
held_by_taking taken root = if taken then Some root else None

-- The metadata blocks that are put: block 2 where a snapshot is taken, and none where one is dropped.
abbrev pub blocks_put : Bool → List ℕ
blocks_put taken = if taken then 2 ∷ [] else []

-- A meaning with its own marks as the snapshot, or without one.
abbrev pub with_snapshot : Bool → Meaning → Meaning
with_snapshot taken meaning = record { marks = meaning.marks; held = if taken then Some meaning.marks else None }

-- The disk keeps the committed root beside slots, and none is held where a snapshot is to be taken.
pub record MayHold {D : Type 0} (slots : Slots D) (root : RootFields) (held : Option RootFields) (taken : Bool) (now : State) : Type 0 where
  pub keeps : KeepsFor slots root held now
  pub none : taken ≡ true → held ≡ None

-- At each moment until the root is committed, each crash image stands for what it says with its present snapshot, or for what was left before.
abbrev pub PreparesHeld : {D : Type 0} → Ghosts D → RootFields → Bool → Slots D → Slots D → Type 0
PreparesHeld disk root taken old new = disk.tells ≡ true → (held : Option RootFields)
    → MayHold old root held taken (disk.history old.disk).now
    → Went (λ before now. Leaves (λ image. IsImageOf (stored_in before root held) image ⊎ IsOfLeft old.target old.number old.may_be_open before image) now)
    (disk.history old.disk) (disk.history new.disk)

-- The root may be committed with its new flag: it says its own marks as the snapshot then, or has none.
pub record IsHeldPrepared {D : Type 0} (slots : Slots D) (root : RootFields) (held : Option RootFields) (taken : Bool) (old : Meaning) (now : State) : Type 0 where
  pub may : MayCommitTo slots root (with_flag root taken) held (held_by_taking taken root) now
  pub says : stored_in now root held ≡ old
  pub next_says : stored_in now (with_flag root taken) (held_by_taking taken root) ≡ with_snapshot taken old

-- What was to be put is put.
abbrev pub HasPreparedHeld : {D : Type 0} → Ghosts D → RootFields → Bool → Slots D → Slots D → Type 0
HasPreparedHeld disk root taken old new = disk.tells ≡ true → (held : Option RootFields)
    → MayHold old root held taken (disk.history old.disk).now
    → IsHeldPrepared new root held taken (stored_in (disk.history old.disk).now root held) (disk.history new.disk).now

-- It wasn't put: what is stored is as before, and what a failed commit left was left before.
abbrev pub FailsToPrepareHeld : {D : Type 0} → Ghosts D → RootFields → Bool → Slots D → Slots D → Type 0
FailsToPrepareHeld disk root taken old new = disk.tells ≡ true → (held : Option RootFields)
    → MayHold old root held taken (disk.history old.disk).now
    → (other : Meaning) → IsStillStoredOr old new root held other (disk.history old.disk).now (disk.history new.disk).now

-- At each moment of the taking or dropping, each crash image stands for what is stored, or for that with the new snapshot, or for what was left before.
abbrev pub StoresHeld : {D : Type 0} → Ghosts D → RootFields → Bool → Slots D → Slots D → Type 0
StoresHeld disk root taken old new = disk.tells ≡ true → (held : Option RootFields)
    → MayHold old root held taken (disk.history old.disk).now
    → Went (λ before now. MayLeave old.target old.number old.may_be_open (stored_in before root held) (with_snapshot taken (stored_in before root held)) before now)
    (disk.history old.disk) (disk.history new.disk)

-- It answered Ok: the root with its new flag is the committed one.
abbrev pub HasStoredHeld : {D : Type 0} → Ghosts D → RootFields → Bool → Slots D → Slots D → Type 0
HasStoredHeld disk root taken old new = disk.tells ≡ true → (held : Option RootFields)
    → MayHold old root held taken (disk.history old.disk).now
    → IsStoredRoot new (with_flag root taken) (held_by_taking taken root) (with_snapshot taken (stored_in (disk.history old.disk).now root held)) (disk.history new.disk).now

-- It failed: what is stored is as before, and what is left is that with the new snapshot, or was left before.
abbrev pub FailsToStoreHeld : {D : Type 0} → Ghosts D → RootFields → Bool → Slots D → Slots D → Type 0
FailsToStoreHeld disk root taken old new = disk.tells ≡ true → (held : Option RootFields)
    → MayHold old root held taken (disk.history old.disk).now
    → IsStillStoredOr old new root held (with_snapshot taken (stored_in (disk.history old.disk).now root held)) (disk.history old.disk).now (disk.history new.disk).now

-- How many device calls are made until the root may be committed: two where the gate may be open, and one for block 2 where a snapshot is taken.
abbrev pub holding_calls : Bool → Bool → ℕ
holding_calls may_be_open taken = (if may_be_open then 2 else 0) + length (blocks_put taken)
