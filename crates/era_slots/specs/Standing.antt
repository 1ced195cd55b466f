-- What holds of the slots at every moment between the calls and inside them.
use Rattle.std.specs.Prelude.{◌≡◌, ℕ, ◌+◌, ◌*◌, ◌^◌, ◌<◌, ◌≤◌, ◌⊎◌, Bool, true, false, length}
use Rattle.era_base.specs.CrashModel.{State, is_pending}
use Rattle.era_slots.specs.Slot.{other, SlotIsOpen, SlotIsClosed, commit_number, IsCommitNumber}

-- No byte from one offset up to another is pending.
abbrev pub IsCleanIn : ℕ → ℕ → State → Type 0
IsCleanIn from to state = (offset : ℕ) → from ≤ offset → offset < to → is_pending state offset ≡ false

-- No byte outside those from one offset up to another is pending.
abbrev pub IsCleanBut : ℕ → ℕ → State → Type 0
IsCleanBut from to state = (offset : ℕ) → (from ≤ offset → to ≤ offset) → offset < length state.seen → is_pending state offset ≡ false

-- A metadata block is on the disk: nothing of it is pending.
abbrev pub IsDurable : ℕ → State → Type 0
IsDurable block state = IsCleanIn (4096 * block) (4096 * block + 4096) state

-- A slot's gate is closed, on the disk too.
pub record IsKnownClosed (slot : ℕ) (state : State) : Type 0 where
  pub clean : IsCleanIn (4096 * slot) (4096 * slot + 512) state
  pub closed : SlotIsClosed slot state.seen

-- A slot has the committed body of this number, on the disk too.
pub record IsCommitted (slot number : ℕ) (state : State) : Type 0 where
  pub clean : IsDurable slot state
  pub opened : SlotIsOpen slot state.seen
  pub numbered : commit_number slot state.seen ≡ number

-- A slot has a body on the disk, under a gate of which nothing is known: one that is older than the committed body of
-- this number, or the next one, whose commit failed in opening its gate.
pub record IsOlderOrFailed (slot number : ℕ) (state : State) : Type 0 where
  pub clean : IsCleanIn (4096 * slot + 512) (4096 * slot + 4096) state
  pub numbered : IsCommitNumber (commit_number slot state.seen)
  pub order : (commit_number slot state.seen < number) ⊎ (commit_number slot state.seen ≡ number + 1)

-- The target is the slot of the next commit, the number is that of the committed body, 0 where there is none, and the
-- gate of the target is known to be closed unless it may be open.
pub record Stands (target number : ℕ) (may_be_open : Bool) (state : State) : Type 0 where
  pub slot : target < 2
  pub size : 12288 ≤ length state.seen
  pub below : number < 2 ^ 63
  pub blank : number ≡ 0 → IsKnownClosed (other target) state
  pub committed : 0 < number → IsCommitted (other target) number state
  pub closed : may_be_open ≡ false → IsKnownClosed target state
  pub left : may_be_open ≡ true → IsOlderOrFailed target number state
