-- What two slots are together, by their heads: the gate and the commit number of each.
use Rattle.std.specs.Prelude.{◌≡◌, ◌<◌, ◌⊎◌, ◌↔◌, true, false, List, ℕ}
use Rattle.era_slots.specs.declared.heads.Found.{Found}
use Rattle.era_slots.specs.declared.heads.Found.TheVariants.{NoneOpen, BadSequence, Tied, Active}
use Rattle.era_slots.specs.declared.heads.Head.{Head}
use Rattle.era_slots.specs.Slot.{SlotIsOpen, commit_number, IsCommitNumber, IsBadNumber}

-- The gate and the number of a slot of these bytes, which stand alone as those of slot 0 do.
pub record IsHeadOf (slot : List ℕ) (head : Head) : Type 0 where
  pub opened : (head.is_open ≡ true) ↔ SlotIsOpen 0 slot
  pub numbered : head.number ≡ commit_number 0 slot

-- The gate is open over a number that no commit has.
abbrev pub IsBadHead : Head → Type 0
IsBadHead head = (head.is_open ≡ true) × IsBadNumber head.number

-- The head is the active one beside another: it is open over a commit's number, and the other one is closed or has a smaller number.
pub record IsActiveHead (head beside : Head) : Type 0 where
  pub opened : head.is_open ≡ true
  pub numbered : IsCommitNumber head.number
  pub newest : beside.is_open ≡ true → (0 < beside.number) × (beside.number < head.number)

-- Both heads are open with one number, which a commit may have.
pub record AreTiedHeads (first second : Head) : Type 0 where
  pub opened : first.is_open ≡ true
  pub beside : second.is_open ≡ true
  pub same : first.number ≡ second.number
  pub numbered : IsCommitNumber first.number

-- What two heads are: the answers exclude one another, and one of them always holds.
abbrev pub IsFound : Head → Head → Found → Type 0
IsFound first second NoneOpen = (first.is_open ≡ false) × (second.is_open ≡ false)
IsFound first second (BadSequence slot) = ((slot ≡ 0) × IsBadHead first) ⊎ ((slot ≡ 1) × (¬ IsBadHead first) × IsBadHead second)
IsFound first second Tied = AreTiedHeads first second
IsFound first second (Active slot) = ((slot ≡ 0) × IsActiveHead first second) ⊎ ((slot ≡ 1) × IsActiveHead second first)
