-- The two slots of a metadata disk as bytes: the blocks 0 and 1, of 4,096 bytes each.
use Rattle.std.specs.Prelude.{◌≡◌, ℕ, ◌+◌, ◌-◌, ◌*◌, ◌^◌, ◌<◌, ◌≤◌, ◌⊎◌, List, ◌∷◌, slice_index, replicate}
use Rattle.std.specs.Int.{w64, from_le_bytes}
use Rattle.era_base.specs.Bytes.{part}

-- The other one of the two slots.
abbrev pub other : ℕ → ℕ
other slot = 1 - slot

-- A slot's gate, its commit flag, is open: the first byte of the slot is 1, whatever the rest of that sector is.
abbrev pub SlotIsOpen : ℕ → List ℕ → Type 0
SlotIsOpen slot bytes = slice_index bytes (4096 * slot) ≡ 1

-- A slot's gate is closed.
abbrev pub SlotIsClosed : ℕ → List ℕ → Type 0
SlotIsClosed slot bytes = ¬ SlotIsOpen slot bytes

-- A slot's gate sector.
abbrev pub gate_of : ℕ → List ℕ → List ℕ
gate_of slot bytes = part (4096 * slot) 512 bytes

-- The number of the commit that wrote a slot's body.
unfoldable pub commit_number : ℕ → List ℕ → ℕ
commit_number slot bytes = from_le_bytes w64 (part (4096 * slot + 512) 8 bytes)

-- A slot's body, its payload of 3,576 bytes.
unfoldable pub body_of : ℕ → List ℕ → List ℕ
body_of slot bytes = part (4096 * slot + 520) 3576 bytes

-- A metadata block of 4,096 bytes.
abbrev pub page_of : ℕ → List ℕ → List ℕ
page_of block bytes = part (4096 * block) 4096 bytes

-- A number that a commit may have.
abbrev pub IsCommitNumber : ℕ → Type 0
IsCommitNumber number = (0 < number) × (number < 2 ^ 63)

-- A number that no commit has.
abbrev pub IsBadNumber : ℕ → Type 0
IsBadNumber number = (number ≡ 0) ⊎ (2 ^ 63 ≤ number)

-- Neither gate is open.
abbrev pub IsBlank : List ℕ → Type 0
IsBlank bytes = SlotIsClosed 0 bytes × SlotIsClosed 1 bytes

-- A slot's gate is open over a number that no commit has.
abbrev pub HasBadNumber : ℕ → List ℕ → Type 0
HasBadNumber slot bytes = SlotIsOpen slot bytes × IsBadNumber (commit_number slot bytes)

-- Both gates are open over one number, which a commit may have.
pub record IsTied (bytes : List ℕ) : Type 0 where
  pub first : SlotIsOpen 0 bytes
  pub second : SlotIsOpen 1 bytes
  pub same : commit_number 0 bytes ≡ commit_number 1 bytes
  pub numbered : IsCommitNumber (commit_number 0 bytes)

-- The slot is the active one: its gate is open over the number of a commit, and the other one's is closed or is open over a smaller one.
pub record IsActive (slot : ℕ) (bytes : List ℕ) : Type 0 where
  pub opened : SlotIsOpen slot bytes
  pub numbered : IsCommitNumber (commit_number slot bytes)
  pub newest : SlotIsOpen (other slot) bytes
      → (0 < commit_number (other slot) bytes) × (commit_number (other slot) bytes < commit_number slot bytes)

-- The slot is the active one, and has this number and this body.
pub record Stores (slot number : ℕ) (body bytes : List ℕ) : Type 0 where
  pub active : IsActive slot bytes
  pub numbered : commit_number slot bytes ≡ number
  pub holds : body_of slot bytes ≡ body

-- The sector of a closed gate.
unfoldable pub closed_gate : List ℕ
closed_gate = replicate 512 0

-- The sector of an open gate.
unfoldable pub open_gate : List ℕ
open_gate = 1 ∷ replicate 511 0
