-- What a bay keeps of its loans, for contracts alone.
use Rattle.std.specs.Prelude.{◌≡◌, ℕ, ◌<◌, List, map, slice_get, Option, Some, None}
use Rattle.std.specs.declared.snapshot.Snapshot.{Snapshot}
use Rattle.era_base.specs.Bay.{Loan, Overlap}
use Rattle.era_base.specs.Disk.{Place}
use Rattle.era_disks.specs.declared.loan_entry.LoanEntry.{LoanEntry}

-- The disk of a snapshot, if there is one.
abbrev pub shown : {D : Type 0} → Option (Snapshot D) → Option D
shown None = None
shown (Some snapshot) = Some snapshot.value

-- The loan of an entry.
abbrev pub loan_of : {D : Type 0} → LoanEntry D → Loan D
loan_of entry = record { lent = entry.lent.value; back = shown entry.back }

-- The loans of the entries, in their order.
abbrev pub loans_of : {D : Type 0} → List (LoanEntry D) → List (Loan D)
loans_of entries = map loan_of entries

-- An entry has the place and the size of its disk as it was lent.
pub record IsEntryPlaced {D : Type 0} (place_of : D → Place) (sectors_of : D → ℕ) (entry : LoanEntry D) : Type 0 where
  pub same_device : (place_of entry.lent.value).device ≡ entry.device
  pub same_first : (place_of entry.lent.value).first ≡ entry.first
  pub same_size : sectors_of entry.lent.value ≡ entry.sectors

-- An entry's disk is out, and has this place and so many sectors.
pub record IsOutAt {D : Type 0} (device : List ℕ) (first sectors : ℕ) (entry : LoanEntry D) : Type 0 where
  pub out : entry.back ≡ None
  pub same_device : entry.device ≡ device
  pub same_first : entry.first ≡ first
  pub same_size : entry.sectors ≡ sectors

-- The entry at an index is the last one whose disk is out and has this place and so many sectors.
pub record IsLastOut {D : Type 0} (entries : List (LoanEntry D)) (device : List ℕ) (first sectors index : ℕ) : Type 0 where
  pub entry : LoanEntry D
  pub found : slice_get entries index ≡ Some entry
  pub out : IsOutAt device first sectors entry
  pub last : (later : ℕ) (other : LoanEntry D) → index < later → slice_get entries later ≡ Some other
      → IsOutAt device first sectors other → ⊥

-- An entry's disk is out, and has a sector of this range of the device.
pub record Blocks {D : Type 0} (device : List ℕ) (first count : ℕ) (entry : LoanEntry D) : Type 0 where
  pub out : entry.back ≡ None
  pub same_device : entry.device ≡ device
  pub overlap : Overlap first count entry.first entry.sectors
