-- A bay of devices: what it lends, and what comes back.
use Rattle.std.specs.Prelude.{◌≡◌, ℕ, ◌+◌, ◌*◌, ◌<◌, ◌≤◌, List, length, slice_get, slice_set, Option, Some, None, Result, OnOk, IsErrOf}
use Rattle.era_base.specs.Bytes.{part}
use Rattle.era_base.specs.CrashModel.{State}
use Rattle.era_base.specs.Disk.{Place}
use Rattle.era_base.specs.Faults.{Rose}
use Rattle.era_base.specs.declared.bay_error.BayError.{BayError}
use Rattle.era_base.specs.declared.bay_error.BayError.TheVariants.{Failed, Memory}

-- A bay's count of faults never falls; it rose where the bay failed, and is as it was where it answered or memory was refused.
pub record HasBayCause {T : Type 0} (before now : ℕ) (result : Result T BayError) : Type 0 where
  pub later : before ≤ now
  pub failed : IsErrOf result Failed → Rose before now
  pub memory : IsErrOf result Memory → now ≡ before
  pub kept : OnOk result (now ≡ before)

-- A loan: the disk as it was lent, and as it was put back, or none as long as it is out.
pub record Loan (D : Type 0) : Type 0 where
  pub lent : D
  pub back : Option D

-- The loan that a call of the bay begins.
abbrev pub new_loan : {D : Type 0} → D → Loan D
new_loan disk = record { lent = disk; back = None }

-- The loan, ended by this disk.
abbrev pub ended_loan : {D : Type 0} → Loan D → D → Loan D
ended_loan loan disk = record { lent = loan.lent; back = Some disk }

-- The loan at an index is out, and its disk has this place and so many sectors.
pub record IsOut {D : Type 0} (place_of : D → Place) (sectors_of : D → ℕ) (loans : List (Loan D)) (place : Place) (sectors index : ℕ) : Type 0 where
  pub loan : Loan D
  pub found : slice_get loans index ≡ Some loan
  pub out : loan.back ≡ None
  pub same_place : place_of loan.lent ≡ place
  pub same_size : sectors_of loan.lent ≡ sectors

-- The last loan that is out at the disk's place is ended by the disk.
pub record EndsLoan {D : Type 0} (place_of : D → Place) (sectors_of : D → ℕ) (disk : D) (old new : List (Loan D)) : Type 0 where
  pub index : ℕ
  pub was : IsOut place_of sectors_of old (place_of disk) (sectors_of disk) index
  pub last : (later : ℕ) → index < later → IsOut place_of sectors_of old (place_of disk) (sectors_of disk) later → ⊥
  pub loans : new ≡ slice_set old index (ended_loan was.loan disk)

-- Each of two ranges of sectors begins before the other one ends: they have a sector in common, unless one of them is empty.
pub record Overlap (first count other other_count : ℕ) : Type 0 where
  pub before : first < other + other_count
  pub behind : other < first + count

-- No loan that is out has a sector of this range of the device.
abbrev pub IsFree : {D : Type 0} → (D → Place) → (D → ℕ) → List (Loan D) → List ℕ → ℕ → ℕ → Type 0
IsFree {D} place_of sectors_of loans device first count =
    (index : ℕ) (loan : Loan D) → slice_get loans index ≡ Some loan → loan.back ≡ None → (place_of loan.lent).device ≡ device
    → Overlap first count (place_of loan.lent).first (sectors_of loan.lent) → ⊥

-- The sectors of a range of a device read, where the bay tells them, as a state does from its beginning on.
abbrev pub ReadsAs : (List ℕ → ℕ → Option (List ℕ)) → List ℕ → ℕ → ℕ → State → Type 0
ReadsAs reads device first count state =
    (sector : ℕ) → sector < count → (bytes : List ℕ) → reads device (first + sector) ≡ Some bytes → part (sector * 512) 512 state.seen ≡ bytes

-- The sectors of a range of a device are told, and read as a state does from its beginning on.
abbrev pub NowReadsAs : (List ℕ → ℕ → Option (List ℕ)) → List ℕ → ℕ → ℕ → State → Type 0
NowReadsAs reads device first count state =
    (sector : ℕ) → sector < count → reads device (first + sector) ≡ Some (part (sector * 512) 512 state.seen)

-- What sectors read as is the same in both, but for those of the range of the device.
abbrev pub SameReadsBut : List ℕ → ℕ → ℕ → (List ℕ → ℕ → Option (List ℕ)) → (List ℕ → ℕ → Option (List ℕ)) → Type 0
SameReadsBut device first count old new =
    (other : List ℕ) (sector : ℕ) → (other ≡ device → first ≤ sector → first + count ≤ sector) → new other sector ≡ old other sector

-- What sectors read as is the same in both.
abbrev pub SameReads : (List ℕ → ℕ → Option (List ℕ)) → (List ℕ → ℕ → Option (List ℕ)) → Type 0
SameReads old new = (device : List ℕ) (sector : ℕ) → new device sector ≡ old device sector

-- What was told of sizes is told again.
abbrev pub KeepsSizes : (List ℕ → Option ℕ) → (List ℕ → Option ℕ) → Type 0
KeepsSizes old new = (device : List ℕ) (size : ℕ) → old device ≡ Some size → new device ≡ Some size

-- The device has these bytes, as the bay tells sector by sector.
pub record HasContent (reads : List ℕ → ℕ → Option (List ℕ)) (device : List ℕ) (sectors : ℕ) (contents : List ℕ) : Type 0 where
  pub size : length contents ≡ sectors * 512
  pub bytes : (sector : ℕ) → sector < sectors → reads device sector ≡ Some (part (sector * 512) 512 contents)
