-- What a bay of plain disks tells.
use Rattle.std.specs.Prelude.{◌≡◌, ℕ, ◌+◌, ◌≤◌, List, Option, Some, Result, IsErrOf}
use Rattle.std.specs.BTreeMap.{get_by_text}
use Rattle.era_base.specs.Bay.{Loan, IsFree, IsOut, ReadsAs, NowReadsAs, SameReadsBut, HasBayCause}
use Rattle.era_base.specs.declared.bay_error.BayError.{BayError}
use Rattle.era_base.specs.declared.bay_error.BayError.TheVariants.{Failed}
use Rattle.era_disks.specs.Calls.{one_more}
use Rattle.era_disks.specs.Loans.{loans_of}
use Rattle.era_disks.specs.PlainDisk.{plain_place, plain_sectors, plain_history, IsUnused}
use Rattle.era_disks.specs.PlainDevices.{plain_size, plain_sector}
use Rattle.era_disks.specs.declared.plain_disk.PlainDisk.{PlainDisk}
use Rattle.era_disks.specs.declared.plain_bay.PlainBay.{PlainBay}

-- The size of each device that a bay of plain disks holds.
abbrev pub plain_sizes : PlainBay → List ℕ → Option ℕ
plain_sizes bay name = plain_size (get_by_text bay.devices name)

-- What the sectors of the devices of a bay of plain disks read as.
abbrev pub plain_reads : PlainBay → List ℕ → ℕ → Option (List ℕ)
plain_reads bay name sector = plain_sector (get_by_text bay.devices name) sector

-- All loans of a bay of plain disks.
abbrev pub plain_loans : PlainBay → List (Loan PlainDisk)
plain_loans bay = loans_of bay.loans.entries.items

-- How often a bay of plain disks has failed.
abbrev pub plain_faults : PlainBay → ℕ
plain_faults bay = bay.faults

-- Two bays of plain disks hold the same devices, with the same bytes.
abbrev pub SameDevices : PlainBay → PlainBay → Type 0
SameDevices old new = (name : List ℕ) → get_by_text new.devices name ≡ get_by_text old.devices name

-- A bay of plain disks holds the device, and the range lies on it.
pub record HoldsPart (bay : PlainBay) (name : List ℕ) (first sectors : ℕ) : Type 0 where
  pub size : ℕ
  pub held : plain_sizes bay name ≡ Some size
  pub fits : first + sectors ≤ size

-- No plain disk that is out has a sector of this range of the device.
abbrev pub IsFreeIn : PlainBay → List ℕ → ℕ → ℕ → Type 0
IsFreeIn bay name first sectors = IsFree plain_place plain_sectors (plain_loans bay) name first sectors

-- A plain disk without a past lies at the range of the device, and reads as the bay does there.
pub record IsPlainPart (bay : PlainBay) (name : List ℕ) (first sectors : ℕ) (disk : PlainDisk) : Type 0 where
  pub place : plain_place disk ≡ record { device = name; first = first }
  pub size : plain_sectors disk ≡ sectors
  pub unused : IsUnused disk
  pub content : ReadsAs (plain_reads bay) name first sectors (plain_history disk).now

-- The loan of a plain disk is out.
abbrev pub IsOutOf : PlainBay → PlainDisk → Type 0
IsOutOf bay disk = (index : ℕ)
    × IsOut plain_place plain_sectors (plain_loans bay) (plain_place disk) (plain_sectors disk) index

-- The device reads at the place of a plain disk as the disk does; other sectors read as before, and no size has changed.
pub record TakesIn (old new : PlainBay) (disk : PlainDisk) : Type 0 where
  pub content : NowReadsAs (plain_reads new) (plain_place disk).device (plain_place disk).first
      (plain_sectors disk) (plain_history disk).now
  pub others : SameReadsBut (plain_place disk).device (plain_place disk).first (plain_sectors disk)
      (plain_reads old) (plain_reads new)
  pub sizes : (name : List ℕ) → plain_sizes new name ≡ plain_sizes old name

-- A bay of plain disks doesn't hold the device, or a sector of a range of it is lent.
abbrev pub IsKeptBack : PlainBay → List ℕ → ℕ → (ℕ → ℕ) → Type 0
IsKeptBack bay name first sectors =
    (size : ℕ) → plain_sizes bay name ≡ Some size → IsFreeIn bay name first (sectors size) → ⊥

-- The count of a bay of plain disks is one higher where it failed, up to the greatest value of a `u64`, and stays else.
pub record CountsRefusal {T : Type 0} (old new : PlainBay) (result : Result T BayError) : Type 0 where
  pub cause : HasBayCause (plain_faults old) (plain_faults new) result
  pub rose : IsErrOf result Failed → plain_faults new ≡ one_more (plain_faults old)
