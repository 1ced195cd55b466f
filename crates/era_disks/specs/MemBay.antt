-- What a bay in memory tells.
use Rattle.std.specs.Prelude.{◌≡◌, ◌⊎◌, ℕ, ◌+◌, ◌≤◌, List, length, Option, Some, Result, IsErrOf}
use Rattle.era_base.specs.Bay.{Loan, IsFree, HasBayCause}
use Rattle.era_base.specs.declared.bay_error.BayError.{BayError}
use Rattle.era_base.specs.declared.bay_error.BayError.TheVariants.{Failed}
use Rattle.era_disks.specs.Loans.{loans_of}
use Rattle.era_disks.specs.Devices.{device_of, device_reads, device_size, device_state, device_calls, IsFoundAt}
use Rattle.era_disks.specs.Calls.{Calls, NextFails, one_more}
use Rattle.era_disks.specs.DiskCalls.{no_disk_calls, restarted_calls}
use Rattle.era_disks.specs.Fuses.{SameFuse}
use Rattle.era_disks.specs.MemDisk.{place_of, sectors_of, faults_of, starved_of, HasNewRecord}
use Rattle.era_disks.specs.MemParts.{IsPartOf, TakesPart}
use Rattle.era_disks.specs.declared.disk_calls.DiskCalls.{DiskCalls}
use Rattle.era_disks.specs.declared.mem_disk.MemDisk.{MemDisk}
use Rattle.era_disks.specs.declared.mem_bay.MemBay.{MemBay}
use Rattle.era_disks.specs.declared.mem_state.MemState.{MemState}

-- The size of each device that the bay holds.
abbrev pub sizes_of : MemBay → List ℕ → Option ℕ
sizes_of bay name = device_size (device_of bay.devices.items name)

-- What the sectors of the bay's devices read as.
abbrev pub reads_of : MemBay → List ℕ → ℕ → Option (List ℕ)
reads_of bay name sector = device_reads (device_of bay.devices.items name) sector

-- All loans of the bay.
abbrev pub bay_loans : MemBay → List (Loan MemDisk)
bay_loans bay = loans_of bay.loans.entries.items

-- How often the bay has failed.
abbrev pub bay_faults : MemBay → ℕ
bay_faults bay = bay.faults

-- The calls that fail of each disk of a device that is lent.
abbrev pub calls_of : MemBay → List ℕ → Option DiskCalls
calls_of bay name = device_calls (device_of bay.devices.items name)

-- The calls that fail of the disks of each device are the same in both.
abbrev pub SameCalls : MemBay → MemBay → Type 0
SameCalls old new = (name : List ℕ) → calls_of new name ≡ calls_of old name

-- No call fails any more of the disks of a device; those of other devices, and of the bay, are the same.
pub record ForgetsCalls (name : List ℕ) (old new : MemBay) : Type 0 where
  pub device : (calls : DiskCalls) → calls_of new name ≡ Some calls → calls ≡ no_disk_calls
  pub others : (other : List ℕ) → (other ≡ name → ⊥) → calls_of new other ≡ calls_of old other
  pub bay : new.calls ≡ old.calls

-- The sectors of a device that the bay holds.
abbrev pub state_in : MemBay → List ℕ → Option MemState
state_in bay name = device_state (device_of bay.devices.items name)

-- No sector of the device is lent.
abbrev pub IsIdle : MemBay → List ℕ → Type 0
IsIdle bay name = (size : ℕ) → sizes_of bay name ≡ Some size → IsFree place_of sectors_of (bay_loans bay) name 0 size

-- A disk that was just lent: it has its part of the device's sectors, of which as much is pending; the calls of its device fail and none was begun, it has not failed, and it knows of the fuse what the bay does.
pub record IsLentAnew (bay : MemBay) (name : List ℕ) (disk : MemDisk) : Type 0 where
  pub part : (whole : MemState) → state_in bay name ≡ Some whole → IsPartOf disk.first (sectors_of disk) whole disk.state
  pub calls : (calls : DiskCalls) → calls_of bay name ≡ Some calls → disk.calls ≡ restarted_calls calls
  pub faults : faults_of disk ≡ 0
  pub starved : starved_of disk ≡ 0
  pub fuse : SameFuse bay.fuse disk.fuse
  pub made : HasNewRecord disk

-- The bay's device has the sectors of a disk at its place, of which as much is pending, and its other sectors as before; so do the other devices.
pub record TakesDisk (old new : MemBay) (disk : MemDisk) : Type 0 where
  pub part : (before : MemState) → state_in old disk.device ≡ Some before
      → (after : MemState) × (state_in new disk.device ≡ Some after) × TakesPart disk.first disk.state before after
  pub others : (other : List ℕ) → (other ≡ disk.device → ⊥) → state_in new other ≡ state_in old other

-- The bay's count of faults is one higher where it failed, up to the greatest value of a `u64`, and stays else.
pub record CountsFault {T : Type 0} (old new : MemBay) (result : Result T BayError) : Type 0 where
  pub cause : HasBayCause (bay_faults old) (bay_faults new) result
  pub rose : IsErrOf result Failed → bay_faults new ≡ one_more (bay_faults old)

-- So many sectors from a sector on lie on the device at an index of the bay's devices.
pub record LiesAt (bay : MemBay) (name : List ℕ) (index first sectors : ℕ) : Type 0 where
  pub found : IsFoundAt bay.devices.items name index
  pub fits : first + sectors ≤ length found.device.state.rows.items

-- A sector of the range of the device is lent.
abbrev pub IsRefusedAt : MemBay → List ℕ → ℕ → ℕ → Type 0
IsRefusedAt bay name first sectors = IsFree place_of sectors_of (bay_loans bay) name first sectors → ⊥

-- The next opening of this kind fails, or the bay doesn't hold the device, or a sector of a range of it is lent.
abbrev pub WontLend : Calls → MemBay → List ℕ → ℕ → (ℕ → ℕ) → Type 0
WontLend calls bay name first sectors =
    NextFails calls ⊎ ((size : ℕ) → sizes_of bay name ≡ Some size → IsRefusedAt bay name first (sectors size))
