-- Devices by name: which one has a name, how many sectors it has, and what each of them reads as.
use Rattle.std.specs.Prelude.{◌≡◌, ℕ, ◌<◌, ◌+◌, ◌≤◌, Bool, false, List, length, find, slice_get, Option, Some, None}
use Rattle.std.specs.Option.{option_map}
use Rattle.std.specs.Str.{bytes_eq}
use Rattle.era_base.specs.Bay.{Loan}
use Rattle.era_disks.specs.Rows.{sector_bytes}
use Rattle.era_disks.specs.MemDisk.{place_of, sectors_of}
use Rattle.era_disks.specs.declared.device.Device.{Device}
use Rattle.era_disks.specs.declared.disk_calls.DiskCalls.{DiskCalls}
use Rattle.era_disks.specs.declared.mem_disk.MemDisk.{MemDisk}
use Rattle.era_disks.specs.declared.mem_state.MemState.{MemState}

-- Whether a device has this name.
abbrev pub has_name : List ℕ → Device → Bool
has_name name device = bytes_eq device.name name

-- The device with a name.
abbrev pub device_of : List Device → List ℕ → Option Device
device_of devices name = find (has_name name) devices

-- What a sector of a device reads as.
abbrev pub device_reads : Option Device → ℕ → Option (List ℕ)
device_reads None sector = None
device_reads (Some device) sector = option_map sector_bytes (slice_get device.state.rows.items sector)

-- How many sectors a device has.
abbrev pub device_size : Option Device → Option ℕ
device_size None = None
device_size (Some device) = Some (length device.state.rows.items)

-- The sectors of a device.
abbrev pub device_state : Option Device → Option MemState
device_state None = None
device_state (Some device) = Some device.state

-- The calls that fail of each disk of a device that is lent.
abbrev pub device_calls : Option Device → Option DiskCalls
device_calls None = None
device_calls (Some device) = Some device.calls

-- How many sectors a device has, and 0 where there is no device.
abbrev pub device_length : Option Device → ℕ
device_length None = 0
device_length (Some device) = length device.state.rows.items

-- The device at an index has the name, and no earlier one has it.
pub record IsFoundAt (devices : List Device) (name : List ℕ) (index : ℕ) : Type 0 where
  pub device : Device
  pub at : slice_get devices index ≡ Some device
  pub named : device.name ≡ name
  pub found : device_of devices name ≡ Some device
  pub first : (before : ℕ) (other : Device) → before < index → slice_get devices before ≡ Some other → has_name name other ≡ false

-- Each loan that is out lies within its device.
abbrev pub LieWithin : List Device → List (Loan MemDisk) → Type 0
LieWithin devices loans = (index : ℕ) (loan : Loan MemDisk) → slice_get loans index ≡ Some loan → loan.back ≡ None
    → (place_of loan.lent).first + sectors_of loan.lent ≤ device_length (device_of devices (place_of loan.lent).device)
