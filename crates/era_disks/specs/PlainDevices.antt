-- The devices of a bay of plain disks by name. Each device is a plain disk of all its sectors.
use Rattle.std.specs.Prelude.{◌≡◌, ℕ, ◌+◌, ◌*◌, ◌≤◌, nat_lt, List, slice_get, Option, Some, None, String, if◌then◌else◌}
use Rattle.std.specs.BTreeMap.{BTreeMap, get_by_text}
use Rattle.std.specs.Global.{Global}
use Rattle.era_base.specs.Bytes.{part}
use Rattle.era_base.specs.Bay.{Loan}
use Rattle.era_disks.specs.PlainDisk.{plain_place, plain_sectors, plain_history}
use Rattle.era_disks.specs.declared.plain_disk.PlainDisk.{PlainDisk}

-- The devices of a bay of plain disks, by name.
abbrev pub PlainDevices : Type 0
PlainDevices = BTreeMap (String Global) PlainDisk

-- How many sectors a plain device has.
abbrev pub plain_size : Option PlainDisk → Option ℕ
plain_size None = None
plain_size (Some device) = Some (plain_sectors device)

-- How many sectors a plain device has, and 0 where there is none.
abbrev pub plain_length : Option PlainDisk → ℕ
plain_length None = 0
plain_length (Some device) = plain_sectors device

-- What a sector of a plain device reads as.
abbrev pub plain_sector : Option PlainDisk → ℕ → Option (List ℕ)
plain_sector None sector = None
plain_sector (Some device) sector =
    if nat_lt sector (plain_sectors device)
    then Some (part (sector * 512) 512 (plain_history device).now.seen)
    else None

-- Each plain disk that is lent lies within its device.
abbrev pub LieOnPlain : PlainDevices → List (Loan PlainDisk) → Type 0
LieOnPlain devices loans =
    (index : ℕ) (loan : Loan PlainDisk) → slice_get loans index ≡ Some loan → loan.back ≡ None
    → (plain_place loan.lent).first + plain_sectors loan.lent
    ≤ plain_length (get_by_text devices (plain_place loan.lent).device)
