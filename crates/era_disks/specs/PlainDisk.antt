-- What a disk that never fails is.
use Rattle.std.specs.Prelude.{◌≡◌, ℕ, [], vec_capacity}
use Rattle.era_base.specs.CrashModel.{History, IsClean}
use Rattle.era_base.specs.Disk.{Place}
use Rattle.era_disks.specs.PlainPast.{plain_past, plain_state}
use Rattle.era_disks.specs.declared.plain_disk.PlainDisk.{PlainDisk}

-- The states of a disk that never fails.
abbrev pub plain_history : PlainDisk → History
plain_history disk = record { past = plain_past disk.past; now = plain_state disk.bytes.items }

-- Where a disk that never fails lies.
abbrev pub plain_place : PlainDisk → Place
plain_place disk = record { device = disk.device; first = disk.first }

-- How many sectors a disk that never fails has.
abbrev pub plain_sectors : PlainDisk → ℕ
plain_sectors disk = disk.sectors

-- For how many bytes the vector of a disk that never fails has room.
abbrev pub plain_room : PlainDisk → ℕ
plain_room disk = vec_capacity disk.bytes

-- A disk that never fails, of which no call was made: it has no past, and nothing is pending.
pub record IsUnused (disk : PlainDisk) : Type 0 where
  pub past : (plain_history disk).past ≡ []
  pub clean : IsClean (plain_history disk).now
