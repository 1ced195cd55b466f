-- What callers see of a part of a file.
use Rattle.std.specs.Prelude.{ℕ, Bool}
use Rattle.era_base.specs.Disk.{Place}
use Rattle.era_disks.specs.SyncFlags.{has_failed}
use Rattle.era_disks.specs.declared.file_disk.FileDisk.{FileDisk}

-- The place of the disk.
abbrev pub place_of : FileDisk → Place
place_of disk = record { device = disk.device; first = disk.first }

-- How many sectors the disk has.
abbrev pub sectors_of : FileDisk → ℕ
sectors_of disk = disk.sectors

-- Whether the disk knows that a sync of its device has failed, after which it serves nothing.
abbrev pub is_stopped : FileDisk → Bool
is_stopped disk = has_failed disk.syncs
