-- What is known of the syncs of a device.
use Rattle.std.specs.Prelude.{Bool}
use Rattle.era_disks.specs.declared.sync_flag.SyncFlag.{SyncFlag}

-- Whether it is known that a sync of the device has failed.
abbrev pub has_failed : SyncFlag → Bool
has_failed syncs = syncs.failed
