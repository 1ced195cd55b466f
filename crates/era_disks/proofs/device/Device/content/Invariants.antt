use Rattle.std.proofs.Common.{◌≡◌, take}
use Rattle.era_disks.specs.Rows.{bytes_of}
use Rattle.era_disks.proofs.device.Device.content.Given as goal

abbrev pub invariant-loop-row : goal.invariant-loop-row
invariant-loop-row l = l.bytes.items ≡ bytes_of (take l.row-index l.rows)
