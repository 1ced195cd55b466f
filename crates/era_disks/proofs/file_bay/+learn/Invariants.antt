use Rattle.std.proofs.Common.{length}
use Rattle.era_disks.proofs.file_bay.+learn.Given as goal

abbrev pub decreases-learn : goal.decreases-learn
decreases-learn l = length l.devices.now
