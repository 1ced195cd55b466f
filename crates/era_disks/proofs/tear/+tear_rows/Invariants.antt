use Rattle.std.proofs.Common.{length}
use Rattle.era_disks.proofs.tear.+tear_rows.Given as goal

abbrev pub decreases-tear_rows : goal.decreases-tear_rows
decreases-tear_rows l = length l.pending.now
