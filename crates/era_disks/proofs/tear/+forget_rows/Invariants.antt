use Rattle.std.proofs.Common.{length}
use Rattle.era_disks.proofs.tear.+forget_rows.Given as goal

abbrev pub decreases-forget_rows : goal.decreases-forget_rows
decreases-forget_rows l = length l.pending.now
