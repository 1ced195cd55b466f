use Rattle.std.proofs.Common.{length}
use Rattle.era_keeper_scripts.proofs.sweeps.+play.Given as goal

abbrev pub decreases-play : goal.decreases-play
decreases-play g l = length l.tasks.now
