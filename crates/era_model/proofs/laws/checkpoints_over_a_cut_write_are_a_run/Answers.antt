use Rattle.era_model.proofs.SmallRuns.{run-resolved}
use Rattle.era_model.proofs.laws.checkpoints_over_a_cut_write_are_a_run.Goals as goal

pub returns : goal.returns
returns c = run-resolved
