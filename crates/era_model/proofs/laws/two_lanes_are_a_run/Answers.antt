use Rattle.era_model.proofs.SmallRuns.{run-kept}
use Rattle.era_model.proofs.laws.two_lanes_are_a_run.Goals as goal

pub returns : goal.returns
returns c = run-kept
