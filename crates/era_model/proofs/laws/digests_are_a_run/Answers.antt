use Rattle.era_model.proofs.SmallRuns.{run-digested}
use Rattle.era_model.proofs.laws.digests_are_a_run.Goals as goal

pub returns : goal.returns
returns c = run-digested
