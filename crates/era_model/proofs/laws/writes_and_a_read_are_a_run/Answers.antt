use Rattle.era_model.proofs.SmallRuns.{run-read_back}
use Rattle.era_model.proofs.laws.writes_and_a_read_are_a_run.Goals as goal

pub returns : goal.returns
returns c = run-read_back
