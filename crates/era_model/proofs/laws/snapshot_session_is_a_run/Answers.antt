use Rattle.era_model.proofs.SmallRuns.{run-snapshots}
use Rattle.era_model.proofs.laws.snapshot_session_is_a_run.Goals as goal

pub returns : goal.returns
returns c = run-snapshots
