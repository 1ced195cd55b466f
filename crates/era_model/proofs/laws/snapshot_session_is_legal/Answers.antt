use Rattle.era_model.proofs.LegalSnapshots.{legal-snapshots}
use Rattle.era_model.proofs.laws.snapshot_session_is_legal.Goals as goal

pub returns : goal.returns
returns c = legal-snapshots
