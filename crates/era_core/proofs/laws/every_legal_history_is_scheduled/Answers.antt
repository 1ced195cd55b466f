use Rattle.era_core.proofs.Scheduling.{legal-scheduled}
use Rattle.era_core.proofs.laws.every_legal_history_is_scheduled.Goals as goal

pub returns : goal.returns
returns c = legal-scheduled
