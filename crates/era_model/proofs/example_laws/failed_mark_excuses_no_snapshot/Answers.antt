use Rattle.era_model.proofs.SmallRecoveries.{end-failed_mark}
use Rattle.era_model.proofs.example_laws.failed_mark_excuses_no_snapshot.Goals as goal

pub returns-clause-mark : goal.returns-clause-mark
returns-clause-mark c = end-failed_mark
