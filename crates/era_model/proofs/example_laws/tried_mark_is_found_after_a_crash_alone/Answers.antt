use Rattle.era_model.proofs.SmallRecoveries.{crash-tried}
use Rattle.era_model.proofs.example_laws.tried_mark_is_found_after_a_crash_alone.Goals as goal

pub returns-clause-crash : goal.returns-clause-crash
returns-clause-crash c = crash-tried
