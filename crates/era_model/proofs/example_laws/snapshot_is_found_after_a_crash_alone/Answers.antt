use Rattle.era_model.proofs.SmallRecoveries.{crash-found}
use Rattle.era_model.proofs.example_laws.snapshot_is_found_after_a_crash_alone.Goals as goal

pub returns-clause-crash : goal.returns-clause-crash
returns-clause-crash c = crash-found
