use Rattle.era_model.proofs.SmallRecoveries.{crash-snapped}
use Rattle.era_model.proofs.example_laws.snapshot_is_lost_in_a_crash_alone.Goals as goal

pub returns-clause-crash : goal.returns-clause-crash
returns-clause-crash c = crash-snapped
