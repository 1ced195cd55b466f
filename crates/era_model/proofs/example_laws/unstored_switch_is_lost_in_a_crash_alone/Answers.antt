use Rattle.era_model.proofs.SmallRecoveries.{crash-switched}
use Rattle.era_model.proofs.example_laws.unstored_switch_is_lost_in_a_crash_alone.Goals as goal

pub returns-clause-crash : goal.returns-clause-crash
returns-clause-crash c = crash-switched
