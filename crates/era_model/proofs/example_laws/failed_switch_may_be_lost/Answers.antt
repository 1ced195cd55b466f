use Rattle.era_model.proofs.SmallRecoveries.{end-failed_switch}
use Rattle.era_model.proofs.example_laws.failed_switch_may_be_lost.Goals as goal

pub returns : goal.returns
returns c = end-failed_switch
