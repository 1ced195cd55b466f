use Rattle.era_model.proofs.SmallRecoveries.{second-beyond}
use Rattle.era_model.proofs.example_laws.second_exceptional_block_isnt_recovered.Goals as goal

pub returns-clause-second : goal.returns-clause-second
returns-clause-second c = second-beyond
