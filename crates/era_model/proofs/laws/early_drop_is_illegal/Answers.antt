use Rattle.era_model.proofs.LegalDigests.{illegal-early_drop}
use Rattle.era_model.proofs.laws.early_drop_is_illegal.Goals as goal

pub returns : goal.returns
returns c = illegal-early_drop
