use Rattle.era_model.proofs.LegalWrites.{illegal-early_write}
use Rattle.era_model.proofs.laws.write_before_its_mark_is_illegal.Goals as goal

pub returns : goal.returns
returns c = illegal-early_write
