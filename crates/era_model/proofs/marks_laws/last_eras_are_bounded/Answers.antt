use Rattle.era_model.proofs.SwitchLasts.{lasts-bounded}
use Rattle.era_model.proofs.marks_laws.last_eras_are_bounded.Goals as goal

pub returns : goal.returns
returns c = lasts-bounded
