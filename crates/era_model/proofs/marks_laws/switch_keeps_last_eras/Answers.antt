use Rattle.era_model.proofs.SwitchLasts.{switch-keeps}
use Rattle.era_model.proofs.marks_laws.switch_keeps_last_eras.Goals as goal

pub returns : goal.returns
returns c = switch-keeps
