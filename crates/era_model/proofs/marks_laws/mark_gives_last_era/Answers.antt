use Rattle.era_model.proofs.SwitchLasts.{mark-gives}
use Rattle.era_model.proofs.marks_laws.mark_gives_last_era.Goals as goal

pub returns : goal.returns
returns c = mark-gives
