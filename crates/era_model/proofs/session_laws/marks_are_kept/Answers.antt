use Rattle.era_model.proofs.Ascending.{marked-last}
use Rattle.era_model.proofs.session_laws.marks_are_kept.Goals as goal

pub returns : goal.returns
returns c = marked-last
