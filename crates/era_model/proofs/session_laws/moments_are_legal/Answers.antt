use Rattle.era_model.proofs.Ascending.{legal-moment}
use Rattle.era_model.proofs.session_laws.moments_are_legal.Goals as goal

pub returns : goal.returns
returns c = legal-moment
