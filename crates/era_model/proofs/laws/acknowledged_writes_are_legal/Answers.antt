use Rattle.era_model.proofs.LegalWrites.{legal-read_back}
use Rattle.era_model.proofs.laws.acknowledged_writes_are_legal.Goals as goal

pub returns : goal.returns
returns c = legal-read_back
