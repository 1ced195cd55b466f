use Rattle.era_model.proofs.LegalFaults.{legal-resolved_write}
use Rattle.era_model.proofs.laws.resolved_write_is_legal.Goals as goal

pub returns : goal.returns
returns c = legal-resolved_write
