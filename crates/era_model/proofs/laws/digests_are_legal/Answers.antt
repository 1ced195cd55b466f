use Rattle.era_model.proofs.LegalDigests.{legal-digested}
use Rattle.era_model.proofs.laws.digests_are_legal.Goals as goal

pub returns : goal.returns
returns c = legal-digested
