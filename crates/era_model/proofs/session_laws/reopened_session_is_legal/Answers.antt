use Rattle.era_model.proofs.LegalCrashes.{legal-chain}
use Rattle.era_model.proofs.session_laws.reopened_session_is_legal.Goals as goal

pub returns-clause-chain : goal.returns-clause-chain
returns-clause-chain c = legal-chain
