use Rattle.era_gate.proofs.Reached.{legal-invariant, legal-tells}
use Rattle.era_gate.proofs.state_laws.each_legal_list_of_acts_has_a_state.Goals as goal

pub returns-clause-invariant : goal.returns-clause-invariant
returns-clause-invariant c = legal-invariant

pub returns-clause-told : goal.returns-clause-told
returns-clause-told c = legal-tells
