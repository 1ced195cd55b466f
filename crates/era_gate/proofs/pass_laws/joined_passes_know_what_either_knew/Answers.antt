use Rattle.era_gate.proofs.Choices.{most_at}
use Rattle.era_gate.proofs.pass_laws.joined_passes_know_what_either_knew.Goals as goal

pub returns-clause-begun : goal.returns-clause-begun
returns-clause-begun c pass other = most_at pass.begun other.begun

pub returns-clause-ended : goal.returns-clause-ended
returns-clause-ended c pass other = most_at pass.ended other.ended
