use Rattle.era_gate.proofs.AgreesMeets.{drawn-numbered}
use Rattle.era_gate.proofs.GatheredLegal.{acts-meet}
use Rattle.era_gate.proofs.laws.legal_acts_meet_the_model.Goals as goal

pub returns-clause-numbered : goal.returns-clause-numbered
returns-clause-numbered c = drawn-numbered 0

pub returns-clause-model : goal.returns-clause-model
returns-clause-model c = acts-meet
