use Rattle.era_served.proofs.ServedPasses.{budget-left, others-gone}
use Rattle.era_served.proofs.laws.other_commands_have_issued_nothing.Goals as goal

pub returns-clause-gone : goal.returns-clause-gone
returns-clause-gone g c = others-gone g.D.Disk

pub returns-clause-budget : goal.returns-clause-budget
returns-clause-budget g c = budget-left g.D.Disk
