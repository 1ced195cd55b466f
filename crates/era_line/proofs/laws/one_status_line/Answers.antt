use Rattle.era_line.proofs.StatusSteps.{one_status}
use Rattle.era_line.proofs.laws.one_status_line.Goals as goal

pub returns : goal.returns
returns c = one_status
