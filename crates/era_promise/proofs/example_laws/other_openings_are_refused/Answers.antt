use Rattle.era_promise.proofs.Refusals.{other-contents, other-marks}
use Rattle.era_promise.proofs.example_laws.other_openings_are_refused.Goals as goal

pub returns-clause-contents : goal.returns-clause-contents
returns-clause-contents c = other-contents

pub returns-clause-marks : goal.returns-clause-marks
returns-clause-marks c = other-marks
