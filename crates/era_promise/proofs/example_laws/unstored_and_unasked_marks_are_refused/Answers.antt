use Rattle.era_promise.proofs.Refusals.{unstored-mark, unasked-mark}
use Rattle.era_promise.proofs.example_laws.unstored_and_unasked_marks_are_refused.Goals as goal

pub returns-clause-unstored : goal.returns-clause-unstored
returns-clause-unstored c = unstored-mark

pub returns-clause-unasked : goal.returns-clause-unasked
returns-clause-unasked c = unasked-mark
