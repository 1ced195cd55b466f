use Rattle.era_promise.proofs.SmallCalls.{mark-lost, opened-empty, origin-written}
use Rattle.era_promise.proofs.example_laws.wrong_calls_are_refused.Goals as goal

pub returns-clause-lost : goal.returns-clause-lost
returns-clause-lost c = mark-lost

pub returns-clause-written : goal.returns-clause-written
returns-clause-written c = origin-written

pub returns-clause-empty : goal.returns-clause-empty
returns-clause-empty c = opened-empty
