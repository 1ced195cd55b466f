use Rattle.era_base.proofs.CallsSince.{write-leaves, failed-leaves, sync-leaves, went-outside_none, went-call, went-quiet, went-calls}
use Rattle.era_base.proofs.laws.calls_leave_the_rest.Goals as goal

pub returns-clause-write : goal.returns-clause-write
returns-clause-write c = write-leaves

pub returns-clause-failed : goal.returns-clause-failed
returns-clause-failed c = failed-leaves

pub returns-clause-sync : goal.returns-clause-sync
returns-clause-sync c = sync-leaves

pub returns-clause-none : goal.returns-clause-none
returns-clause-none c = went-outside_none

pub returns-clause-call : goal.returns-clause-call
returns-clause-call c = went-call

pub returns-clause-quiet : goal.returns-clause-quiet
returns-clause-quiet c = went-quiet

pub returns-clause-calls : goal.returns-clause-calls
returns-clause-calls c = went-calls
