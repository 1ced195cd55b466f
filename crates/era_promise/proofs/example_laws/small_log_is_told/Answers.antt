use Rattle.std.proofs.Common.{refl}
use Rattle.era_promise.proofs.SmallLog.{log-early, log-own, log-owners, log-told}
use Rattle.era_promise.proofs.example_laws.small_log_is_told.Goals as goal

pub returns-clause-entries : goal.returns-clause-entries
returns-clause-entries c = refl

pub returns-clause-own : goal.returns-clause-own
returns-clause-own c = log-own

pub returns-clause-owners : goal.returns-clause-owners
returns-clause-owners c = log-owners

pub returns-clause-told : goal.returns-clause-told
returns-clause-told c = log-told

pub returns-clause-early : goal.returns-clause-early
returns-clause-early c = log-early
