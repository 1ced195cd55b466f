use Rattle.era_promise.proofs.Refusals.{early-write, unsynced-done}
use Rattle.era_promise.proofs.example_laws.unordered_writes_are_refused.Goals as goal

pub returns-clause-early : goal.returns-clause-early
returns-clause-early c = early-write

pub returns-clause-unsynced : goal.returns-clause-unsynced
returns-clause-unsynced c = unsynced-done
