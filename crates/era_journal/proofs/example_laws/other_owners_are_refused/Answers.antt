use Rattle.era_journal.proofs.SmallOwners.{early-write, late-mark, other-part}
use Rattle.era_journal.proofs.example_laws.other_owners_are_refused.Goals as goal

pub returns-clause-part : goal.returns-clause-part
returns-clause-part c = other-part

pub returns-clause-early : goal.returns-clause-early
returns-clause-early c = early-write

pub returns-clause-late : goal.returns-clause-late
returns-clause-late c = late-mark
