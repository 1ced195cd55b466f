use Rattle.era_notes.proofs.Windows.{window-some, window-each}
use Rattle.era_notes.proofs.laws.windows_are_never_empty.Goals as goal

pub returns-clause-some : goal.returns-clause-some
returns-clause-some c = window-some

pub returns-clause-all : goal.returns-clause-all
returns-clause-all c = window-each
