use Rattle.era_notes.proofs.OwnNotes.{same-below, same-history}
use Rattle.era_notes.proofs.own_laws.notes_follow_the_log.Goals as goal

pub returns-clause-below : goal.returns-clause-below
returns-clause-below c = same-below

pub returns-clause-history : goal.returns-clause-history
returns-clause-history c = same-history
