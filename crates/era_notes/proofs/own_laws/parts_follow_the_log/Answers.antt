use Rattle.era_notes.proofs.OwnNotes.{part-left}
use Rattle.era_notes.proofs.own_laws.parts_follow_the_log.Goals as goal

pub returns : goal.returns
returns c = part-left
