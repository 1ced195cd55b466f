use Rattle.era_journal.proofs.SmallOwners.{owners-stand}
use Rattle.era_journal.proofs.example_laws.small_owners_stand.Goals as goal

pub returns : goal.returns
returns c = owners-stand (record { journal = c.marks_follow_journal.ensures.journal; kept = c.marks_are_kept.ensures })
