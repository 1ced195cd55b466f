use Rattle.era_account.proofs.OwnersAtEnd.{owners-stand}
use Rattle.era_account.proofs.laws.owners_stand_at_the_end.Goals as goal

pub returns : goal.returns
returns g c = owners-stand c.receipts_tell_of_requests.ensures.legal g.D.Disk
