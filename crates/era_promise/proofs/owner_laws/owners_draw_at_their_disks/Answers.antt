use Rattle.era_promise.proofs.OwnersDraws.{owners-disks, owners-stripes}
use Rattle.era_promise.proofs.owner_laws.owners_draw_at_their_disks.Goals as goal

pub returns-clause-disks : goal.returns-clause-disks
returns-clause-disks c = owners-disks c.own_draws_tell_of_their_blocks.ensures.flights

pub returns-clause-stripes : goal.returns-clause-stripes
returns-clause-stripes c = owners-stripes
