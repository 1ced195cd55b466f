use Rattle.era_core.proofs.Stripes.{have_stripes-take}
use Rattle.era_core.proofs.counts.last_count_of.Goals as goal

-- each earlier session has a stripe
pub follow_count-found-requires : goal.follow_count-found-requires
follow_count-found-requires c = rw c.split_at.ensures.front (have_stripes-take c.args.h.now c.loop-index.index c.requires)
