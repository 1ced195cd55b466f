use Rattle.std.proofs.Common.{rules}
use Rattle.era_meta.proofs.LastEras.{last-step}
use Rattle.era_meta.proofs.last_marked.last_set_era.Goals as goal

-- one more set was looked at
pub loop-set-preserved : goal.loop-set-preserved
loop-set-preserved c =
    last-step c.args.sets.now c.loop-set.set-index c.args.block c.loop-set.last c.max-last.result c.set-item.result c.loop-set-test.true c.set-item.is
    c.loop-set.invariant (search rules)
