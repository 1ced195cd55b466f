use Rattle.std.proofs.Common.{arith, rules}
use Rattle.era_model.proofs.FlagsOfRuns.{last_archived-more}
use Rattle.era_model.proofs.last_eras.last_set_era.Goals as goal

-- one more set was looked at
pub loop-set-preserved : goal.loop-set-preserved
loop-set-preserved c = λ blocks within.
    last_archived-more blocks c.args.sets.now c.loop-set.set-index c.set-item.result c.args.block c.loop-set.last c.max-last.result _
    within (omega arith) c.set-item.is (c.loop-set.invariant blocks within) (search rules)
