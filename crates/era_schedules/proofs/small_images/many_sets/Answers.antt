use Rattle.era_schedules.proofs.SmallMarks.{within-push}
use Rattle.era_schedules.proofs.small_images.many_sets.Goals as goal

-- one more set was pushed
pub loop-before-preserved : goal.loop-before-preserved
loop-before-preserved c =
    rw c.in_ok-push.ensures.ok (within-push 64 c.loop-before.sets c.empty_set.result c.loop-before.invariant c.empty_set.ensures)
