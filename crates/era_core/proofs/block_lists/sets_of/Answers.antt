use Rattle.era_core.proofs.Tables.{sets-push}
use Rattle.era_core.proofs.block_lists.sets_of.Goals as goal

-- one more set is laid out
pub loop-set-preserved : goal.loop-set-preserved
loop-set-preserved c =
    let l = c.loop-set in
    let flags = rw c.as_slice.ensures.value at c.in_ok-flags.ensures in
    rw (sets-push c.args.blocks c.args.sets.now l.set-index c.set-item.result c.loop-set-test.true c.set-item.is, ← l.invariant, ← flags)
    (rw (c.new.ensures, c.from.ensures) at c.in_ok-push.ensures.items)
