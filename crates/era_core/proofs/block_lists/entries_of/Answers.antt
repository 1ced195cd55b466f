use Rattle.era_core.proofs.Tables.{eras-push}
use Rattle.era_core.proofs.block_lists.entries_of.Goals as goal

-- one more block has its entry
pub loop-block-preserved : goal.loop-block-preserved
loop-block-preserved c = rw (eras-push c.loop-block.block c.args.runs.now, ← c.loop-block.invariant, ← c.run_era.ensures) (rw c.from.ensures at c.in_ok-push.ensures.items)
