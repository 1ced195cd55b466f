use Rattle.era_core.proofs.Tables.{flags-push}
use Rattle.era_core.proofs.block_lists.flags_of.Goals as goal

-- one more block has its flag
pub loop-block-preserved : goal.loop-block-preserved
loop-block-preserved c = rw (flags-push c.loop-block.block c.args.runs.now, ← c.loop-block.invariant, ← c.is_covered.ensures) c.in_ok-push.ensures.items
