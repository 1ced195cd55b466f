use Rattle.std.proofs.Common.{arith}
use Rattle.era_tools.proofs.BlockCounts.{count-fits, run-fits}
use Rattle.era_tools.proofs.block_lines.count_blocks.Goals as goal

-- a run has a block
pub overflow_sub-count : goal.overflow_sub-count
overflow_sub-count c =
    let fits = run-fits c.args.runs.now c.loop-run.run-index _ _ _ c.requires c.loop-run-test.true c.from.ensures c.from-in-loop-run.ensures in
    omega (arith, fits)

-- those before it are no more than its first block
pub overflow_add-count-in-loop-run : goal.overflow_add-count-in-loop-run
overflow_add-count-in-loop-run c =
    let fits = count-fits c.args.runs.now c.loop-run.run-index _ _ _ c.loop-run.count c.requires c.loop-run-test.true c.from.ensures c.from-in-loop-run.ensures
    c.loop-run.invariant in
    omega (arith, fits)
