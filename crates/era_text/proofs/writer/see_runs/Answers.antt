use Rattle.era_text.proofs.GivenDumps.{set_runs-more}
use Rattle.era_text.proofs.writer.see_runs.Goals as goal

-- one set more was looked at
pub loop-set-preserved : goal.loop-set-preserved
loop-set-preserved c =
    set_runs-more c.args.sets.now c.loop-set.set-index c.set-item.result c.loop-set-test.true c.loop-set.invariant c.set-item.is c.as_slice-runs.ensures.runs
