use Rattle.std.proofs.Common.{ℕ}
use Rattle.era_text.specs.Folding.{era_within}
use Rattle.era_text.proofs.Raises.{raised-at, raised-none}
use Rattle.era_text.proofs.merge.raise_runs.Goals as goal

-- none was looked at
pub loop-run-init : goal.loop-run-init
loop-run-init c = raised-none (λ (run : ℕ × ℕ). era_within run.0 run.1 c.args.era) c.args.entries.now

-- one run more
pub loop-run-preserved : goal.loop-run-preserved
loop-run-preserved c =
    raised-at (λ (run : ℕ × ℕ). era_within run.0 run.1 c.args.era) c.args.runs.now c.loop-run.run-index _ _ c.loop-run.entries _ c.loop-run-test.true
    c.loop-run.invariant c.raise_run.ensures
