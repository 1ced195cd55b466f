use Rattle.std.proofs.Common.{refl, ◌∙◌}
use Rattle.era_line.proofs.PartSteps.{added-none}
use Rattle.era_text.proofs.Gives.{items-added, items-cut}
use Rattle.std.specs.Prelude.{ℕ}
use Rattle.era_text.specs.DumpLines.{run_line}
use Rattle.era_text.specs.Pieces.{ended}
use Rattle.era_text.proofs.lines.give_runs.Goals as goal

-- none was added at first
pub loop-run-init : goal.loop-run-init
loop-run-init g c = (added-none (g.K.Sink.given c.args.sink.now) c.args.text.now, refl)

-- the sink failed at one
pub returns-in_default-clause-added : goal.returns-in_default-clause-added
returns-in_default-clause-added g c =
    items-cut (λ (run : ℕ × ℕ). ended (run_line run)) c.args.runs.now c.loop-run.run-index _ _ _ _ _ _ c.loop-run-test.true c.loop-run.invariant.0 c.in_default.ensures.added

-- one more was added
pub loop-run-preserved : goal.loop-run-preserved
loop-run-preserved g c = (
  items-added (λ (run : ℕ × ℕ). ended (run_line run)) c.args.runs.now c.loop-run.run-index _ _ _ _ _ _ _ c.loop-run-test.true c.loop-run.invariant.0 c.in-Ok.ensures.added,
  c.in-Ok.ensures.cause.kept ∙ c.loop-run.invariant.1,
)
