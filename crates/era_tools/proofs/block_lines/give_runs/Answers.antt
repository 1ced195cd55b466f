use Rattle.std.proofs.Common.{refl, ◌∙◌}
use Rattle.era_line.proofs.PartSteps.{added-none}
use Rattle.era_text.proofs.Gives.{items-added, items-cut}
use Rattle.era_tools.specs.ToolLines.{run_line}
use Rattle.era_tools.proofs.block_lines.give_runs.Goals as goal

-- none was added at first
pub loop-run-init : goal.loop-run-init
loop-run-init g c = (added-none (g.K.Sink.given c.args.sink.now) c.args.text.now, refl)

-- the sink failed at one
pub returns-in_default-clause-added : goal.returns-in_default-clause-added
returns-in_default-clause-added g c =
    let before = g.K.Sink.given c.loop-run.sink in
    let after = g.K.Sink.given c.give_run.new.sink in
    items-cut run_line c.args.runs.now c.loop-run.run-index _ _ before after _ c.loop-run.text c.loop-run-test.true c.loop-run.invariant.0
    c.in_default.ensures.added

-- one more was added
pub loop-run-preserved : goal.loop-run-preserved
loop-run-preserved g c =
    let before = g.K.Sink.given c.loop-run.sink in
    let after = g.K.Sink.given c.give_run.new.sink in (
      items-added run_line c.args.runs.now c.loop-run.run-index _ _ before after _ c.loop-run.text c.give_run.new.text c.loop-run-test.true c.loop-run.invariant.0
          c.in-Ok.ensures.added,
      c.in-Ok.ensures.cause.kept ∙ c.loop-run.invariant.1,
    )
