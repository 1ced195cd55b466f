use Rattle.std.proofs.Common.{◌≡◌, take}
use Rattle.era_line.proofs.PartSteps.{HasAdded}
use Rattle.era_tools.specs.ToolLines.{run_lines}
use Rattle.era_tools.proofs.block_lines.give_runs.Given as goal

-- those so far were added, and the sink has not failed
abbrev pub invariant-loop-run : goal.invariant-loop-run
invariant-loop-run g l =
    HasAdded (g.K.Sink.given l.initial.sink) l.initial.text (g.K.Sink.given l.sink) l.text (run_lines (take l.run-index l.runs))
    × (g.K.Sink.faults l.sink ≡ g.K.Sink.faults l.initial.sink)
