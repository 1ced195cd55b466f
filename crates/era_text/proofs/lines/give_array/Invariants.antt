use Rattle.std.proofs.Common.{◌≡◌, take}
use Rattle.era_text.specs.DumpLines.{era_run_line}
use Rattle.era_text.specs.Pieces.{lines_text_of}
use Rattle.era_line.proofs.PartSteps.{HasAdded}
use Rattle.era_text.proofs.lines.give_array.Given as goal

-- those so far were added, and the sink has not failed
abbrev pub invariant-loop-run : goal.invariant-loop-run
invariant-loop-run g l =
    HasAdded (g.K.Sink.given l.initial.sink) l.initial.text (g.K.Sink.given l.sink) l.text (lines_text_of era_run_line (take l.run-index l.runs))
    × (g.K.Sink.faults l.sink ≡ g.K.Sink.faults l.initial.sink)
