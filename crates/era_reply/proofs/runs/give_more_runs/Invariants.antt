use Rattle.std.proofs.Common.{◌≡◌}
use Rattle.era_line.proofs.PartSteps.{HasAdded}
use Rattle.era_reply.proofs.Gives.{RunsStand}
use Rattle.era_reply.proofs.runs.give_more_runs.Given as goal

-- the runs so far were added, and with those that are left they are all
abbrev pub invariant-loop-run : goal.invariant-loop-run
invariant-loop-run g l =
    RunsStand l.runs l.run-index (HasAdded (g.K.Sink.given l.initial.sink) l.initial.text (g.K.Sink.given l.sink) l.text)
    × (g.K.Sink.faults l.sink ≡ g.K.Sink.faults l.initial.sink)
