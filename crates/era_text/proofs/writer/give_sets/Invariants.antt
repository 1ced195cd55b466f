use Rattle.std.proofs.Common.{◌≡◌, take}
use Rattle.era_text.specs.Pieces.{sets_text}
use Rattle.era_line.proofs.PartSteps.{HasAdded}
use Rattle.era_text.proofs.writer.give_sets.Given as goal

-- those so far were added, and the sink has not failed
abbrev pub invariant-loop-set : goal.invariant-loop-set
invariant-loop-set g l =
    HasAdded (g.K.Sink.given l.initial.sink) l.initial.text (g.K.Sink.given l.sink) l.text (sets_text (take l.set-index l.sets))
    × (g.K.Sink.faults l.sink ≡ g.K.Sink.faults l.initial.sink)
