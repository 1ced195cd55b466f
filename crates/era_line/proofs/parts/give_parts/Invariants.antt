use Rattle.std.proofs.Common.{◌≡◌, take}
use Rattle.era_line.specs.Parts.{parts_text}
use Rattle.era_line.proofs.PartSteps.{HasAdded}
use Rattle.era_line.proofs.parts.give_parts.Given as goal

-- the parts so far were added, and the sink has not failed
abbrev pub invariant-loop-part : goal.invariant-loop-part
invariant-loop-part g l =
    HasAdded (g.K.Sink.given l.initial.sink) l.initial.text (g.K.Sink.given l.sink) l.text (parts_text (take l.part-index l.parts))
    × (g.K.Sink.faults l.sink ≡ g.K.Sink.faults l.initial.sink)
