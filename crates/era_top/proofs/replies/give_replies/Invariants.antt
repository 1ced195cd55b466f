use Rattle.std.proofs.Common.{◌≡◌, ◌+◌, ◌*◌, ◌≤◌}
use Rattle.era_line.proofs.PartSteps.{HasAdded}
use Rattle.era_top.proofs.Gives.{StandBefore}
use Rattle.era_top.proofs.replies.give_replies.Given as goal

-- the replies so far were added, and with those that are left they are all
abbrev pub invariant-loop-outcome : goal.invariant-loop-outcome
invariant-loop-outcome g l =
    StandBefore l.first l.commands l.outcomes l.outcome-index l.place (HasAdded (g.K.Sink.given l.initial.sink) l.initial.text (g.K.Sink.given l.sink) l.text)
    × (g.K.Sink.faults l.sink ≡ g.K.Sink.faults l.initial.sink)
    × (l.place ≤ l.first + 4 * l.outcome-index)
    × (l.index ≡ l.outcome-index)
