use Rattle.std.proofs.Common.{◌≡◌, [], ◌++◌}
use Rattle.std.specs.Prelude.{All}
use Rattle.era_gate.specs.Calls.{StripeToken}
use Rattle.era_gate.specs.Plays.{with_stripes}
use Rattle.era_gate.specs.Tells.{parts_of}
use Rattle.era_gate.proofs.close.stripes_in.Given as goal

abbrev pub invariant-loop-seat : goal.invariant-loop-seat
invariant-loop-seat l =
    (l.place.table_id ≡ l.initial.place.table_id)
    × All (λ (seat : StripeToken). seat.table ≡ l.board.shared.table_id) l.stripes.items
    × (l.place.me ≡ (with_stripes l.place.me.0.stripes l.initial.place.me.0, []))
    × (parts_of l.stripes.items ++ l.place.me.0.stripes ≡ parts_of l.initial.stripes.items)

abbrev pub decreases-loop-seat : goal.decreases-loop-seat
decreases-loop-seat l = goal.left-loop-seat l
