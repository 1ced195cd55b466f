use Rattle.std.proofs.Common.{◌≡◌}
use Rattle.era_base.specs.Flags.{tabulate}
use Rattle.era_gate.specs.Calls.{new_seat}
use Rattle.era_gate.specs.Plays.{IsRow}
use Rattle.era_gate.proofs.make.stripes_off.Given as goal

abbrev pub invariant-loop-stripe : goal.invariant-loop-stripe
invariant-loop-stripe l =
    (l.place.table_id ≡ l.initial.place.table_id)
    × IsRow l.stripe l.stripes l.initial.place.me.0 l.place.me
    × (l.seats.items ≡ tabulate 0 l.stripe (new_seat l.initial.place.table_id))
