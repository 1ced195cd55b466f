use Rattle.std.proofs.Common.{◌≡◌, ◌<◌, ◌≤◌, []}
use Rattle.era_gate.specs.Parts.{keeper_view}
use Rattle.era_gate.specs.Plays.{no_command, no_event, keeper_of}
use Rattle.era_gate.proofs.gate.Gate.clear_spare.Given as goal

abbrev pub ghosts-clear : goal.ghosts-clear
ghosts-clear a = record { id = no_command; event = no_event; number = a._index; budget = 0 }

abbrev pub invariant-loop-index : goal.invariant-loop-index
invariant-loop-index l =
    (l.seat-inside.place.table_id ≡ l.initial.seat-inside.place.table_id)
    × (l.seat-inside.era ≡ l.initial.seat-inside.era)
    × (l.seat-inside.place.me ≡ (keeper_view (record { cleared = (keeper_of l.seat-inside.place.me.0).cleared; state = (keeper_of l.initial.seat-inside.place.me.0).state }), []))
    × (l.index ≤ (keeper_of l.seat-inside.place.me.0).cleared)
    × (0 < l.index → (keeper_of l.seat-inside.place.me.0).cleared ≡ l.index)
