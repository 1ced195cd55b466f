use Rattle.std.proofs.Common.{◌≡◌, ℕ, ◌+◌, ◌≤◌, true, false, None}
use Rattle.era_gate.specs.Calls.{has_lane}
use Rattle.era_gate_scripts.proofs.rounds.rounds.Given as goal

abbrev pub invariant-loop-number : goal.invariant-loop-number
invariant-loop-number l =
    (l.seat.table ≡ l.gate.table)
    × (l.pass.table ≡ l.gate.table)
    × (l.seat.part.state.inside ≡ false)
    × (l.seat.part.state.flight ≡ None)
    × (has_lane l.lane l.pass.part.lanes ≡ true)
    × (1000 ≤ l.pass.part.budget + l._number)
    × ((i : ℕ) → has_lane i l.pass.part.lanes ≡ has_lane i l.initial.pass.part.lanes)
