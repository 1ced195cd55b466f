use Rattle.std.proofs.Common.{◌+◌, ◌-◌, ◌*◌, ◌≤◌, ◌↔◌}
use Rattle.era_layout.specs.Root.{EraOrder}
use Rattle.era_layout.specs.Damage.{sets_at}
use Rattle.era_layout.proofs.lists_checker.are_in_order.Given as goal

abbrev pub invariant-loop : goal.invariant-loop
invariant-loop l = record {
  within : l.at ≤ l.offset + 12 * l.counter;
  same : EraOrder 0 l.era (sets_at l.bytes l.width l.offset l.count) ↔ EraOrder l.last l.era (sets_at l.bytes l.width l.at (l.count - l.counter));
}
