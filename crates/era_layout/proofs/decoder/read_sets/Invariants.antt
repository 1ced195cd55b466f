use Rattle.std.proofs.Common.{◌≡◌, ◌+◌, ◌-◌, ◌*◌, ◌≤◌, ◌++◌, length}
use Rattle.era_layout.specs.Damage.{sets_at}
use Rattle.era_layout.proofs.decoder.read_sets.Given as goal

abbrev pub invariant-loop : goal.invariant-loop
invariant-loop l = record {
  room : length l.sets ≡ l.counter;
  within : l.at ≤ l.offset + 12 * l.counter;
  same : l.sets ++ sets_at l.bytes l.width l.at (l.count - l.counter) ≡ sets_at l.bytes l.width l.offset l.count;
}
