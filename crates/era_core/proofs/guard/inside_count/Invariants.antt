use Rattle.std.proofs.Common.{◌≡◌, ◌+◌, ◌≤◌, drop}
use Rattle.era_core.specs.Machine.{count_inside}
use Rattle.era_core.proofs.guard.inside_count.Given as goal

abbrev pub invariant-loop-flag : goal.invariant-loop-flag
invariant-loop-flag l = record {
  counted : l.count + count_inside (drop l.flag-index l.inside) ≡ count_inside l.inside;
  few : l.count ≤ l.flag-index;
}
