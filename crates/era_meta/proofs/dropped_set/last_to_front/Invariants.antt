use Rattle.std.proofs.Common.{◌≡◌, ◌++◌, drop, take}
use Rattle.era_meta.proofs.dropped_set.last_to_front.Given as goal

-- the first sets were moved behind the others
abbrev pub invariant-loop : goal.invariant-loop
invariant-loop l = l.sets ≡ drop l.counter l.fn.sets ++ take l.counter l.fn.sets
