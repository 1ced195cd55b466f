use Rattle.std.proofs.Common.{◌≡◌, ◌+◌, ◌*◌, ◌++◌, take}
use Rattle.era_layout.specs.Numbers.{u32s_bytes}
use Rattle.era_layout.proofs.numbers.write_u32s.Given as goal

abbrev pub invariant-loop-number : goal.invariant-loop-number
invariant-loop-number l = record {
  behind : l.behind ≡ l.offset + 4 * l.number-index;
  front : take l.behind l.into ≡ take l.offset l.fn.into ++ u32s_bytes (take l.number-index l.numbers);
}
