use Rattle.std.proofs.Common.{◌≡◌, ◌++◌}
use Rattle.era_layout.specs.Numbers.{u32s_at}
use Rattle.era_layout.proofs.page_numbers.PageNumbers.read.Given as goal

abbrev pub invariant-loop-index : goal.invariant-loop-index
invariant-loop-index l = l.self ≡ l.initial.self ++ u32s_at l.bytes l.offset l.index
