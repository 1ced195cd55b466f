use Rattle.std.proofs.Common.{◌≡◌, length, take, drop}
use Rattle.era_meta.proofs.free_blocks.number_list.Given as goal

-- the pages so far have the blocks that were taken
abbrev pub invariant-loop-index : goal.invariant-loop-index
invariant-loop-index l = record {
  size : length l.pages ≡ length l.fn.pages;
  front : take l.index l.pages ≡ take l.index l.fn.free;
  left : l.free ≡ drop l.index l.fn.free;
}
