use Rattle.std.proofs.Common.{◌≡◌, length, take}
use Rattle.era_layout.specs.Root.{numbers_from}
use Rattle.era_layout.proofs.page_list.renumber.Given as goal

abbrev pub invariant-loop-index : goal.invariant-loop-index
invariant-loop-index l = record {
  size : length l.pages ≡ length l.fn.pages;
  front : take l.index l.pages ≡ numbers_from l.first l.index;
}
