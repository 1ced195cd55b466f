use Rattle.std.proofs.Common.{◌≡◌, ◌≤◌, take}
use Rattle.era_layout.specs.Root.{fields_of, pages_of}
use Rattle.era_meta.specs.Usage.{count_apart}
use Rattle.era_meta.proofs.usage.count_others.Given as goal

-- those so far are counted
abbrev pub invariant-loop-page : goal.invariant-loop-page
invariant-loop-page l = record {
  counted : l.count ≡ count_apart (pages_of (fields_of l.root)) (take l.page-index l.pages);
  most : l.count ≤ l.page-index;
}
