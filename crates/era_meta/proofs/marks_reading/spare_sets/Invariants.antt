use Rattle.std.proofs.Common.{◌≡◌, length}
use Rattle.std.specs.List.{AllByRecursion}
use Rattle.era_meta.proofs.marks_reading.spare_sets.Given as goal

abbrev pub invariant-loop : goal.invariant-loop
invariant-loop l = record {
  count : length l.sets ≡ l.counter;
  sizes : AllByRecursion (λ set. length set.blocks ≡ l.blocks) l.sets;
}
