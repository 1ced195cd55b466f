use Rattle.std.proofs.Common.{◌≡◌, length}
use Rattle.std.specs.List.{AllByRecursion}
use Rattle.era_meta.proofs.rooms.list_room.Given as goal

abbrev pub invariant-loop : goal.invariant-loop
invariant-loop l = record {
  count : length l.lists ≡ l.counter;
  sizes : AllByRecursion (λ pages. length pages ≡ l.width) l.lists;
}
