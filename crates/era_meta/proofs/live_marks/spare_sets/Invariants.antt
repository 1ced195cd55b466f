use Rattle.std.proofs.Common.{◌≡◌, length}
use Rattle.std.specs.List.{AllByRecursion}
use Rattle.era_meta.proofs.live_marks.spare_sets.Given as goal

-- the sets so far are of that many blocks
abbrev pub invariant-loop : goal.invariant-loop
invariant-loop l = (length l.sets ≡ l.counter) × AllByRecursion (λ set. length set.blocks ≡ l.blocks) l.sets
