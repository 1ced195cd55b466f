use Rattle.std.proofs.Common.{◌≡◌, All, length, vec_len}
use Rattle.era_marks.proofs.session_marks.spare_sets.Given as goal

-- the sets so far have that many flags each
abbrev pub invariant-loop : goal.invariant-loop
invariant-loop l = (vec_len l.sets ≡ l.counter) × All (λ set. length set.blocks ≡ l.blocks) l.sets.items
