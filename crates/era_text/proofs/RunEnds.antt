-- The blocks at which runs end: the last of them is the greatest, and all are within the blocks.
use Rattle.std.proofs.Common.{◌≡◌, ℕ, ◌+◌, ◌<◌, ◌≤◌, ◌==◌, ◌&&◌, List, [], ◌∷◌, ◌++◌, refl, arith}
use Rattle.std.specs.Prelude.{Option, Some, None, Bool, true, false, not, nat_lt}
use Rattle.std.proofs.lemmas.Bool.{and_parts, ltb-true}
use Rattle.era_model.specs.EraRuns.{EndWithin}
use Rattle.era_model.specs.MarkRuns.{SetEndsWithin, SetsEndWithin}
use Rattle.era_model.specs.declared.marked_set.MarkedSet.{MarkedSet}
use Rattle.era_text.specs.FirstLine.{is_apart, is_behind, last_of}

-- the block behind the last run of a set
abbrev pub end_of_run : Option (ℕ × ℕ) → ℕ
end_of_run None = 0
end_of_run (Some run) = run.1 + 1

-- the block behind the last run of the array
abbrev pub end_of_entry : Option (ℕ × ℕ × ℕ) → ℕ
end_of_entry None = 0
end_of_entry (Some run) = run.1 + 1

-- one more run within the blocks
pub within-push : (blocks : ℕ) (runs : List (ℕ × ℕ)) (run : ℕ × ℕ) → SetEndsWithin blocks runs → run.1 < blocks → SetEndsWithin blocks (runs ++ run ∷ [])
within-push blocks [] run within lt = (lt, tt)
within-push blocks (first ∷ runs) run within lt = (within.0, within-push blocks runs run within.1 lt)

pub entries-push : (blocks : ℕ) (runs : List (ℕ × ℕ × ℕ)) (run : ℕ × ℕ × ℕ) → EndWithin blocks runs → run.1 < blocks → EndWithin blocks (runs ++ run ∷ [])
entries-push blocks [] run within lt = (lt, tt)
entries-push blocks (first ∷ runs) run within lt = (within.0, entries-push blocks runs run within.1 lt)

pub sets-push : (blocks : ℕ) (sets : List MarkedSet) (set : MarkedSet) → SetsEndWithin blocks sets → SetEndsWithin blocks set.blocks → SetsEndWithin blocks (sets ++ set ∷ [])
sets-push blocks [] set within mine = (mine, tt)
sets-push blocks (first ∷ sets) set within mine = (within.0, sets-push blocks sets set within.1 mine)

-- the last run within the blocks ends there
pub run-end : (blocks : ℕ) (runs : List (ℕ × ℕ)) → SetEndsWithin blocks runs → end_of_run (last_of runs) ≤ blocks
run-end blocks [] within = omega arith
run-end blocks (run ∷ []) within = let lt = within.0 in omega arith
run-end blocks (run ∷ next ∷ runs) within = run-end blocks (next ∷ runs) within.1

pub entry-end : (blocks : ℕ) (runs : List (ℕ × ℕ × ℕ)) → EndWithin blocks runs → end_of_entry (last_of runs) ≤ blocks
entry-end blocks [] within = omega arith
entry-end blocks (run ∷ []) within = let lt = within.0 in omega arith
entry-end blocks (run ∷ next ∷ runs) within = entry-end blocks (next ∷ runs) within.1

-- a run behind the last one ends behind it
pub apart-end : (before : Option (ℕ × ℕ)) (first last : ℕ) → first ≤ last → is_apart before first ≡ true → end_of_run before < last + 1
apart-end None first last some is = omega arith
apart-end (Some run) first last some is = let lt = ltb-true (run.1 + 1) first is in omega arith

pub behind-end : (before : Option (ℕ × ℕ × ℕ)) (first last era : ℕ) → first ≤ last → is_behind before first era ≡ true → end_of_entry before < last + 1
behind-end None first last era some is = omega arith
behind-end (Some run) first last era some is =
    let lt = ltb-true run.1 first (and_parts (nat_lt run.1 first) (not (run.1 + 1 == first && run.2 == era)) is).0 in omega arith

pub not-false : (b : Bool) → not b ≡ false → b ≡ true
not-false true e = refl
not-false false e = cc
