-- Runs that may stand behind others, by the last of these.
use Rattle.std.proofs.Common.{◌≡◌, ℕ, suc, ◌+◌, ◌<◌, ◌≤◌, ◌-◌, ◌==◌, ◌&&◌, List, [], ◌∷◌, ◌++◌, length, refl, arith}
use Rattle.std.specs.Prelude.{Some, Bool, true, false, not, nat_lt, max}
use Rattle.std.specs.List.{slice_get}
use Rattle.std.proofs.lemmas.Bool.{and_parts, eq-eqb, ltb-true}
use Rattle.era_base.specs.Runs.{AreRuns, EndsBefore}
use Rattle.era_model.specs.EraRuns.{AreEraRuns, StandsBehind, StandsBehindAll}
use Rattle.era_text.specs.FirstLine.{greatest_era, is_apart, is_behind, last_of}

-- a block that stands apart from the last run stands behind all
pub ends-before : (runs : List (ℕ × ℕ)) (first : ℕ) → AreRuns runs → is_apart (last_of runs) first ≡ true → EndsBefore runs first
ends-before [] first are apart = tt
ends-before (run ∷ []) first are apart = (ltb-true (run.1 + 1) first apart, tt)
ends-before (run ∷ next ∷ runs) first are apart =
    let rest = ends-before (next ∷ runs) first are.2 apart in
    let gap = are.1 in
    let some = are.2.0 in
    let later = rest.0 in
    (omega arith, rest)

differ : (a b : Bool) → not (a && b) ≡ true → a ≡ true → b ≡ true → ⊥
differ true true is one two = cc
differ true false is one two = cc
differ false b is one two = cc

one-behind : (run : ℕ × ℕ × ℕ) (first last era : ℕ) → is_behind (Some run) first era ≡ true → StandsBehind run (first, last, era)
one-behind run first last era behind =
    let parts = and_parts (nat_lt run.1 first) (not (run.1 + 1 == first && run.2 == era)) behind in record {
      later = ltb-true run.1 first parts.0;
      maximal = λ touches same. differ (run.1 + 1 == first) (run.2 == era) parts.1 (eq-eqb (run.1 + 1) first touches) (eq-eqb run.2 era same);
    }

-- a run that stands behind the last run of the array stands behind all
pub stands-behind : (runs : List (ℕ × ℕ × ℕ)) (first last era : ℕ) → AreEraRuns runs → is_behind (last_of runs) first era ≡ true
    → StandsBehindAll runs (first, last, era)
stands-behind [] first last era are behind = tt
stands-behind (run ∷ []) first last era are behind = (one-behind run first last era behind, tt)
stands-behind (run ∷ next ∷ runs) first last era are behind =
    let rest = stands-behind (next ∷ runs) first last era are.3 behind in
    let before : run.1 < next.0 = are.2.later in
    let some : next.0 ≤ next.1 = are.3.0 in
    let later : next.1 < first = rest.0.later in
    (record { later = omega arith; maximal = λ touches. absurd (omega arith) }, rest)

-- the last of items behind which one was put
pub last-pushed : {A : Type 0} (items : List A) (item : A) → last_of (items ++ item ∷ []) ≡ Some item
last-pushed [] item = refl
last-pushed (one ∷ []) item = refl
last-pushed (one ∷ two ∷ items) item = last-pushed (two ∷ items) item

-- the greatest era of runs behind which one was put
pub greatest-pushed : (runs : List (ℕ × ℕ × ℕ)) (run : ℕ × ℕ × ℕ) → greatest_era (runs ++ run ∷ []) ≡ max run.2 (greatest_era runs)
greatest-pushed [] run = refl
greatest-pushed (one ∷ runs) run =
    let rest = greatest-pushed runs run in
    rw rest (omega arith)

-- the last of items by its place
pub last-got : {A : Type 0} (items : List A) → slice_get items (length items - 1) ≡ last_of items
last-got [] = refl
last-got (item ∷ []) = refl
last-got (one ∷ two ∷ items) =
    let rest = last-got (two ∷ items) in
    let place : length (one ∷ two ∷ items) - 1 ≡ suc (length (two ∷ items) - 1) = omega arith in
    rw place rest
