-- Marks that are laid out block by block.
use Rattle.std.proofs.Common.{◌≡◌, ℕ, zero, suc, ◌+◌, ◌<◌, Bool, true, false, not, List, [], ◌∷◌, ◌++◌, length, take, get_or, refl, ap, ◌∙◌, add-one, arith}
use mathlib.Core.Bool.{beq}
use Rattle.std.proofs.lemmas.List.{take_more}
use Rattle.era_base.specs.Runs.{runs_cover}
use Rattle.era_model.specs.declared.marked_set.MarkedSet.{MarkedSet}
use Rattle.era_model.specs.MarkRuns.{era_in_runs, eras_of_runs, flags_of_runs, sets_of_runs}
use Rattle.era_model.specs.Marks.{ArchivedSet}

-- one more block has its flag
flags-more : (first count : ℕ) (runs : List (ℕ × ℕ)) → flags_of_runs first (suc count) runs ≡ flags_of_runs first count runs ++ runs_cover runs (first + count) ∷ []
flags-more first zero runs = let e : first + 0 ≡ first = omega arith in rw e refl
flags-more first (suc count) runs =
    let e : first + suc count ≡ first + 1 + count = omega arith in
    rw e (ap (λ l. runs_cover runs first ∷ l) (flags-more (first + 1) count runs))

-- the same, counted from 0
pub flags-push : (count : ℕ) (runs : List (ℕ × ℕ)) → flags_of_runs 0 (count + 1) runs ≡ flags_of_runs 0 count runs ++ runs_cover runs count ∷ []
flags-push count runs = let e : 0 + count ≡ count = omega arith in let more = flags-more 0 count runs in rw add-one (rw e at more)

-- one more block has its entry
eras-more : (first count : ℕ) (runs : List (ℕ × ℕ × ℕ)) → eras_of_runs first (suc count) runs ≡ eras_of_runs first count runs ++ era_in_runs runs (first + count) ∷ []
eras-more first zero runs = let e : first + 0 ≡ first = omega arith in rw e refl
eras-more first (suc count) runs =
    let e : first + suc count ≡ first + 1 + count = omega arith in
    rw e (ap (λ l. era_in_runs runs first ∷ l) (eras-more (first + 1) count runs))

-- the same, counted from 0
pub eras-push : (count : ℕ) (runs : List (ℕ × ℕ × ℕ)) → eras_of_runs 0 (count + 1) runs ≡ eras_of_runs 0 count runs ++ era_in_runs runs count ∷ []
eras-push count runs = let e : 0 + count ≡ count = omega arith in let more = eras-more 0 count runs in rw add-one (rw e at more)

-- one more set
pub sets-append : (blocks : ℕ) (sets : List MarkedSet) (set : MarkedSet)
    → sets_of_runs blocks (sets ++ set ∷ []) ≡ sets_of_runs blocks sets ++ record { era = set.era; blocks = flags_of_runs 0 blocks set.blocks } ∷ []
sets-append blocks [] set = refl
sets-append blocks (first ∷ sets) set = ap (λ l. record { era = first.era; blocks = flags_of_runs 0 blocks first.blocks } ∷ l) (sets-append blocks sets set)

-- the same for more and more of a list
pub sets-push : (blocks : ℕ) (sets : List MarkedSet) (i : ℕ) (set : MarkedSet) → i < length sets → set ≡ get_or sets i set
    → sets_of_runs blocks (take (i + 1) sets) ≡ sets_of_runs blocks (take i sets) ++ record { era = set.era; blocks = flags_of_runs 0 blocks set.blocks } ∷ []
sets-push blocks sets i set lt is =
    let more = rw (← is) at (take_more sets i set lt) in
    ap (λ l. sets_of_runs blocks l) more ∙ sets-append blocks (take i sets) set

-- flags of so many blocks
pub flags-length : (first count : ℕ) (runs : List (ℕ × ℕ)) → length (flags_of_runs first count runs) ≡ count
flags-length first zero runs = refl
flags-length first (suc count) runs = ap suc (flags-length (first + 1) count runs)

-- the flag of a block
flag-from : (first count : ℕ) (runs : List (ℕ × ℕ)) (i : ℕ) → i < count → get_or (flags_of_runs first count runs) i false ≡ runs_cover runs (first + i)
flag-from first zero runs i lt = absurd (omega arith)
flag-from first (suc count) runs zero lt = let e : first + 0 ≡ first = omega arith in rw e refl
flag-from first (suc count) runs (suc i) lt =
    let e : first + suc i ≡ first + 1 + i = omega arith in rw e (flag-from (first + 1) count runs i (omega arith))

-- the same, counted from 0
pub flag-of : (count : ℕ) (runs : List (ℕ × ℕ)) (i : ℕ) → i < count → get_or (flags_of_runs 0 count runs) i false ≡ runs_cover runs i
flag-of count runs i lt = let e : 0 + i ≡ i = omega arith in rw e at (flag-from 0 count runs i lt)

-- entries of so many blocks
pub eras-length : (first count : ℕ) (runs : List (ℕ × ℕ × ℕ)) → length (eras_of_runs first count runs) ≡ count
eras-length first zero runs = refl
eras-length first (suc count) runs = ap suc (eras-length (first + 1) count runs)

-- the entry of a block
era-from : (first count : ℕ) (runs : List (ℕ × ℕ × ℕ)) (i : ℕ) → i < count → get_or (eras_of_runs first count runs) i 0 ≡ era_in_runs runs (first + i)
era-from first zero runs i lt = absurd (omega arith)
era-from first (suc count) runs zero lt = let e : first + 0 ≡ first = omega arith in rw e refl
era-from first (suc count) runs (suc i) lt =
    let e : first + suc i ≡ first + 1 + i = omega arith in rw e (era-from (first + 1) count runs i (omega arith))

-- the same, counted from 0
pub era-of : (count : ℕ) (runs : List (ℕ × ℕ × ℕ)) (i : ℕ) → i < count → get_or (eras_of_runs 0 count runs) i 0 ≡ era_in_runs runs i
era-of count runs i lt = let e : 0 + i ≡ i = omega arith in rw e at (era-from 0 count runs i lt)

-- as many sets
pub sets-length : (blocks : ℕ) (sets : List MarkedSet) → length (sets_of_runs blocks sets) ≡ length sets
sets-length blocks [] = refl
sets-length blocks (set ∷ sets) = ap suc (sets-length blocks sets)

-- one of them
pub set-of : (blocks : ℕ) (sets : List MarkedSet) (i : ℕ) (d : ArchivedSet) (set : MarkedSet) → i < length sets → set ≡ get_or sets i set
    → get_or (sets_of_runs blocks sets) i d ≡ record { era = set.era; blocks = flags_of_runs 0 blocks set.blocks }
set-of blocks [] i d set lt is = absurd (omega arith)
set-of blocks (first ∷ sets) zero d set lt is = rw (← is) refl
set-of blocks (first ∷ sets) (suc i) d set lt is = set-of blocks sets i d set (omega arith) is

-- flags that differ aren't the same
pub differ : (first second : Bool) → not (beq first second) ≡ true → first ≡ second → false ≡ true
differ true true other same = other
differ true false other same = cc
differ false true other same = cc
differ false false other same = other

-- flags that don't differ are the same
pub agree : (first second : Bool) → not (beq first second) ≡ false → first ≡ second
agree true true same = refl
agree true false same = cc
agree false true same = cc
agree false false same = refl
