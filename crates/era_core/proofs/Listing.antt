-- Runs that end below a number of blocks, and runs that list exactly the blocks that pass a test.
use Rattle.std.proofs.Common.{◌≡◌, ℕ, zero, suc, ◌+◌, ◌<◌, ◌≤◌, Bool, true, false, ◌||◌, ◌&&◌, nat_lt, nat_le, List, [], ◌∷◌, ◌++◌, length, take, get_or, refl, arith, rules, inl, inr}
use Rattle.std.proofs.lemmas.Bool.{cases_lt}
use Rattle.std.proofs.lemmas.Bool.Decides.{nat_tests}
use Rattle.std.proofs.lemmas.List.{take_more}
use Rattle.era_base.specs.Runs.{AreRuns, runs_cover}
use Rattle.era_model.specs.Conditions.{ListsExactly}

-- one more run has its own blocks beside those of the others
cover-append : (runs : List (ℕ × ℕ)) (run : ℕ × ℕ) (block : ℕ) → runs_cover (runs ++ run ∷ []) block ≡ (runs_cover runs block || (nat_le run.0 block && nat_le block run.1))
cover-append [] run block = search rules
cover-append (first ∷ runs) run block = let rest = cover-append runs run block in grind (arith, rest)

-- a run has its last block
pub cover-last : (runs : List (ℕ × ℕ)) (i : ℕ) (d : ℕ × ℕ) → AreRuns runs → i < length runs → runs_cover runs (get_or runs i d).1 ≡ true
cover-last [] i d are lt = absurd (omega arith)
cover-last (run ∷ runs) zero d are lt = let some = are.0 in grind (arith, nat_tests, some)
cover-last (run ∷ runs) (suc i) d are lt = let rest = cover-last runs i d are.2 (omega arith) in rw rest (or_true (nat_le run.0 (get_or runs i d).1 && nat_le (get_or runs i d).1 run.1))
  where
    or_true : (b : Bool) → (b || true) ≡ true
    or_true true = refl
    or_true false = refl

-- a block behind one more run lies in none
pub cover-take : (runs : List (ℕ × ℕ)) (i : ℕ) (d : ℕ × ℕ) (block : ℕ) → i < length runs → runs_cover (take i runs) block ≡ false → (get_or runs i d).1 < block
    → runs_cover (take (i + 1) runs) block ≡ false
cover-take runs i d block lt none behind =
    let run = get_or runs i d in
    let test : (nat_le run.0 block && nat_le block run.1) ≡ false = grind (arith, nat_tests) in
    rw (take_more runs i d lt, cover-append (take i runs) run block, none, test) refl

-- what the blocks of the origin say, and that none lies behind them, is all
pub lists-all : (blocks : ℕ) (test : ℕ → Bool) (runs : List (ℕ × ℕ)) → AreRuns runs → ((block : ℕ) → block < blocks → runs_cover runs block ≡ test block)
    → ((block : ℕ) → blocks ≤ block → runs_cover runs block ≡ false) → ListsExactly blocks test runs
lists-all blocks test runs are same none = record {
  maximal = are;
  exact = λ block. elim (cases_lt block blocks) [
    | inl below ↦ let is : nat_lt block blocks ≡ true = grind (arith, nat_tests) in rw is (same block below)
    | inr above ↦ let is : nat_lt block blocks ≡ false = grind (arith, nat_tests) in rw is (none block above)
  ];
}

-- a list says it of each block of the origin
pub listed-below : (blocks : ℕ) (test : ℕ → Bool) (runs : List (ℕ × ℕ)) → ListsExactly blocks test runs → (block : ℕ) → block < blocks → runs_cover runs block ≡ test block
listed-below blocks test runs lists block below =
    let is : nat_lt block blocks ≡ true = grind (arith, nat_tests) in rw is at (lists.exact block)

-- and of those behind them
pub listed-beyond : (blocks : ℕ) (test : ℕ → Bool) (runs : List (ℕ × ℕ)) → ListsExactly blocks test runs → (block : ℕ) → blocks ≤ block → runs_cover runs block ≡ false
listed-beyond blocks test runs lists block above =
    let is : nat_lt block blocks ≡ false = grind (arith, nat_tests) in rw is at (lists.exact block)
