-- Runs that are made of flags.
use Rattle.std.proofs.Common.{◌≡◌, ℕ, ◌+◌, ◌-◌, ◌<◌, ◌≤◌, Bool, false, true, ◌||◌, ◌&&◌, nat_lt, nat_le, List, [], ◌∷◌, ◌++◌, length, Result, Ok, Err, IfOk, refl, arith, inl, inr, ◌∙◌, sym}
use Rattle.std.proofs.lemmas.Bool.{cases_lt}
use Rattle.std.proofs.lemmas.Bool.Decides.{nat_tests}
use Rattle.era_base.specs.Flags.{has}
use Rattle.era_base.specs.Runs.{AreRuns, EndsBefore, runs_cover}
use Rattle.era_model.specs.Conditions.{ListsExactly}
use Rattle.era_model.proofs.FlagsOfRuns.{cover-beyond, cover-push}

-- the runs of the flags below an index, but for those from `first` on, which are all set
pub record RunsSoFar (flags : List Bool) (runs : List (ℕ × ℕ)) (first index : ℕ) : Type 0 where
  pub begun : first ≤ index
  pub ends : EndsBefore runs first
  pub exact : (block : ℕ) → block < first → runs_cover runs block ≡ has flags block
  pub waiting : (block : ℕ) → first ≤ block → block < index → has flags block ≡ true

-- one more run, up to an end without it
pub cover-add : (runs : List (ℕ × ℕ)) (first end block : ℕ) → first < end
    → runs_cover (runs ++ (first, end - 1) ∷ []) block ≡ (runs_cover runs block || (nat_le first block && nat_lt block end))
cover-add runs first end block lt =
    let test : nat_le block (end - 1) ≡ nat_lt block end = grind (arith, nat_tests) in
    rw (cover-push runs (first, end - 1) block, test) refl

-- with the waiting ones added, the runs are those of the flags below the index
pub exact-added : (flags : List Bool) (runs new : List (ℕ × ℕ)) (first index : ℕ) → RunsSoFar flags runs first index
    → ((block : ℕ) → runs_cover new block ≡ (runs_cover runs block || (nat_le first block && nat_lt block index)))
    → (block : ℕ) → block < index → runs_cover new block ≡ has flags block
exact-added flags runs new first index so_far added block lt =
    elim (cases_lt block first) [
      | inl below ↦ let e = so_far.exact block below in
          let test : (nat_le first block && nat_lt block index) ≡ false = grind (arith, nat_tests) in
          rw (added block, test) (or_false (runs_cover runs block) ∙ e)
      | inr above ↦ let e = so_far.waiting block above lt in
          let none = cover-beyond runs first block so_far.ends above in
          let test : (nat_le first block && nat_lt block index) ≡ true = grind (arith, nat_tests) in
          rw (added block, test, none, e) refl
    ]
  where
    or_false : (b : Bool) → (b || false) ≡ b
    or_false true = refl
    or_false false = refl

-- they don't have a block from the index on
pub none-added : (flags : List Bool) (runs new : List (ℕ × ℕ)) (first index : ℕ) → RunsSoFar flags runs first index
    → ((block : ℕ) → runs_cover new block ≡ (runs_cover runs block || (nat_le first block && nat_lt block index)))
    → (block : ℕ) → index ≤ block → runs_cover new block ≡ false
none-added flags runs new first index so_far added block le =
    let begun = so_far.begun in
    let none = cover-beyond runs first block so_far.ends (omega arith) in
    let test : (nat_le first block && nat_lt block index) ≡ false = grind (arith, nat_tests) in
    rw (added block, test, none) refl

-- a flag that isn't set closes the run before it
pub so_far-closed : (flags : List Bool) (runs new : List (ℕ × ℕ)) (first index : ℕ) → RunsSoFar flags runs first index → has flags index ≡ false
    → ((block : ℕ) → runs_cover new block ≡ (runs_cover runs block || (nat_le first block && nat_lt block index)))
    → EndsBefore new (index + 1) → RunsSoFar flags new (index + 1) (index + 1)
so_far-closed flags runs new first index so_far unset added ends = record {
  begun = omega arith;
  ends = ends;
  exact = λ block lt. elim (cases_lt block index) [
    | inl below ↦ exact-added flags runs new first index so_far added block below
    | inr above ↦ let at : block ≡ index = omega arith in
        rw (at, unset) (none-added flags runs new first index so_far added index (omega arith))
  ];
  waiting = λ block le lt. absurd (omega arith);
}

-- a flag that is set waits
pub so_far-kept : (flags : List Bool) (runs : List (ℕ × ℕ)) (first index : ℕ) → RunsSoFar flags runs first index → has flags index ≡ true
    → RunsSoFar flags runs first (index + 1)
so_far-kept flags runs first index so_far set =
    let begun = so_far.begun in
    record {
      begun = omega arith;
      ends = so_far.ends;
      exact = so_far.exact;
      waiting = λ block le lt. elim (cases_lt block index) [
        | inl below ↦ so_far.waiting block le below
        | inr above ↦ let at : block ≡ index = omega arith in rw at set
      ];
    }

-- at the end of the flags the runs are exactly theirs
pub so_far-finished : (flags : List Bool) (runs new : List (ℕ × ℕ)) (first : ℕ) → RunsSoFar flags runs first (length flags)
    → ((block : ℕ) → runs_cover new block ≡ (runs_cover runs block || (nat_le first block && nat_lt block (length flags))))
    → AreRuns new → ListsExactly (length flags) (has flags) new
so_far-finished flags runs new first so_far added maximal = record {
  maximal = maximal;
  exact = λ block. elim (cases_lt block (length flags)) [
    | inl below ↦ let test : nat_lt block (length flags) ≡ true = grind (arith, nat_tests) in
        rw test (exact-added flags runs new first (length flags) so_far added block below)
    | inr above ↦ let test : nat_lt block (length flags) ≡ false = grind (arith, nat_tests) in
        rw test (none-added flags runs new first (length flags) so_far added block above)
  ];
}

-- exactly the blocks that pass a test are listed where each one's flag is what the test says
pub lists-by_test : (blocks : ℕ) (flags : List Bool) (test : ℕ → Bool) (runs : List (ℕ × ℕ)) → length flags ≡ blocks → ((block : ℕ) → block < blocks → has flags block ≡ test block)
    → ListsExactly (length flags) (has flags) runs → ListsExactly blocks test runs
lists-by_test blocks flags test runs size same lists = record {
  maximal = lists.maximal;
  exact = λ block. elim (cases_lt block blocks) [
    | inl below ↦ let e = same block below in rw (← size, ← e) (lists.exact block)
    | inr above ↦ let beyond : nat_lt block blocks ≡ false = grind (arith, nat_tests) in
        let e = lists.exact block in rw (size, beyond) at e ∙ sym (rw beyond refl)
  ];
}

-- what every value has, that of an Ok has
pub if_ok-map : {T E : Type 0} (r : Result T E) (P Q : T → Type 0) → ((x : T) → P x → Q x) → IfOk r P → IfOk r Q
if_ok-map (Ok x) P Q gives has = gives x has
if_ok-map (Err e) P Q gives has = tt
