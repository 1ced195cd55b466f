-- Runs that list the blocks below one that pass a test, with one more run behind them.
use Rattle.std.proofs.Common.{◌≡◌, ℕ, ◌+◌, ◌<◌, ◌≤◌, Bool, true, false, ◌&&◌, ◌||◌, List, [], ◌∷◌, ◌++◌, refl, ap, sym, ◌∙◌, subst, inl, inr, arith}
use Rattle.std.specs.Prelude.{nat_le, nat_lt}
use Rattle.std.proofs.lemmas.Bool.{cases_lt, lt-ltb, le-ltb, le-leb, lt-leb, false≢true}
use Rattle.era_base.specs.Runs.{EndsBefore, runs_cover, IsNextRun, NoneFrom, ListExactly}

-- Runs list the blocks below one that pass a test, and don't touch a block that passes from there on.
pub record ListBelow (test : ℕ → Bool) (runs : List (ℕ × ℕ)) (next : ℕ) : Type 0 where
  pub covered : (block : ℕ) → runs_cover runs block ≡ (nat_lt block next && test block)
  pub apart : (block : ℕ) → next ≤ block → test block ≡ true → EndsBefore runs block

or_assoc : (a b c : Bool) → ((a || b) || c) ≡ (a || (b || c))
or_assoc true b c = refl
or_assoc false b c = refl

or-false : (a : Bool) → (a || false) ≡ a
or-false true = refl
or-false false = refl

-- one run more covers its own blocks too
covers-push : (runs : List (ℕ × ℕ)) (run : ℕ × ℕ) (block : ℕ) → runs_cover (runs ++ run ∷ []) block ≡ (runs_cover runs block || (nat_le run.0 block && nat_le block run.1))
covers-push [] run block = or-false (nat_le run.0 block && nat_le block run.1)
covers-push (first ∷ runs) run block =
    ap (λ rest. (nat_le first.0 block && nat_le block first.1) || rest) (covers-push runs run block)
    ∙ sym (or_assoc (nat_le first.0 block && nat_le block first.1) (runs_cover runs block) (nat_le run.0 block && nat_le block run.1))

-- runs that end before a block end before a later one
ends_before-later : (runs : List (ℕ × ℕ)) (block next : ℕ) → block ≤ next → EndsBefore runs block → EndsBefore runs next
ends_before-later [] block next later ends = tt
ends_before-later (run ∷ runs) block next later ends = ((let e = ends.0 in omega arith), ends_before-later runs block next later ends.1)

ends_before-push : (runs : List (ℕ × ℕ)) (run : ℕ × ℕ) (next : ℕ) → EndsBefore runs next → run.1 + 1 < next → EndsBefore (runs ++ run ∷ []) next
ends_before-push [] run next ends last = (last, tt)
ends_before-push (first ∷ runs) run next ends last = (ends.0, ends_before-push runs run next ends.1 last)

-- no block is listed yet
pub listed-start : (test : ℕ → Bool) → ListBelow test [] 0
listed-start test = record {
  covered = λ block. sym (ap (λ below. below && test block) (le-ltb block 0 (omega arith)));
  apart = λ block later is. tt;
}

-- the next run may be added behind the others
pub listed-behind : (test : ℕ → Bool) (runs : List (ℕ × ℕ)) (from : ℕ) (run : ℕ × ℕ) → ListBelow test runs from → IsNextRun test from run → EndsBefore runs run.0
listed-behind test runs from run listed next = listed.apart run.0 next.order.0 (next.all_within run.0 (omega arith) next.order.1)

-- what the runs with one more run cover at a block
covered-more : (test : ℕ → Bool) (from : ℕ) (run : ℕ × ℕ) (block : ℕ) → IsNextRun test from run
    → ((nat_lt block from && test block) || (nat_le run.0 block && nat_le block run.1)) ≡ (nat_lt block (run.1 + 1) && test block)
covered-more test from run block next = elim (cases_lt block from) [
  | inl early ↦ rw (lt-ltb block from early, lt-leb run.0 block (let o = next.order in omega arith), lt-ltb block (run.1 + 1) (let o = next.order in omega arith)) (or-false (test block))
  | inr late ↦ elim (cases_lt block run.0) [
    | inl before ↦ rw (le-ltb block from late, lt-leb run.0 block before, next.none_before block late before, lt-ltb block (run.1 + 1) (let o = next.order in omega arith)) refl
    | inr within ↦ elim (cases_lt run.1 block) [
      | inl past ↦ rw (le-ltb block from late, le-leb run.0 block within, lt-leb block run.1 past, le-ltb block (run.1 + 1) (omega arith)) refl
      | inr inside ↦ rw (le-ltb block from late, le-leb run.0 block within, le-leb block run.1 inside, lt-ltb block (run.1 + 1) (omega arith), next.all_within block within inside) refl
    ]
  ]
]

-- with the next run, the blocks up to its last one are listed
pub listed-more : (test : ℕ → Bool) (runs : List (ℕ × ℕ)) (from : ℕ) (run : ℕ × ℕ) → ListBelow test runs from → IsNextRun test from run → ListBelow test (runs ++ run ∷ []) (run.1 + 1)
listed-more test runs from run listed next = record {
  covered = λ block. covers-push runs run block ∙ ap (λ before. before || (nat_le run.0 block && nat_le block run.1)) (listed.covered block) ∙ covered-more test from run block next;
  apart = λ block later is. elim (cases_lt (run.1 + 1) block) [
    | inl past ↦ ends_before-push runs run block (ends_before-later runs run.0 block (let o = next.order in omega arith) (listed-behind test runs from run listed next)) past
    | inr here ↦
        let same : run.1 + 1 ≡ block = omega arith in
        absurd (false≢true (sym (subst (λ other. test other ≡ false) same next.none_behind) ∙ is))
  ];
}

-- where no block from here on passes the test, all are listed
pub listed-end : (test : ℕ → Bool) (runs : List (ℕ × ℕ)) (from : ℕ) → ListBelow test runs from → NoneFrom test from → ListExactly runs test
listed-end test runs from listed none = λ block. listed.covered block ∙ elim (cases_lt block from) [
  | inl early ↦ rw (lt-ltb block from early) refl
  | inr late ↦ rw (le-ltb block from late, none block late) refl
]
