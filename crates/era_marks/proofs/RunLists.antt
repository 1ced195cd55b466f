-- Runs with one more run behind them, and what they cover.
use Rattle.std.proofs.Common.{◌≡◌, ℕ, ◌+◌, ◌-◌, ◌<◌, ◌≤◌, Bool, true, false, ◌&&◌, ◌||◌, List, [], ◌∷◌, ◌++◌, refl, ap, sym, ◌∙◌, subst, inl, inr, arith}
use Rattle.std.specs.Prelude.{nat_le, nat_lt}
use Rattle.std.proofs.lemmas.Bool.{cases_lt}
use Rattle.std.proofs.lemmas.Bool.Decides.{nat_tests}
use Rattle.era_base.specs.Runs.{EndsBefore, runs_cover}
use Rattle.era_marks.specs.Room.{AddsRun}

or-assoc : (a b c : Bool) → ((a || b) || c) ≡ (a || (b || c))
or-assoc true b c = refl
or-assoc false b c = refl

or-false : (a : Bool) → (a || false) ≡ a
or-false true = refl
or-false false = refl

-- one run more covers its own blocks too
runs_cover-push : (runs : List (ℕ × ℕ)) (run : ℕ × ℕ) (block : ℕ) → runs_cover (runs ++ run ∷ []) block ≡ (runs_cover runs block || (nat_le run.0 block && nat_le block run.1))
runs_cover-push [] run block = or-false (nat_le run.0 block && nat_le block run.1)
runs_cover-push (first ∷ runs) run block =
    ap (λ rest. (nat_le first.0 block && nat_le block first.1) || rest) (runs_cover-push runs run block)
    ∙ sym (or-assoc (nat_le first.0 block && nat_le block first.1) (runs_cover runs block) (nat_le run.0 block && nat_le block run.1))

-- runs that end before a block end before a later one
pub ends_before-later : (runs : List (ℕ × ℕ)) (block next : ℕ) → block ≤ next → EndsBefore runs block → EndsBefore runs next
ends_before-later [] block next later ends = tt
ends_before-later (run ∷ runs) block next later ends = ((let e = ends.0 in omega arith), ends_before-later runs block next later ends.1)

ends_before-push : (runs : List (ℕ × ℕ)) (run : ℕ × ℕ) (next : ℕ) → EndsBefore runs next → run.1 + 1 < next → EndsBefore (runs ++ run ∷ []) next
ends_before-push [] run next ends last = (last, tt)
ends_before-push (first ∷ runs) run next ends last = (ends.0, ends_before-push runs run next ends.1 last)

last-within : (block end : ℕ) → 0 < end → nat_le block (end - 1) ≡ nat_lt block end
last-within block end some = grind (arith, nat_tests)

-- a run that isn't empty was added
pub adds-some : (runs : List (ℕ × ℕ)) (begin end : ℕ) → begin < end → EndsBefore runs begin → AddsRun runs (runs ++ (begin, end - 1) ∷ []) begin end
adds-some runs begin end some ends = record {
  covered = λ block. runs_cover-push runs (begin, end - 1) block
      ∙ ap (λ within. runs_cover runs block || (nat_le begin block && within)) (last-within block end (omega arith));
  apart = λ next later. ends_before-push runs (begin, end - 1) next (ends_before-later runs begin next (omega arith) ends) (omega arith);
}

none-between : (begin end block : ℕ) → end ≤ begin → (nat_le begin block && nat_lt block end) ≡ false
none-between begin end block none = grind (arith, nat_tests)

-- there was no block to add
pub adds-none : (runs : List (ℕ × ℕ)) (begin end : ℕ) → begin ≤ end → end ≤ begin → EndsBefore runs begin → AddsRun runs runs begin end
adds-none runs begin end order none ends = record {
  covered = λ block. sym (ap (λ more. runs_cover runs block || more) (none-between begin end block none) ∙ or-false (runs_cover runs block));
  apart = λ next later. ends_before-later runs begin next (omega arith) ends;
}

-- What the runs so far list: the blocks before the first that isn't in a run yet, as the test says, and from there on all up to the present one pass it.
pub record IsListedBelow (test : ℕ → Bool) (runs : List (ℕ × ℕ)) (begin block : ℕ) : Type 0 where
  pub order : begin ≤ block
  pub covered : (other : ℕ) → runs_cover runs other ≡ (nat_lt other begin && test other)
  pub apart : EndsBefore runs begin
  pub under_way : (other : ℕ) → begin ≤ other → other < block → test other ≡ true

pub listed-start : (test : ℕ → Bool) → IsListedBelow test [] 0 0
listed-start test = record {
  order = omega arith;
  covered = λ other. sym (ap (λ below. below && test other) (let e : nat_lt other 0 ≡ false = grind (arith, nat_tests) in e));
  apart = tt;
  under_way = λ other low high. absurd (omega arith);
}

-- a block that passes the test is under way
pub listed-more : (test : ℕ → Bool) (runs : List (ℕ × ℕ)) (begin block : ℕ) → IsListedBelow test runs begin block → test block ≡ true → IsListedBelow test runs begin (block + 1)
listed-more test runs begin block listed is = record {
  order = let e = listed.order in omega arith;
  covered = listed.covered;
  apart = listed.apart;
  under_way = λ other low high. elim (cases_lt other block) [
    | inl less ↦ listed.under_way other low less
    | inr last ↦ subst (λ b. test b ≡ true) (let e : block ≡ other = omega arith in e) is
  ];
}

lt-true : (a b : ℕ) → a < b → nat_lt a b ≡ true
lt-true a b h = grind (arith, nat_tests)

lt-false : (a b : ℕ) → b ≤ a → nat_lt a b ≡ false
lt-false a b h = grind (arith, nat_tests)

le-true : (a b : ℕ) → a ≤ b → nat_le a b ≡ true
le-true a b h = grind (arith, nat_tests)

le-false : (a b : ℕ) → b < a → nat_le a b ≡ false
le-false a b h = grind (arith, nat_tests)

-- the blocks that were under way were added, so that all up to the present one are listed
pub listed-closed : (test : ℕ → Bool) (runs runs' : List (ℕ × ℕ)) (begin block : ℕ) → IsListedBelow test runs begin block → AddsRun runs runs' begin block
    → (other : ℕ) → runs_cover runs' other ≡ (nat_lt other block && test other)
listed-closed test runs runs' begin block listed adds other =
    adds.covered other ∙ ap (λ before. before || (nat_le begin other && nat_lt other block)) (listed.covered other)
    ∙ elim (cases_lt other begin) [
      | inl early ↦ rw (lt-true other begin early, le-false begin other early, lt-true other block (let e = listed.order in omega arith)) (or-false (test other))
      | inr late ↦ elim (cases_lt other block) [
        | inl within ↦ rw (lt-false other begin late, le-true begin other late, lt-true other block within, listed.under_way other late within) refl
        | inr past ↦ rw (lt-false other begin late, le-true begin other late, lt-false other block past) refl
      ]
    ]

-- and one that doesn't pass the test is left out
pub listed-next : (test : ℕ → Bool) (runs runs' : List (ℕ × ℕ)) (begin block : ℕ) → IsListedBelow test runs begin block → AddsRun runs runs' begin block → test block ≡ false
    → IsListedBelow test runs' (block + 1) (block + 1)
listed-next test runs runs' begin block listed adds none = record {
  order = omega arith;
  covered = λ other. listed-closed test runs runs' begin block listed adds other ∙ elim (cases_lt other block) [
    | inl less ↦ rw (lt-true other block less, lt-true other (block + 1) (omega arith)) refl
    | inr later ↦ elim (cases_lt block other) [
      | inl past ↦ rw (lt-false other block later, lt-false other (block + 1) (omega arith)) refl
      | inr same ↦
          let out : test other ≡ false = subst (λ b. test b ≡ false) (let e : block ≡ other = omega arith in e) none in
          rw (lt-false other block later, lt-true other (block + 1) (omega arith), out) refl
    ]
  ];
  apart = adds.apart (block + 1) (omega arith);
  under_way = λ other low high. absurd (omega arith);
}
