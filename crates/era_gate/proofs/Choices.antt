-- Choices by a flag, counts of stripes that pass a test, and lists of stays.
use Rattle.std.proofs.Common.{◌≡◌, ℕ, zero, suc, ◌+◌, ◌<◌, ◌≤◌, ◌≢◌, ◌==◌, max, cond, Bool, true, false, List, [], ◌∷◌, slice_index, refl, sym, ap, ◌∙◌, subst, inl, inr, arith, eq-eqb}
use Rattle.std.proofs.lemmas.Bool.{cases_eq, true≢false}
use Rattle.era_gate.specs.Acts.{count}
use Rattle.era_gate.specs.Parts.{most, only_at}

module _ {A : Type 0} where
  -- a fact holds of a choice where it holds of both, each under its flag
  pub at_cond : (P : A → Type 0) (b : Bool) (t s : A) → (b ≡ true → P t) → (b ≡ false → P s) → P (cond b t s)
  at_cond P true t s f g = f refl
  at_cond P false t s f g = g refl

  -- what both have is what the choice has
  pub cond_keeps : {B : Type 0} (f : A → B) (b : Bool) (t s : A) → f t ≡ f s → f (cond b t s) ≡ f s
  cond_keeps f true t s same = same
  cond_keeps f false t s same = refl

  -- a choice of one thing
  pub cond_same : (b : Bool) (s : A) → cond b s s ≡ s
  cond_same true s = refl
  cond_same false s = refl

-- a number is itself
pub self_eq : (n : ℕ) → (n == n) ≡ true
self_eq n = eq-eqb n n refl

-- what is true isn't false
pub clash : {b : Bool} → b ≡ true → b ≡ false → ⊥
clash on off = true≢false (sym on ∙ off)

-- counts of tests that agree below n
pub count_agrees : (n : ℕ) (f g : ℕ → Bool) → ((d : ℕ) → d < n → f d ≡ g d) → count n f ≡ count n g
count_agrees zero f g same = refl
count_agrees (suc n) f g same = rw (same n (omega arith), count_agrees n f g (λ d lt. same d (omega arith))) refl

-- a count is at most n
pub count_below : (n : ℕ) (f : ℕ → Bool) → count n f ≤ n
count_below zero f = omega arith
count_below (suc n) f =
    let rest = count_below n f in at_cond (λ k. k + count n f ≤ suc n) (f n) 1 0 (λ on. omega arith) (λ off. omega arith)

-- where nobody passes, nobody does
pub count_none : (n : ℕ) (f : ℕ → Bool) → count n f ≡ 0 → (d : ℕ) → d < n → f d ≡ false
count_none zero f none d lt = absurd (omega arith)
count_none (suc n) f none d lt = none_case n f none d lt (f n) refl (count_none n f) where
  none_case : (n : ℕ) (f : ℕ → Bool) → count (suc n) f ≡ 0 → (d : ℕ) → d < suc n → (b : Bool) → f n ≡ b → (count n f ≡ 0 → (d : ℕ) → d < n → f d ≡ false) → f d ≡ false
  none_case n f none d lt true is rest = let one : 1 + count n f ≡ 0 = subst (λ b. cond b 1 0 + count n f ≡ 0) is none in absurd (omega arith)
  none_case n f none d lt false is rest = let zero_left : 0 + count n f ≡ 0 = subst (λ b. cond b 1 0 + count n f ≡ 0) is none in
      elim (cases_eq d n) [
        | inl same ↦ rw same is
        | inr other ↦ rest (omega arith) d (omega arith)
      ]

-- one more passes
pub count_more : (n : ℕ) (f g : ℕ → Bool) (k : ℕ) → k < n → f k ≡ false → g k ≡ true → ((d : ℕ) → d ≢ k → g d ≡ f d) → count n g ≡ count n f + 1
count_more zero f g k lt was is same = absurd (omega arith)
count_more (suc n) f g k lt was is same = elim (cases_eq k n) [
  | inl here ↦
      let rest : count n g ≡ count n f = count_agrees n g f (λ d low. same d (λ e. let p : d ≡ k = e in omega arith)) in
      let f_no : f n ≡ false = subst (λ m. f m ≡ false) here was in
      let g_yes : g n ≡ true = subst (λ m. g m ≡ true) here is in
      rw (f_no, g_yes, rest) (omega arith)
  | inr other ↦
      let rest : count n g ≡ count n f + 1 = count_more n f g k (omega arith) was is same in
      let one : g n ≡ f n = same n (λ e. other (sym e)) in
      rw (one, rest) (omega arith)
]

-- one that passes is counted
pub count_some : (n : ℕ) (f : ℕ → Bool) (k : ℕ) → k < n → f k ≡ true → 0 < count n f
count_some zero f k lt is = absurd (omega arith)
count_some (suc n) f k lt is = elim (cases_eq k n) [
  | inl here ↦ let on : f n ≡ true = subst (λ m. f m ≡ true) here is in rw on (omega arith)
  | inr other ↦ let rest = count_some n f k (omega arith) is in omega arith
]

-- the greater number at an index
pub most_at : (xs ys : List ℕ) (d : ℕ) → slice_index (most xs ys) d ≡ max (slice_index xs d) (slice_index ys d)
most_at [] ys d = omega arith
most_at (x ∷ xs) [] d = omega arith
most_at (x ∷ xs) (y ∷ ys) zero = refl
most_at (x ∷ xs) (y ∷ ys) (suc d) = most_at xs ys d

-- a number at one index alone
pub only_here : (d n : ℕ) → slice_index (only_at d n) d ≡ n
only_here zero n = refl
only_here (suc d) n = only_here d n

pub only_else : (d n k : ℕ) → k ≢ d → slice_index (only_at d n) k ≡ 0
only_else zero n zero other = absurd (other refl)
only_else zero n (suc k) other = refl
only_else (suc d) n zero other = refl
only_else (suc d) n (suc k) other = only_else d n k (λ e. other (ap suc e))
