-- Stripes that are inside, their number, and the numbers that were kept.
use Rattle.std.proofs.Common.{◌≡◌, ℕ, zero, suc, ◌+◌, ◌<◌, ◌≤◌, Bool, true, false, ◌==◌, List, [], ◌∷◌, ◌++◌, length, replicate, refl, ◌∙◌, subst, arith, inl, inr}
use Rattle.std.specs.Prelude.{slice_set}
use Rattle.std.proofs.lemmas.Bool.{cases_lt, eq-eqb, or_left, or_right}
use Rattle.std.proofs.lemmas.Bool.Decides.{eqb_tells}
use Rattle.std.proofs.lemmas.List.{get_or_past, get_or-set_same, get_or-set_other}
use Rattle.era_base.specs.Flags.{has}
use Rattle.era_core.specs.Machine.{count_inside, was_kept}

-- where no stripe is inside, none is counted
pub count-none : (flags : List Bool) → ((stripe : ℕ) → has flags stripe ≡ false) → count_inside flags ≡ 0
count-none [] none = refl
count-none (true ∷ flags) none = absurd (let first : true ≡ false = none zero in cc)
count-none (false ∷ flags) none = let rest = count-none flags (λ stripe. none (suc stripe)) in omega arith

-- and the other way round
pub none-inside : (flags : List Bool) (stripe : ℕ) → count_inside flags ≡ 0 → has flags stripe ≡ false
none-inside [] stripe none = refl
none-inside (true ∷ flags) stripe none = absurd (omega arith)
none-inside (false ∷ flags) zero none = refl
none-inside (false ∷ flags) (suc stripe) none = none-inside flags stripe (omega arith)

-- a stripe that is inside is counted
pub some-inside : (flags : List Bool) (stripe : ℕ) → has flags stripe ≡ true → 1 ≤ count_inside flags
some-inside [] stripe inside = absurd (cc)
some-inside (true ∷ flags) stripe inside = omega arith
some-inside (false ∷ flags) zero inside = absurd (cc)
some-inside (false ∷ flags) (suc stripe) inside = let rest = some-inside flags stripe inside in omega arith

-- no more are counted than there are
pub count-length : (flags : List Bool) → count_inside flags ≤ length flags
count-length [] = omega arith
count-length (true ∷ flags) = let rest = count-length flags in omega arith
count-length (false ∷ flags) = let rest = count-length flags in omega arith

-- none of so many stripes outside is counted
pub count-outside : (count : ℕ) → count_inside (replicate count false) ≡ 0
count-outside zero = refl
count-outside (suc count) = let rest = count-outside count in omega arith

-- a number that was added was kept
pub kept-push : (kept : List ℕ) (number : ℕ) → was_kept (kept ++ number ∷ []) number ≡ true
kept-push [] number = or_left (number == number) false (eq-eqb number number refl)
kept-push (first ∷ kept) number = or_right (first == number) (was_kept (kept ++ number ∷ []) number) (kept-push kept number)

-- one number that was kept
pub kept-one : (number : ℕ) → was_kept (number ∷ []) number ≡ true
kept-one number = kept-push [] number

-- a stripe that is inside is one of them
pub inside-within : (flags : List Bool) (stripe : ℕ) → has flags stripe ≡ true → stripe < length flags
inside-within flags stripe inside = elim (cases_lt stripe (length flags)) [
  | inl within ↦ within
  | inr past ↦ absurd (let none : has flags stripe ≡ false = get_or_past flags stripe false past in cc)
]

-- a stripe that enters is inside
pub entered : (flags : List Bool) (stripe : ℕ) → stripe < length flags → has (slice_set flags stripe true) stripe ≡ true
entered flags stripe within = get_or-set_same flags stripe true false within

-- and those that were stay inside
pub still-inside : (flags : List Bool) (stripe other : ℕ) → has flags other ≡ true → has (slice_set flags stripe true) other ≡ true
still-inside flags stripe other inside = elim (eqb_tells other stripe) [
  | inl same ↦ subst (λ s. has (slice_set flags s true) other ≡ true) same.1 (entered flags other (inside-within flags other inside))
  | inr apart ↦ get_or-set_other flags stripe other true false apart.1 ∙ inside
]

-- a stripe that leaves is outside, as those before it
pub left-behind : (flags : List Bool) (stripe : ℕ) → stripe < length flags → ((other : ℕ) → other < stripe → has flags other ≡ false) → (other : ℕ) → other < stripe + 1 → has (slice_set flags stripe false) other ≡ false
left-behind flags stripe within before other less = elim (eqb_tells other stripe) [
  | inl same ↦ subst (λ s. has (slice_set flags s false) other ≡ false) same.1 (get_or-set_same flags other false false (let e = same.1 in omega arith))
  | inr apart ↦ get_or-set_other flags stripe other false false apart.1 ∙ before other (let e = apart.1 in omega arith)
]
