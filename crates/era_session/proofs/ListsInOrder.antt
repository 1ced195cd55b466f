-- Lists whose elements are told by their indices.
use Rattle.std.proofs.Common.{◌≡◌, ◌≢◌, ℕ, zero, suc, ◌+◌, ◌<◌, ◌⊎◌, List, [], ◌∷◌, ◌++◌, length, map, drop, get_or, Option, Some, slice_get, slice_set, refl, sym, ap, ◌∙◌, arith, inl, inr}
use Rattle.std.specs.Prelude.{unwrap_or}
use Rattle.std.proofs.lemmas.List.{drop-drop, get_or-drop}
use Rattle.std.proofs.lemmas.Option.{slice_get_read, slice_get_within}
use Rattle.era_base.specs.Flags.{tabulate}

some-is : {A : Type 0} (x z : A) → ◌≡◌ {A = Option A} (Some x) (Some z) → z ≡ x
some-is {A} x z at = sym (ap (λ (o : Option A). unwrap_or o x) at)

-- what replaces an element stands in its place, and all others stay
pub set-same : {A : Type 0} (xs : List A) (k : ℕ) (y z : A) → slice_get (slice_set xs k y) k ≡ Some z → z ≡ y
set-same {A} [] k y z at = absurd (let low = slice_get_within {A = A} [] k z at in omega (arith, low))
set-same (x ∷ xs) zero y z at = some-is y z at
set-same (x ∷ xs) (suc k) y z at = set-same xs k y z at

pub set-other : {A : Type 0} (xs : List A) (k j : ℕ) (y : A) → j ≢ k → slice_get (slice_set xs k y) j ≡ slice_get xs j
set-other [] k j y not = refl
set-other (x ∷ xs) zero zero y not = absurd (not refl)
set-other (x ∷ xs) zero (suc j) y not = refl
set-other (x ∷ xs) (suc k) zero y not = refl
set-other (x ∷ xs) (suc k) (suc j) y not = set-other xs k j y (λ same. not (omega (arith, same)))

-- an element behind a list
pub push-cases : {A : Type 0} (xs : List A) (x z : A) (j : ℕ) → slice_get (xs ++ x ∷ []) j ≡ Some z → (slice_get xs j ≡ Some z) ⊎ ((j ≡ length xs) × (z ≡ x))
push-cases [] x z zero at = inr (refl, some-is x z at)
push-cases {A} [] x z (suc j) at = absurd (let low = slice_get_within {A = A} [] j z at in omega (arith, low))
push-cases (y ∷ xs) x z zero at = inl at
push-cases (y ∷ xs) x z (suc j) at = elim (push-cases xs x z j at) [
  | inl there ↦ inl there
  | inr last ↦ inr (omega (arith, last.0), last.1)
]

-- the values of a function
pub tabulated : {A : Type 0} (first count k : ℕ) (value : ℕ → A) (z : A) → slice_get (tabulate first count value) k ≡ Some z → z ≡ value (first + k)
tabulated {A} first zero k value z at = absurd (let low = slice_get_within {A = A} [] k z at in omega (arith, low))
tabulated first (suc count) zero value z at = some-is (value first) z at ∙ ap value (omega arith)
tabulated first (suc count) (suc k) value z at = tabulated (first + 1) count k value z at ∙ ap value (omega arith)

pub length-tabulated : {A : Type 0} (first count : ℕ) (value : ℕ → A) → length (tabulate first count value) ≡ count
length-tabulated first zero value = refl
length-tabulated first (suc count) value = ap suc (length-tabulated (first + 1) count value)

-- two lists that come to the same, element by element
pub maps-same : {A B C : Type 0} (f : A → C) (g : B → C) (xs : List A) (ys : List B) → length xs ≡ length ys
    → ((k : ℕ) (x : A) (y : B) → slice_get xs k ≡ Some x → slice_get ys k ≡ Some y → f x ≡ g y) → map f xs ≡ map g ys
maps-same f g [] [] count same = refl
maps-same f g [] (y ∷ ys) count same = absurd (omega (arith, count))
maps-same f g (x ∷ xs) [] count same = absurd (omega (arith, count))
maps-same {A} {B} {C} f g (x ∷ xs) (y ∷ ys) count same =
    ap (λ (z : C). z ∷ map f xs) (same 0 x y refl refl) ∙ ap (λ (zs : List C). g y ∷ zs) (maps-same f g xs ys (omega (arith, count)) (λ k. same (suc k)))

-- an element of a list that a function made
pub mapped : {A B : Type 0} (f : A → B) (xs : List A) (k : ℕ) (z : B) → slice_get (map f xs) k ≡ Some z → (x : A) × (slice_get xs k ≡ Some x) × (z ≡ f x)
mapped {A} {B} f [] k z at = absurd (let low = slice_get_within {A = B} [] k z at in omega (arith, low))
mapped f (x ∷ xs) zero z at = (x, refl, some-is (f x) z at)
mapped f (x ∷ xs) (suc k) z at = mapped f xs k z at

pub mapped-at : {A B : Type 0} (f : A → B) (xs : List A) (k : ℕ) (x : A) → slice_get xs k ≡ Some x → slice_get (map f xs) k ≡ Some (f x)
mapped-at {A} f [] k x at = absurd (let low = slice_get_within {A = A} [] k x at in omega (arith, low))
mapped-at {A} {B} f (y ∷ xs) zero x at = ap (λ (z : A). Some (f z)) (sym (some-is y x at))
mapped-at f (y ∷ xs) (suc k) x at = mapped-at f xs k x at

-- an element that is there
pub is-there : {A : Type 0} (xs : List A) (k : ℕ) → k < length xs → (x : A) × (slice_get xs k ≡ Some x)
is-there [] k low = absurd (omega (arith, low))
is-there (x ∷ xs) zero low = (x, refl)
is-there (x ∷ xs) (suc k) low = is-there xs k (omega (arith, low))

-- the first of those that are left, where so many were taken
pub taken : {A : Type 0} (xs rest : List A) (k : ℕ) (x : A) → k < length xs → rest ≡ drop k xs → x ≡ get_or rest 0 x → slice_get xs k ≡ Some x
taken {A} xs rest k x low is at =
    let here : k + 0 ≡ k = omega arith in
    slice_get_read xs (length xs) k x refl low (at ∙ ap (λ (l : List A). get_or l 0 x) is ∙ get_or-drop k xs 0 x ∙ ap (λ (n : ℕ). get_or xs n x) here)

pub left-behind : {A : Type 0} (xs rest : List A) (k : ℕ) → rest ≡ drop k xs → drop 1 rest ≡ drop (k + 1) xs
left-behind xs rest k is = ap (drop 1) is ∙ drop-drop 1 k xs
