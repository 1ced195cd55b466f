-- Elements of lists that stand behind one another.
use Rattle.std.proofs.Common.{◌≡◌, ℕ, zero, suc, ◌<◌, List, [], ◌∷◌, ◌++◌, length, map, get_or, drop, Some, slice_get, refl, sym, ap, ◌∙◌, arith}
use Rattle.std.proofs.lemmas.Option.{slice_get_within}

pub get-here : {A : Type 0} (before : List A) (x : A) (rest : List A) → slice_get (before ++ x ∷ rest) (length before) ≡ Some x
get-here [] x rest = refl
get-here (y ∷ before) x rest = get-here before x rest

pub get-left : {A : Type 0} (xs ys : List A) (k : ℕ) (z : A) → slice_get xs k ≡ Some z → slice_get (xs ++ ys) k ≡ Some z
get-left {A} [] ys k z at = absurd (let low = slice_get_within {A = A} [] k z at in omega (arith, low))
get-left (x ∷ xs) ys zero z at = at
get-left (x ∷ xs) ys (suc k) z at = get-left xs ys k z at

pub get-behind : {A : Type 0} (before : List A) (x : A) (rest : List A) (index : ℕ) (found : A) → length before < index → slice_get (before ++ x ∷ rest) index ≡ Some found
    → (k : ℕ) × (slice_get rest k ≡ Some found)
get-behind [] x rest zero found low at = absurd (omega (arith, low))
get-behind [] x rest (suc k) found low at = (k, at)
get-behind (y ∷ before) x rest zero found low at = absurd (omega (arith, low))
get-behind (y ∷ before) x rest (suc index) found low at = get-behind before x rest index found (omega (arith, low)) at

pub first-of : {A : Type 0} (rest behind : List A) (x : A) → 0 < length rest → x ≡ get_or rest 0 x → behind ≡ drop 1 rest → rest ≡ x ∷ behind
first-of [] behind x some at is = absurd (omega (arith, some))
first-of {A} (y ∷ rest) behind x some at is = ap (λ (z : A). z ∷ rest) (sym at) ∙ ap (λ (zs : List A). x ∷ zs) (sym is)

pub appended : {A : Type 0} (xs ys zs : List A) → xs ++ ys ++ zs ≡ xs ++ (ys ++ zs)
appended [] ys zs = refl
appended {A} (x ∷ xs) ys zs = ap (λ (l : List A). x ∷ l) (appended xs ys zs)

pub moved : {A : Type 0} (xs : List A) (x : A) (ys : List A) → xs ++ x ∷ [] ++ ys ≡ xs ++ x ∷ ys
moved [] x ys = refl
moved {A} (z ∷ xs) x ys = ap (λ (l : List A). z ∷ l) (moved xs x ys)

pub moved-map : {A B : Type 0} (f : A → B) (xs : List A) (x : A) (ys : List B) → map f (xs ++ x ∷ []) ++ ys ≡ map f xs ++ f x ∷ ys
moved-map f [] x ys = refl
moved-map {A} {B} f (z ∷ xs) x ys = ap (λ (l : List B). f z ∷ l) (moved-map f xs x ys)
