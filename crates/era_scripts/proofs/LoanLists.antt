-- Loans that are out among others, and what the end of one leaves of them.
use Rattle.std.proofs.Common.{◌≡◌, ℕ, zero, suc, ◌<◌, ◌≤◌, List, [], ◌∷◌, ◌++◌, length, slice_get, slice_set, Option, Some, None, inl, inr, arith, refl, sym, ◌∙◌, ap, subst}
use Rattle.std.proofs.lemmas.Option.{none-some, same_Some, slice_get_within}
use Rattle.std.proofs.lemmas.Bool.{cases_lt}
use Rattle.era_base.specs.Disk.{Place}
use Rattle.era_base.specs.Bay.{Loan, new_loan, ended_loan, IsOut, EndsLoan}

-- The last element of a list.
last-of : {A : Type 0} (xs : List A) (x : A) → slice_get (xs ++ x ∷ []) (length xs) ≡ Some x
last-of [] x = refl
last-of (y ∷ ys) x = last-of ys x

-- An element stays where another one stands behind the list.
kept-front : {A : Type 0} (xs : List A) (x : A) (i : ℕ) (y : A) → slice_get xs i ≡ Some y → slice_get (xs ++ x ∷ []) i ≡ Some y
kept-front [] x i y at = absurd (none-some y at)
kept-front (z ∷ zs) x zero y at = at
kept-front (z ∷ zs) x (suc i) y at = kept-front zs x i y at

-- An element stays where one behind it is replaced.
set-behind : {A : Type 0} (xs : List A) (i j : ℕ) (v : A) → j < i → slice_get (slice_set xs i v) j ≡ slice_get xs j
set-behind [] i j v below = refl
set-behind (x ∷ xs) zero j v below = absurd (omega arith)
set-behind (x ∷ xs) (suc i) zero v below = refl
set-behind (x ∷ xs) (suc i) (suc j) v below = set-behind xs i j v (omega arith)

-- A disk that was lent behind other loans, all of which have stayed since, is out.
pub is-out : {D : Type 0} (place_of : D → Place) (sectors_of : D → ℕ) (old mid new : List (Loan D)) (lent disk : D)
    → mid ≡ old ++ new_loan lent ∷ [] → ((i : ℕ) (loan : Loan D) → slice_get mid i ≡ Some loan → slice_get new i ≡ Some loan)
    → place_of disk ≡ place_of lent → sectors_of disk ≡ sectors_of lent → IsOut place_of sectors_of new (place_of disk) (sectors_of disk) (length old)
is-out place_of sectors_of old mid new lent disk is stay place size = record {
  loan = new_loan lent;
  found = stay (length old) (new_loan lent) (ap (λ loans. slice_get loans (length old)) is ∙ last-of old (new_loan lent));
  out = refl;
  same_place = sym place;
  same_size = sym size;
}

-- Once it is put back, the other loans are as they were.
pub stay-through : {D : Type 0} (place_of : D → Place) (sectors_of : D → ℕ) (old mid new after : List (Loan D)) (lent disk : D)
    → mid ≡ old ++ new_loan lent ∷ [] → ((i : ℕ) (loan : Loan D) → slice_get mid i ≡ Some loan → slice_get new i ≡ Some loan)
    → place_of disk ≡ place_of lent → sectors_of disk ≡ sectors_of lent → EndsLoan place_of sectors_of disk new after
    → (i : ℕ) (loan : Loan D) → slice_get old i ≡ Some loan → slice_get after i ≡ Some loan
stay-through place_of sectors_of old mid new after lent disk is stay place size ends i loan at =
    elim (cases_lt ends.index (length old)) [
      | inl below ↦ absurd (ends.last (length old) below (is-out place_of sectors_of old mid new lent disk is stay place size))
      | inr above ↦
          let within = slice_get_within old i loan at in
          ap (λ loans. slice_get loans i) ends.loans
          ∙ set-behind new ends.index i (ended_loan ends.was.loan disk) (omega arith)
          ∙ stay i loan (ap (λ loans. slice_get loans i) is ∙ kept-front old (new_loan lent) i loan at)
    ]

-- The only element is replaced.
set-only : {A : Type 0} (x v : A) (i : ℕ) → i < 1 → slice_set (x ∷ []) i v ≡ v ∷ []
set-only x v zero below = refl
set-only x v (suc i) below = absurd (omega arith)

-- The only element of a list.
only-one : {A : Type 0} (x y : A) (i : ℕ) → slice_get (x ∷ []) i ≡ Some y → x ≡ y
only-one x y zero at = same_Some x y at
only-one x y (suc i) at = absurd (none-some y at)

-- Once the only loan has ended, none is out.
pub none-out : {D : Type 0} (place_of : D → Place) (sectors_of : D → ℕ) (disk : D) (only : Loan D) (after : List (Loan D))
    → EndsLoan place_of sectors_of disk (only ∷ []) after → (i : ℕ) (loan : Loan D) → slice_get after i ≡ Some loan → loan.back ≡ None → ⊥
none-out place_of sectors_of disk only after ends i loan at out =
    let ended = ended_loan ends.was.loan disk in
    let one = ends.loans ∙ set-only only ended ends.index (slice_get_within (only ∷ []) ends.index ends.was.loan ends.was.found) in
    let same = only-one ended loan i (sym (ap (λ loans. slice_get loans i) one) ∙ at) in
    none-some disk (sym out ∙ sym (ap (λ l. l.back) same))
