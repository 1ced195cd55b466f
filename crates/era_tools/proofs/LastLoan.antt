-- The loan that began last, and what ends it.
use Rattle.std.proofs.Common.{◌≡◌, ℕ, ◌<◌, ◌≤◌, inl, inr, List, [], ◌∷◌, ◌++◌, length, refl, ap, sym, ◌∙◌, subst, length-append, arith}
use Rattle.std.specs.Prelude.{Some, slice_get, slice_set}
use Rattle.std.proofs.Math.Seq.{set-append_seam}
use Rattle.std.proofs.lemmas.Bool.{cases_order}
use Rattle.std.proofs.lemmas.Option.{slice_get_within}
use Rattle.era_base.specs.Bay.{Loan, new_loan, ended_loan, IsOut, EndsLoan}
use Rattle.era_base.specs.Disk.{Place}

-- what stands behind a list
pub slice_get-last : {A : Type 0} (xs : List A) (x : A) → slice_get (xs ++ x ∷ []) (length xs) ≡ Some x
slice_get-last [] x = refl
slice_get-last (y ∷ ys) x = slice_get-last ys x

-- nothing stands behind it
pub slice_get-from_last : {A : Type 0} (xs : List A) (x : A) (index : ℕ) (found : A) → length xs ≤ index → slice_get (xs ++ x ∷ []) index ≡ Some found → found ≡ x
slice_get-from_last xs x index found from is =
    let within : index < length (xs ++ x ∷ []) = slice_get_within (xs ++ x ∷ []) index found is in
    let here : index ≡ length xs = omega (arith, length-append xs (x ∷ [])) in
    let e : slice_get (xs ++ x ∷ []) (length xs) ≡ Some found = subst (λ (n : ℕ). slice_get (xs ++ x ∷ []) n ≡ Some found) here is in
    let f = slice_get-last xs x in cc

-- a loan that began last is out
pub is_out-last : {D : Type 0} (place_of : D → Place) (sectors_of : D → ℕ) (before : List (Loan D)) (lent disk : D)
    → place_of disk ≡ place_of lent → sectors_of disk ≡ sectors_of lent
    → IsOut place_of sectors_of (before ++ new_loan lent ∷ []) (place_of disk) (sectors_of disk) (length before)
is_out-last place_of sectors_of before lent disk same_place same_size = record {
  loan = new_loan lent;
  found = slice_get-last before (new_loan lent);
  out = refl;
  same_place = sym same_place;
  same_size = sym same_size;
}

-- and it is what a disk of its place ends
pub ends_last : {D : Type 0} (place_of : D → Place) (sectors_of : D → ℕ) (before new : List (Loan D)) (lent disk : D)
    → place_of disk ≡ place_of lent → sectors_of disk ≡ sectors_of lent
    → EndsLoan place_of sectors_of disk (before ++ new_loan lent ∷ []) new
    → new ≡ before ++ ended_loan (new_loan lent) disk ∷ []
ends_last {D} place_of sectors_of before new lent disk same_place same_size ends =
    let last : Loan D = new_loan lent in
    let within : ends.index < length (before ++ last ∷ []) = slice_get_within (before ++ last ∷ []) ends.index ends.was.loan ends.was.found in
    let here : ends.index ≡ length before =
    elim (cases_order ends.index (length before)) [
      | inl same ↦ same
      | inr other ↦ elim other [
        | inl less ↦ absurd (ends.last (length before) less (is_out-last place_of sectors_of before lent disk same_place same_size))
        | inr more ↦ absurd (omega (arith, length-append before (last ∷ [])))
      ]
    ] in
    let from : length before ≤ ends.index = omega arith in
    let loan : ends.was.loan ≡ last = slice_get-from_last before last ends.index ends.was.loan from ends.was.found in
    ends.loans
    ∙ ap (λ index. slice_set (before ++ last ∷ []) index (ended_loan ends.was.loan disk)) here
    ∙ ap (λ loan. slice_set (before ++ last ∷ []) (length before) (ended_loan loan disk)) loan
    ∙ set-append_seam before last [] (ended_loan last disk)
