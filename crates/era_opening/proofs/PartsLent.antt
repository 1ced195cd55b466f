-- Parts that are lent one after another.
use Rattle.std.proofs.Common.{◌≡◌, ℕ, ◌+◌, inl, inr, List, [], ◌∷◌, ◌++◌, length, Option, refl, sym, ap, ◌∙◌, subst, arith}
use Rattle.std.proofs.lemmas.Option.{slice_get_within}
use Rattle.era_base.specs.Bay.{Loan, SameReads, new_loan}
use Rattle.era_base.specs.declared.disk.Disk.{Ghosts}
use Rattle.era_base.specs.declared.geometry.Geometry.{Geometry}
use Rattle.era_opening.specs.Lending.{HasLent, HasLentParts, IsPartLent}
use Rattle.era_opening.specs.Loans.{new_loans}
use Rattle.era_opening.specs.Splits.{part_first}
use Rattle.era_opening.proofs.Rows.{appended}
use Rattle.era_session.proofs.ListsInOrder.{push-cases}
use Rattle.era_tools.specs.Around.{BayAround, LeavesBay}

-- A bay around two calls in a row.
pub record InTurn {D : Type 0} (one two both : BayAround D) : Type 0 where
  pub read : both.reads ≡ one.reads
  pub mid : two.reads ≡ one.reads'
  pub reads : both.reads' ≡ two.reads'
  pub loans : both.loans ≡ one.loans
  pub loans_mid : two.loans ≡ one.loans'
  pub loans' : both.loans' ≡ two.loans'

joined-none : {D : Type 0} (xs : List (Loan D)) → xs ++ [] ≡ xs
joined-none [] = refl
joined-none {D} (x ∷ xs) = ap (λ (l : List (Loan D)). x ∷ l) (joined-none xs)

-- none so far
pub lent-none : {D : Type 0} (disk : Ghosts D) (bay : BayAround D) (origin : List ℕ) (geometry : Geometry) (each : ℕ) → LeavesBay bay → HasLentParts disk bay origin geometry each []
lent-none {D} disk bay origin geometry each left = record {
  each_lent = λ k part at. absurd (let low = slice_get_within {A = D} [] k part at in omega (arith, low));
  lent = record { loans = left.loans ∙ sym (joined-none bay.loans); reads = left.reads };
}

-- one more
pub lent-next : {D : Type 0} (disk : Ghosts D) (one two both : BayAround D) (origin : List ℕ) (geometry : Geometry) (each : ℕ) (parts : List D) (part : D) → InTurn one two both
    → HasLentParts disk one origin geometry each parts → IsPartLent disk two.reads origin geometry each (length parts) part → HasLent two (part ∷ [])
    → HasLentParts disk both origin geometry each (parts ++ part ∷ [])
lent-next {D} disk one two both origin geometry each parts part turn has is lent =
    let reads : SameReads one.reads one.reads' = has.lent.reads in
    let more : SameReads two.reads two.reads' = lent.reads in
    let here : IsPartLent disk one.reads origin geometry each (length parts) part = record {
      place = is.place;
      size = is.size;
      content = λ tells sector low bytes told. is.content tells sector low bytes (let at = part_first geometry each (length parts) + sector in ap (λ (r : List ℕ → ℕ → Option (List ℕ)). r origin at) turn.mid ∙ reads origin at ∙ told);
    } in
    record {
      each_lent = λ k x at. rw turn.read (elim (push-cases parts part x k at) [
        | inl there ↦ has.each_lent k x there
        | inr last ↦ subst (λ (n : ℕ). IsPartLent disk one.reads origin geometry each n x) (sym last.0) (subst (λ (p : D). IsPartLent disk one.reads origin geometry each (length parts) p) (sym last.1) here)
      ]);
      lent = record {
        loans = turn.loans' ∙ lent.loans ∙ ap (λ (l : List (Loan D)). l ++ new_loan part ∷ []) (turn.loans_mid ∙ has.lent.loans ∙ ap (λ (l : List (Loan D)). l ++ new_loans parts) (sym turn.loans))
            ∙ appended both.loans (new_loans parts) (new_loan part ∷ [])
            ∙ ap (λ (l : List (Loan D)). both.loans ++ l) (sym (ends (new_loan part ∷ []) parts part));
        reads = λ device sector. ap (λ (r : List ℕ → ℕ → Option (List ℕ)). r device sector) turn.reads ∙ more device sector ∙ ap (λ (r : List ℕ → ℕ → Option (List ℕ)). r device sector) turn.mid ∙ reads device sector ∙ ap (λ (r : List ℕ → ℕ → Option (List ℕ)). r device sector) (sym turn.read);
      };
    }
  where
    ends : (none : List (Loan D)) (xs : List D) (x : D) → new_loans (xs ++ x ∷ []) ≡ new_loans xs ++ new_loan x ∷ []
    ends none [] x = refl
    ends none (y ∷ xs) x = ap (λ (l : List (Loan D)). new_loan y ∷ l) (ends none xs x)
