-- A metadata device is put back, and then the parts.
use Rattle.std.proofs.Common.{◌≡◌, ℕ, zero, suc, ◌+◌, ◌≤◌, inl, inr, true, List, [], ◌∷◌, ◌++◌, Option, refl, sym, ap, ◌∙◌, subst, arith}
use Rattle.std.specs.Prelude.{unwrap_or}
use Rattle.std.proofs.lemmas.Bool.{cases_lt}
use Rattle.era_base.specs.Bay.{Loan, NowReadsAs, SameReadsBut, ended_loan, new_loan}
use Rattle.era_base.specs.declared.disk.Disk.{Ghosts}
use Rattle.era_opening.specs.Loans.{AreOut, EndInOrder, LieInOrder, ReadAsDisks, SameReadsBeside, Taken, lents_of, loans_of, new_loans}
use Rattle.era_opening.proofs.InRow.{SoFar}
use Rattle.era_opening.proofs.Rows.{appended}

-- the rest is out
pub rest-out : {D : Type 0} (disk : Ghosts D) (disks rest : List D) (index : ℕ) (old loans : List (Loan D)) (read reads : List ℕ → ℕ → Option (List ℕ))
    → AreOut disk disks old → SoFar disk disks rest index old loans read reads → AreOut disk rest loans
rest-out disk disks rest index old loans read reads are so =
    let h = so.half are.before are.taken are.out are.back in
    record {
      before = are.before ++ loans_of h.ended;
      taken = h.waiting;
      out = record { loans = h.are ∙ sym (appended are.before (loans_of h.ended) (new_loans (lents_of h.waiting))); same = h.same };
      back = h.back;
    }

joined-loans : {D : Type 0} (xs ys : List (Taken D)) → loans_of (xs ++ ys) ≡ loans_of xs ++ loans_of ys
joined-loans [] ys = refl
joined-loans {D} (x ∷ xs) ys = ap (λ (l : List (Loan D)). ended_loan (new_loan x.lent) x.back ∷ l) (joined-loans xs ys)

-- and where it is ended, all are
pub rest-ended : {D : Type 0} (disk : Ghosts D) (disks rest : List D) (index : ℕ) (old loans new : List (Loan D)) (read reads : List ℕ → ℕ → Option (List ℕ))
    → SoFar disk disks rest index old loans read reads → EndInOrder disk rest loans new → EndInOrder disk disks old new
rest-ended {D} disk disks rest index old loans new read reads so ends before taken out back =
    let h = so.half before taken out back in
    ends (before ++ loans_of h.ended) h.waiting (record { loans = h.are ∙ sym (appended before (loans_of h.ended) (new_loans (lents_of h.waiting))); same = h.same }) h.back
    ∙ appended before (loans_of h.ended) (loans_of h.waiting)
    ∙ ap (λ (l : List (Loan D)). before ++ l) (sym (ap (λ (t : List (Taken D)). loans_of t) h.all ∙ joined-loans h.ended h.waiting))

pub rest-apart : {D : Type 0} (disk : Ghosts D) (d : D) (rest : List D) → LieInOrder disk (d ∷ rest) → LieInOrder disk rest
rest-apart disk d rest order j k one other low at at' = order (suc j) (suc k) one other (omega (arith, low)) at at'

-- what was put back first still reads so
pub first-content : {D : Type 0} (disk : Ghosts D) (d : D) (rest : List D) (reads now : List ℕ → ℕ → Option (List ℕ)) → LieInOrder disk (d ∷ rest)
    → (disk.tells ≡ true → NowReadsAs reads (disk.place d).device (disk.place d).first (disk.sectors d) (disk.history d).now)
    → (disk.tells ≡ true → ReadAsDisks disk rest now) → SameReadsBeside disk rest reads now → disk.tells ≡ true → ReadAsDisks disk (d ∷ rest) now
first-content {D} disk d rest reads now order content behind others tells zero one at =
    let same : d ≡ one = ap (λ (o : Option D). unwrap_or o d) at in
    subst (λ (x : D). NowReadsAs now (disk.place x).device (disk.place x).first (disk.sectors x) (disk.history x).now) same
    (λ sector low.
    others (disk.place d).device ((disk.place d).first + sector) (λ k other there on.
    let apart = (order 0 (suc k) d other (omega arith) refl there on.of).1 in
    let begun = on.begun in
    omega (arith, apart, begun, low))
    ∙ content tells sector low)
first-content disk d rest reads now order content behind others tells (suc k) one at = behind tells k one at

pub first-others : {D : Type 0} (disk : Ghosts D) (d : D) (rest : List D) (read reads now : List ℕ → ℕ → Option (List ℕ))
    → SameReadsBut (disk.place d).device (disk.place d).first (disk.sectors d) read reads → SameReadsBeside disk rest reads now → SameReadsBeside disk (d ∷ rest) read now
first-others disk d rest read reads now first others device sector out =
    let beside : device ≡ (disk.place d).device → (disk.place d).first ≤ sector → (disk.place d).first + disk.sectors d ≤ sector =
    λ is above. elim (cases_lt sector ((disk.place d).first + disk.sectors d)) [
      | inl low ↦ absurd (out 0 d refl (record { of = is; begun = above; within = low }))
      | inr past ↦ past
    ] in
    others device sector (λ k one at. out (suc k) one at) ∙ first device sector beside
