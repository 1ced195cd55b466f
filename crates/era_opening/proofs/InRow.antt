-- Disks that were lent one after another are put back in that order.
use Rattle.std.proofs.Common.{◌≡◌, ℕ, drop, get_or, suc, ◌+◌, ◌<◌, ◌≤◌, inl, inr, true, List, [], ◌∷◌, ◌++◌, length, Option, Some, slice_get, slice_set, refl, sym, ap, ◌∙◌, subst, length-append, arith}
use Rattle.std.proofs.Math.Seq.{set-append_seam}
use Rattle.std.proofs.lemmas.Bool.{cases_lt, cases_order}
use Rattle.std.proofs.lemmas.Option.{slice_get_within}
use Rattle.era_base.specs.Bay.{EndsLoan, IsOut, Loan, NowReadsAs, SameReadsBut, ended_loan, new_loan}
use Rattle.era_base.specs.Calls.{SameDisk}
use Rattle.era_base.specs.declared.disk.Disk.{Ghosts}
use Rattle.era_opening.specs.Loans.{AreLastOut, AreOut, EndInOrder, LieInOrder, ReadAsDisks, SameReadsBeside, Taken, backs_of, lents_of, loans_of, new_loans}
use Rattle.era_opening.proofs.Rows.{appended, get-behind, get-here, get-left, moved, moved-map}
use Rattle.era_session.proofs.ListsInOrder.{mapped, mapped-at, push-cases}

-- the first of the loans that are out
pub is-out : {D : Type 0} (disk : Ghosts D) (before rest : List (Loan D)) (lent back : D) → SameDisk disk lent back
    → IsOut disk.place disk.sectors (before ++ new_loan lent ∷ rest) (disk.place back) (disk.sectors back) (length before)
is-out disk before rest lent back same = record {
  loan = new_loan lent;
  found = get-here before (new_loan lent) rest;
  out = refl;
  same_place = sym same.place;
  same_size = sym same.size;
}

-- and it is the one that the disk ends, where those behind it lie elsewhere
pub ends-first : {D : Type 0} (disk : Ghosts D) (before new : List (Loan D)) (lent back : D) (rest : List D) → SameDisk disk lent back
    → ((k : ℕ) (other : D) → slice_get rest k ≡ Some other → ¬ (disk.place other ≡ disk.place back))
    → EndsLoan disk.place disk.sectors back (before ++ new_loan lent ∷ new_loans rest) new
    → new ≡ before ++ ended_loan (new_loan lent) back ∷ new_loans rest
ends-first {D} disk before new lent back rest same elsewhere ends =
    let out : Loan D = new_loan lent in
    let behind : List (Loan D) = new_loans rest in
    let here : ends.index ≡ length before =
    elim (cases_order ends.index (length before)) [
      | inl is ↦ is
      | inr other ↦ elim other [
        | inl less ↦ absurd (ends.last (length before) less (is-out disk before behind lent back same))
        | inr more ↦
            let there = get-behind before out behind ends.index ends.was.loan more ends.was.found in
            let one = mapped (λ (d : D). new_loan d) rest there.0 ends.was.loan there.1 in
            let place : disk.place one.0 ≡ disk.place back = sym (ap (λ (l : Loan D). disk.place l.lent) one.2) ∙ ends.was.same_place in
            absurd (elsewhere there.0 one.0 one.1 place)
      ]
    ] in
    let found : slice_get (before ++ out ∷ behind) (length before) ≡ Some ends.was.loan =
    subst (λ (n : ℕ). slice_get (before ++ out ∷ behind) n ≡ Some ends.was.loan) here ends.was.found in
    let loan : ends.was.loan ≡ out = (let f = get-here before out behind in cc) in
    ends.loans
    ∙ ap (λ index. slice_set (before ++ out ∷ behind) index (ended_loan ends.was.loan back)) here
    ∙ ap (λ loan. slice_set (before ++ out ∷ behind) (length before) (ended_loan loan back)) loan
    ∙ set-append_seam before out behind (ended_loan out back)

-- The loans where some disks were put back and the rest are out.
pub record Halfway {D : Type 0} (disk : Ghosts D) (before : List (Loan D)) (taken : List (Taken D)) (rest : List D) (loans : List (Loan D)) : Type 0 where
  pub ended : List (Taken D)
  pub waiting : List (Taken D)
  pub all : taken ≡ ended ++ waiting
  pub back : backs_of waiting ≡ rest
  pub same : (k : ℕ) (one : Taken D) → slice_get waiting k ≡ Some one → SameDisk disk one.lent one.back
  pub are : loans ≡ before ++ (loans_of ended ++ new_loans (lents_of waiting))

-- What was put back so far, and what is left.
pub record SoFar {D : Type 0} (disk : Ghosts D) (disks rest : List D) (index : ℕ) (old loans : List (Loan D)) (read reads : List ℕ → ℕ → Option (List ℕ)) : Type 0 where
  pub done : List D
  pub all : disks ≡ done ++ rest
  pub count : length done ≡ index
  pub order : LieInOrder disk rest
  pub half : (before : List (Loan D)) (taken : List (Taken D)) → AreLastOut disk before taken old → backs_of taken ≡ disks → Halfway disk before taken rest loans
  pub content : disk.tells ≡ true → ReadAsDisks disk done reads
  pub others : SameReadsBeside disk done read reads

pub so_far-none : {D : Type 0} (disk : Ghosts D) (disks : List D) (loans : List (Loan D)) (reads : List ℕ → ℕ → Option (List ℕ)) → LieInOrder disk disks
    → SoFar disk disks disks 0 loans loans reads reads
so_far-none {D} disk disks loans reads order = record {
  done = [];
  all = refl;
  count = refl;
  order = order;
  half = λ before taken out back. record { ended = []; waiting = taken; all = refl; back = back; same = out.same; are = out.loans };
  content = λ tells k one at. absurd (let low = slice_get_within {A = D} [] k one at in omega (arith, low));
  others = λ device sector out. refl;
}

half-next : {D : Type 0} (disk : Ghosts D) (before : List (Loan D)) (taken : List (Taken D)) (d : D) (rest : List D) (loans new : List (Loan D)) (ended waiting : List (Taken D))
    → taken ≡ ended ++ waiting → backs_of waiting ≡ d ∷ rest → ((k : ℕ) (one : Taken D) → slice_get waiting k ≡ Some one → SameDisk disk one.lent one.back)
    → loans ≡ before ++ (loans_of ended ++ new_loans (lents_of waiting)) → LieInOrder disk (d ∷ rest) → EndsLoan disk.place disk.sectors d loans new
    → Halfway disk before taken rest new
half-next {D} disk before taken d rest loans new ended [] all back same are order ends = absurd (let e = ap (length {A = D}) back in omega (arith, e))
half-next {D} disk before taken d rest loans new ended (w ∷ ws) all back same are order ends =
    let first : w.back ≡ d = ap (λ (l : List D). get_or l 0 d) back in
    let tail : backs_of ws ≡ rest = ap (λ (l : List D). drop 1 l) back in
    let from : loans ≡ before ++ loans_of ended ++ new_loan w.lent ∷ new_loans (lents_of ws) = are ∙ sym (appended before (loans_of ended) (new_loans (lents_of (w ∷ ws)))) in
    let ends' : EndsLoan disk.place disk.sectors w.back (before ++ loans_of ended ++ new_loan w.lent ∷ new_loans (lents_of ws)) new =
    subst (λ (l : List (Loan D)). EndsLoan disk.place disk.sectors w.back l new) from (subst (λ (one : D). EndsLoan disk.place disk.sectors one loans new) (sym first) ends) in
    let elsewhere : (k : ℕ) (other : D) → slice_get (lents_of ws) k ≡ Some other → ¬ (disk.place other ≡ disk.place w.back) = λ k other at is.
    let one = mapped (λ (t : Taken D). t.lent) ws k other at in
    let there : slice_get rest k ≡ Some one.0.back = subst (λ (l : List D). slice_get l k ≡ Some one.0.back) tail (mapped-at (λ (t : Taken D). t.back) ws k one.0 one.1) in
    let place : disk.place one.0.back ≡ disk.place d = (same (suc k) one.0 one.1).place ∙ ap disk.place (sym one.2) ∙ is ∙ ap disk.place first in
    let less = (order 0 (suc k) d one.0.back (omega arith) refl there (sym (ap (λ p. p.device) place))).0 in
    let firsts : (disk.place one.0.back).first ≡ (disk.place d).first = ap (λ p. p.first) place in
    omega (arith, less, firsts) in
    record {
      ended = ended ++ w ∷ [];
      waiting = ws;
      all = all ∙ sym (moved ended w ws);
      back = tail;
      same = λ k one at. same (suc k) one at;
      are = ends-first disk (before ++ loans_of ended) new w.lent w.back (lents_of ws) (same 0 w refl) elsewhere ends'
          ∙ appended before (loans_of ended) (ended_loan (new_loan w.lent) w.back ∷ new_loans (lents_of ws))
          ∙ ap (λ (l : List (Loan D)). before ++ l) (sym (moved-map (λ (one : Taken D). ended_loan (new_loan one.lent) one.back) ended w (new_loans (lents_of ws))));
    }

-- one more disk was put back
pub so_far-next : {D : Type 0} (disk : Ghosts D) (disks : List D) (d : D) (rest : List D) (index : ℕ) (old loans new : List (Loan D)) (read reads now : List ℕ → ℕ → Option (List ℕ))
    → LieInOrder disk disks → SoFar disk disks (d ∷ rest) index old loans read reads → EndsLoan disk.place disk.sectors d loans new
    → (disk.tells ≡ true → NowReadsAs now (disk.place d).device (disk.place d).first (disk.sectors d) (disk.history d).now)
    → SameReadsBut (disk.place d).device (disk.place d).first (disk.sectors d) reads now
    → SoFar disk disks rest (index + 1) old new read now
so_far-next {D} disk disks d rest index old loans new read reads now whole so ends content others =
    let done = so.done in
    let last : slice_get disks (length done) ≡ Some d = subst (λ (l : List D). slice_get l (length done) ≡ Some d) (sym so.all) (get-here done d rest) in
    record {
      done = done ++ d ∷ [];
      all = so.all ∙ sym (moved done d rest);
      count = length-append done (d ∷ []) ∙ ap (λ (n : ℕ). n + 1) so.count;
      order = λ j k one other low at at'. so.order (suc j) (suc k) one other (omega (arith, low)) at at';
      half = λ before taken out back.
          let h = so.half before taken out back in
          half-next disk before taken d rest loans new h.ended h.waiting h.all h.back h.same h.are so.order ends;
      content = λ tells k one at. elim (push-cases done d one k at) [
        | inl there ↦ λ sector low.
            let within : k < length done = slice_get_within done k one there in
            let before : slice_get disks k ≡ Some one = subst (λ (l : List D). slice_get l k ≡ Some one) (sym so.all) (get-left done (d ∷ rest) k one there) in
            let beside : (disk.place one).device ≡ (disk.place d).device → (disk.place d).first ≤ (disk.place one).first + sector → (disk.place d).first + disk.sectors d ≤ (disk.place one).first + sector =
            λ is above. absurd (let apart = (whole k (length done) one d within before last is).1 in omega (arith, apart, above, low)) in
            others (disk.place one).device ((disk.place one).first + sector) beside ∙ so.content tells k one there sector low
        | inr here ↦ subst (λ (x : D). NowReadsAs now (disk.place x).device (disk.place x).first (disk.sectors x) (disk.history x).now) (sym here.1) (content tells)
      ];
      others = λ device sector out.
          let beside : device ≡ (disk.place d).device → (disk.place d).first ≤ sector → (disk.place d).first + disk.sectors d ≤ sector =
          λ is above. elim (cases_lt sector ((disk.place d).first + disk.sectors d)) [
            | inl low ↦ absurd (out (length done) d (get-here done d []) (record { of = is; begun = above; within = low }))
            | inr past ↦ past
          ] in
          others device sector beside ∙ so.others device sector (λ k one at. out k one (get-left done (d ∷ []) k one at));
    }

-- one of the disks that are left is out
pub next-out : {D : Type 0} (disk : Ghosts D) (disks : List D) (d : D) (rest : List D) (index : ℕ) (old loans : List (Loan D)) (read reads : List ℕ → ℕ → Option (List ℕ))
    → AreOut disk disks old → SoFar disk disks (d ∷ rest) index old loans read reads → (at : ℕ) × IsOut disk.place disk.sectors loans (disk.place d) (disk.sectors d) at
next-out {D} disk disks d rest index old loans read reads are so =
    let h = so.half are.before are.taken are.out are.back in
    go h.ended h.waiting h.back h.same h.are
  where
    go : (ended waiting : List (Taken D)) → backs_of waiting ≡ d ∷ rest → ((k : ℕ) (one : Taken D) → slice_get waiting k ≡ Some one → SameDisk disk one.lent one.back)
        → loans ≡ are.before ++ (loans_of ended ++ new_loans (lents_of waiting)) → (at : ℕ) × IsOut disk.place disk.sectors loans (disk.place d) (disk.sectors d) at
    go ended [] back same is = absurd (let e = ap (length {A = D}) back in omega (arith, e))
    go ended (w ∷ ws) back same is =
        let first : w.back ≡ d = ap (λ (l : List D). get_or l 0 d) back in
        let from : loans ≡ are.before ++ loans_of ended ++ new_loan w.lent ∷ new_loans (lents_of ws) = is ∙ sym (appended are.before (loans_of ended) (new_loans (lents_of (w ∷ ws)))) in
        let front : List (Loan D) = are.before ++ loans_of ended in (
          length front,
          subst (λ (l : List (Loan D)). IsOut disk.place disk.sectors l (disk.place d) (disk.sectors d) (length front)) (sym from)
              (subst (λ (x : D). IsOut disk.place disk.sectors (front ++ new_loan w.lent ∷ new_loans (lents_of ws)) (disk.place x) (disk.sectors x) (length front)) first
              (is-out disk front (new_loans (lents_of ws)) w.lent w.back (same 0 w refl))),
        )

-- all were put back
pub all-ended : {D : Type 0} (disk : Ghosts D) (disks rest : List D) (index : ℕ) (old loans : List (Loan D)) (read reads : List ℕ → ℕ → Option (List ℕ))
    → length disks ≤ index → SoFar disk disks rest index old loans read reads → EndInOrder disk disks old loans
all-ended {D} disk disks rest index old loans read reads end so before taken out back =
    let h = so.half before taken out back in
    go h.ended h.waiting h.all h.back h.are
  where
    none : (xs : List D) → disks ≡ so.done ++ xs → xs ≡ []
    none [] is = refl
    none (x ∷ xs) is = absurd (let e = ap (length {A = D}) is ∙ length-append so.done (x ∷ xs) in let c = so.count in omega (arith, e, c, end))

    go : (ended waiting : List (Taken D)) → taken ≡ ended ++ waiting → backs_of waiting ≡ rest → loans ≡ before ++ (loans_of ended ++ new_loans (lents_of waiting)) → loans ≡ before ++ loans_of taken
    go ended [] all back' are = are ∙ ap (λ (l : List (Loan D)). before ++ l) (sym (ap (λ (t : List (Taken D)). loans_of t) all ∙ moved-end ended))
      where
        moved-end : (xs : List (Taken D)) → loans_of (xs ++ []) ≡ loans_of xs ++ []
        moved-end [] = refl
        moved-end (x ∷ xs) = ap (λ (l : List (Loan D)). ended_loan (new_loan x.lent) x.back ∷ l) (moved-end xs)
    go ended (w ∷ ws) all back' are = absurd (let e = ap (length {A = D}) (back' ∙ none rest so.all) in omega (arith, e))

pub all-content : {D : Type 0} (disk : Ghosts D) (disks rest : List D) (index : ℕ) (old loans : List (Loan D)) (read reads : List ℕ → ℕ → Option (List ℕ))
    → length disks ≤ index → SoFar disk disks rest index old loans read reads → (disk.tells ≡ true → ReadAsDisks disk disks reads) × SameReadsBeside disk disks read reads
all-content {D} disk disks rest index old loans read reads end so = (
  λ tells k one at. so.content tells k one (subst (λ (l : List D). slice_get l k ≡ Some one) same at),
  λ device sector out. so.others device sector (λ k one at. out k one (subst (λ (l : List D). slice_get l k ≡ Some one) (sym same) at)),
)
  where
    alone : (xs : List D) → disks ≡ so.done ++ xs → disks ≡ so.done
    alone [] is = is ∙ nothing so.done
      where
        nothing : (ys : List D) → ys ++ [] ≡ ys
        nothing [] = refl
        nothing (y ∷ ys) = ap (λ (l : List D). y ∷ l) (nothing ys)
    alone (x ∷ xs) is = absurd (let e = ap (length {A = D}) is ∙ length-append so.done (x ∷ xs) in let c = so.count in omega (arith, e, c, end))

    same : disks ≡ so.done
    same = alone rest so.all
