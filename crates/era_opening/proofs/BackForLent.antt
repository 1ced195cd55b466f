-- Disks that go back for those that were lent last.
use Rattle.std.proofs.Common.{◌≡◌, ℕ, zero, suc, ◌+◌, ◌<◌, ◌≤◌, true, List, [], ◌∷◌, ◌++◌, length, Option, Some, slice_get, refl, sym, ap, ◌∙◌, subst, arith}
use Rattle.std.specs.Prelude.{unwrap_or}
use Rattle.std.proofs.lemmas.Option.{slice_get_within}
use Rattle.era_base.specs.Bay.{Loan}
use Rattle.era_base.specs.Calls.{SameDisk}
use Rattle.era_base.specs.Disk.{Place}
use Rattle.era_base.specs.declared.disk.Disk.{Ghosts}
use Rattle.era_opening.specs.Loans.{AreForLent, AreLastOut, AreOut, ArePutBack, EndInOrder, LieInOrder, LieWhereLent, MayGoBack, ReadAsDisks, SameReadsBeside, Taken, backs_of, lents_of, new_loans, taken_of}
use Rattle.era_session.proofs.ListsInOrder.{is-there}
use Rattle.era_tools.specs.Around.{BayAround}

some-is : {A : Type 0} (x z : A) → ◌≡◌ {A = Option A} (Some x) (Some z) → z ≡ x
some-is {A} x z at = sym (ap (λ (o : Option A). unwrap_or o x) at)

lents-taken : {D : Type 0} (lent backs : List D) → length backs ≡ length lent → lents_of (taken_of lent backs) ≡ lent
lents-taken [] backs count = refl
lents-taken (x ∷ lent) [] count = absurd (omega (arith, count))
lents-taken {D} (x ∷ lent) (y ∷ backs) count = ap (λ (l : List D). x ∷ l) (lents-taken lent backs (omega (arith, count)))

backs-taken : {D : Type 0} (lent backs : List D) → length backs ≡ length lent → backs_of (taken_of lent backs) ≡ backs
backs-taken [] [] count = refl
backs-taken [] (y ∷ backs) count = absurd (omega (arith, count))
backs-taken (x ∷ lent) [] count = absurd (omega (arith, count))
backs-taken {D} (x ∷ lent) (y ∷ backs) count = ap (λ (l : List D). y ∷ l) (backs-taken lent backs (omega (arith, count)))

taken-at : {D : Type 0} (lent backs : List D) (k : ℕ) (one : Taken D) → slice_get (taken_of lent backs) k ≡ Some one
    → (slice_get lent k ≡ Some one.lent) × (slice_get backs k ≡ Some one.back)
taken-at {D} [] backs k one at = absurd (let low = slice_get_within {A = Taken D} [] k one at in omega (arith, low))
taken-at {D} (x ∷ lent) [] k one at = absurd (let low = slice_get_within {A = Taken D} [] k one at in omega (arith, low))
taken-at {D} (x ∷ lent) (y ∷ backs) zero one at =
    let is = some-is (record { lent = x; back = y }) one at in
    (ap (λ (t : Taken D). Some t.lent) (sym is), ap (λ (t : Taken D). Some t.back) (sym is))
taken-at (x ∷ lent) (y ∷ backs) (suc k) one at = taken-at lent backs k one at

-- their loans are the last ones that are out
pub last-out : {D : Type 0} (disk : Ghosts D) (before : List (Loan D)) (lent backs : List D) (loans : List (Loan D)) → AreForLent disk before lent backs loans
    → AreLastOut disk before (taken_of lent backs) loans
last-out {D} disk before lent backs loans are = record {
  loans = are.out ∙ ap (λ (l : List D). before ++ new_loans l) (sym (lents-taken lent backs are.lie.count));
  same = λ k one at. let both = taken-at lent backs k one at in are.lie.same k one.lent one.back both.0 both.1;
}

pub back-out : {D : Type 0} (disk : Ghosts D) (backs : List D) (loans : List (Loan D)) → MayGoBack disk backs loans → AreOut disk backs loans
back-out disk backs loans may = record {
  before = may.before;
  taken = taken_of may.lent backs;
  out = last-out disk may.before may.lent backs loans may.are;
  back = backs-taken may.lent backs may.are.lie.count;
}

-- and they lie in order, as those that were lent
in-order : (one one' other other' : Place) (size size' : ℕ) → one' ≡ one → other' ≡ other → size' ≡ size
    → (one.device ≡ other.device → (one.first < other.first) × (one.first + size ≤ other.first))
    → one'.device ≡ other'.device → (one'.first < other'.first) × (one'.first + size' ≤ other'.first)
in-order one one' other other' size size' at at' same order device = subst (λ (p : Place). (p.first < other'.first) × (p.first + size' ≤ other'.first)) (sym at)
    (subst (λ (p : Place). (one.first < p.first) × (one.first + size' ≤ p.first)) (sym at')
    (subst (λ (n : ℕ). (one.first < other.first) × (one.first + n ≤ other.first)) (sym same)
    (order (sym (ap (λ (p : Place). p.device) at) ∙ device ∙ ap (λ (p : Place). p.device) at'))))

pub back-apart : {D : Type 0} (disk : Ghosts D) (backs : List D) (loans : List (Loan D)) → MayGoBack disk backs loans → LieInOrder disk backs
back-apart disk backs loans may j k one other low at at' device =
    let lie = may.are.lie in
    let was = is-there may.lent j (let within = slice_get_within backs j one at in omega (arith, within, lie.count)) in
    let were = is-there may.lent k (let within = slice_get_within backs k other at' in omega (arith, within, lie.count)) in
    let same = lie.same j was.0 one was.1 at in
    let same' = lie.same k were.0 other were.1 at' in
    in-order (disk.place was.0) (disk.place one) (disk.place were.0) (disk.place other) (disk.sectors was.0) (disk.sectors one) same.place same'.place same.size
    (λ is. may.are.apart j k was.0 were.0 low was.1 were.1 is) device

-- so they are put back for those
pub put-back : {D : Type 0} (disk : Ghosts D) (bay : BayAround D) (backs : List D) → EndInOrder disk backs bay.loans bay.loans'
    → (disk.tells ≡ true → ReadAsDisks disk backs bay.reads') → SameReadsBeside disk backs bay.reads bay.reads' → bay.faults' ≡ bay.faults → ArePutBack disk bay backs
put-back disk bay backs ends content others faults = record {
  loans = λ before lent are. ends before (taken_of lent backs) (last-out disk before lent backs bay.loans are) (backs-taken lent backs are.lie.count);
  content = content;
  others = others;
  faults = faults;
}

-- what goes back for disks that were lent may do so later too, as long as it lies where they do
pub later-back : {D : Type 0} (disk : Ghosts D) (backs later : List D) (loans : List (Loan D)) → MayGoBack disk backs loans → LieWhereLent disk backs later → MayGoBack disk later loans
later-back disk backs later loans may lie =
    let was = may.are.lie in
    record {
      before = may.before;
      lent = may.lent;
      are = record {
        out = may.are.out;
        apart = may.are.apart;
        lie = record {
          count = lie.count ∙ was.count;
          same = λ k one back at at'.
              let between = is-there backs k (let within = slice_get_within may.lent k one at in omega (arith, within, was.count)) in
              let first = was.same k one between.0 at between.1 in
              let second = lie.same k between.0 back between.1 at' in
              record { place = second.place ∙ first.place; size = second.size ∙ first.size };
        };
      };
    }

pub same-lie : {D : Type 0} (disk : Ghosts D) (lent : List D) → LieWhereLent disk lent lent
same-lie {D} disk lent = record {
  count = refl;
  same = λ k one back at at'. subst (λ (d : D). SameDisk disk one d) (sym (some-is one back (sym at ∙ at'))) (record { place = refl; size = refl });
}
