-- Refusals of openings: trials, one behind the other, and what the slots and the tests refuse.
use Rattle.std.proofs.Common.{◌≡◌, ℕ, zero, suc, ◌+◌, ◌^◌, ◌<◌, List, [], ◌∷◌, ◌++◌, map, refl, ap, ◌∙◌, subst, arith, inl, inr}
use Rattle.era_layout.specs.declared.damage.DamageKind.TheVariants as kind
use Rattle.era_slots.specs.Opening.{HasFirstBadNumber}
use Rattle.era_slots.specs.Slot.{SlotIsOpen, commit_number, IsCommitNumber, IsBlank, HasBadNumber, IsTied, IsActive}
use Rattle.era_meta.specs.declared.finding.Finding.{Finding}
use Rattle.era_meta.specs.declared.finding.Finding.TheVariants as finding
use Rattle.era_meta.specs.declared.refusal.MetaError.{MetaError}
use Rattle.era_meta.specs.declared.refusal.MetaError.TheVariants.{MetaSmall, Fault, Unformatted, Damaged, WrongGeometry, EraEnd, SequenceEnd, Memory}
use Rattle.era_meta.specs.Damage.{Damage, Test, SlotNumber, SlotNumbers, PassAll, FindsFirst}
use Rattle.era_meta.specs.Trials.{Trial, Undamaged, Holds, Refuses, HoldAll, RefusesFirst, FailsAfter, EndsOpening, calls_of, all_calls, error_of_finding}
use Rattle.era_meta.specs.Walks.{reads_of, all_reads, FaultsAfter, EndsWith, IsFoundIn}
use Rattle.era_meta.proofs.Walking.{first-front, first-back}

pub calls-both : (xs ys : List Trial) → all_calls (xs ++ ys) ≡ all_calls xs + all_calls ys
calls-both [] ys = let e : all_calls ys ≡ 0 + all_calls ys = omega arith in e
calls-both (x ∷ xs) ys = ap (λ (n : ℕ). calls_of x + n) (calls-both xs ys) ∙ (let e : calls_of x + (all_calls xs + all_calls ys) ≡ calls_of x + all_calls xs + all_calls ys = omega arith in e)

fails-front : (have : ℕ) (seen : List ℕ) (xs ys : List Trial) (calls : ℕ) → FailsAfter have seen xs calls → FailsAfter have seen (xs ++ ys) calls
fails-front have seen [] ys calls fails = absurd fails
fails-front have seen (x ∷ xs) ys calls (inl here) = inl here
fails-front have seen (x ∷ xs) ys calls (inr later) = inr (later.0, (later.1.0, later.1.1, fails-front have seen xs ys later.1.0 later.1.2))

fails-back : (have : ℕ) (seen : List ℕ) (xs ys : List Trial) (calls all : ℕ) → HoldAll have seen xs → all ≡ all_calls xs + calls → FailsAfter have seen ys calls
    → FailsAfter have seen (xs ++ ys) all
fails-back have seen [] ys calls all hold is fails = subst (FailsAfter have seen ys) (let e : calls ≡ all = omega arith in e) fails
fails-back have seen (x ∷ xs) ys calls all hold is fails =
    inr (hold.0, (all_calls xs + calls, omega arith, fails-back have seen xs ys calls (all_calls xs + calls) hold.1 refl fails))

pub ends-front : (have : ℕ) (seen : List ℕ) (xs ys : List Trial) (calls : ℕ) (error : MetaError) → EndsOpening have seen xs calls error → EndsOpening have seen (xs ++ ys) calls error
ends-front have seen xs ys calls (Fault count) is = fails-front have seen xs ys calls is
ends-front have seen xs ys calls Memory is = tt
ends-front have seen xs ys calls (MetaSmall a b) is = first-front (Holds have seen) (Refuses have seen) xs ys (MetaSmall a b) is
ends-front have seen xs ys calls Unformatted is = first-front (Holds have seen) (Refuses have seen) xs ys Unformatted is
ends-front have seen xs ys calls (Damaged k b) is = first-front (Holds have seen) (Refuses have seen) xs ys (Damaged k b) is
ends-front have seen xs ys calls (WrongGeometry a b) is = first-front (Holds have seen) (Refuses have seen) xs ys (WrongGeometry a b) is
ends-front have seen xs ys calls EraEnd is = first-front (Holds have seen) (Refuses have seen) xs ys EraEnd is
ends-front have seen xs ys calls (SequenceEnd n) is = first-front (Holds have seen) (Refuses have seen) xs ys (SequenceEnd n) is

pub ends-back : (have : ℕ) (seen : List ℕ) (xs ys : List Trial) (calls all : ℕ) (error : MetaError) → HoldAll have seen xs → all ≡ all_calls xs + calls
    → EndsOpening have seen ys calls error → EndsOpening have seen (xs ++ ys) all error
ends-back have seen xs ys calls all (Fault count) hold same is = fails-back have seen xs ys calls all hold same is
ends-back have seen xs ys calls all Memory hold same is = tt
ends-back have seen xs ys calls all (MetaSmall a b) hold same is = first-back (Holds have seen) (Refuses have seen) xs ys (MetaSmall a b) hold is
ends-back have seen xs ys calls all Unformatted hold same is = first-back (Holds have seen) (Refuses have seen) xs ys Unformatted hold is
ends-back have seen xs ys calls all (Damaged k b) hold same is = first-back (Holds have seen) (Refuses have seen) xs ys (Damaged k b) hold is
ends-back have seen xs ys calls all (WrongGeometry a b) hold same is = first-back (Holds have seen) (Refuses have seen) xs ys (WrongGeometry a b) hold is
ends-back have seen xs ys calls all EraEnd hold same is = first-back (Holds have seen) (Refuses have seen) xs ys EraEnd hold is
ends-back have seen xs ys calls all (SequenceEnd n) hold same is = first-back (Holds have seen) (Refuses have seen) xs ys (SequenceEnd n) hold is

-- tests, as trials
pub pass-hold : (have : ℕ) (seen : List ℕ) (tests : List Test) → PassAll seen tests → HoldAll have seen (map Undamaged tests)
pass-hold have seen [] pass = tt
pass-hold have seen (test ∷ tests) pass = (pass.0, pass-hold have seen tests pass.1)

pub hold-pass : (have : ℕ) (seen : List ℕ) (tests : List Test) → HoldAll have seen (map Undamaged tests) → PassAll seen tests
hold-pass have seen [] hold = tt
hold-pass have seen (test ∷ tests) hold = (hold.0, hold-pass have seen tests hold.1)

first-refused : (have : ℕ) (seen : List ℕ) (tests : List Test) (found : Damage) → FindsFirst seen tests found
    → RefusesFirst have seen (map Undamaged tests) (Damaged found.kind found.block)
first-refused have seen [] found first = absurd first
first-refused have seen (test ∷ tests) found (inl here) = inl (found, here, refl)
first-refused have seen (test ∷ tests) found (inr later) = inr (later.0, first-refused have seen tests found later.1)

pub calls-reads : (tests : List Test) → all_calls (map Undamaged tests) ≡ all_reads tests
calls-reads [] = refl
calls-reads (test ∷ tests) = ap (λ (n : ℕ). reads_of test + n) (calls-reads tests)

faults-fail : (have : ℕ) (seen : List ℕ) (tests : List Test) (calls : ℕ) → FaultsAfter seen tests calls → FailsAfter have seen (map Undamaged tests) calls
faults-fail have seen [] calls faults = absurd faults
faults-fail have seen (test ∷ tests) calls (inl here) = let some = here.0 in let one = here.1 in inl (omega arith, omega arith)
faults-fail have seen (test ∷ tests) calls (inr later) = inr (later.0, (later.1.0, later.1.1, faults-fail have seen tests later.1.0 later.1.2))

pub ends-refused : (have : ℕ) (seen : List ℕ) (tests : List Test) (calls : ℕ) (f : Finding) → EndsWith seen tests calls f
    → EndsOpening have seen (map Undamaged tests) calls (error_of_finding f)
ends-refused have seen tests calls (finding.Fault count) ends = faults-fail have seen tests calls ends
ends-refused have seen tests calls (finding.Damage k block) ends = first-refused have seen tests (record { kind = k; block = block }) ends
ends-refused have seen tests calls finding.Memory ends = tt

pub found-refused : (have : ℕ) (seen : List ℕ) (tests : List Test) (calls : ℕ) (f : Finding) → IsFoundIn seen tests f
    → EndsOpening have seen (map Undamaged tests) calls (error_of_finding f)
found-refused have seen tests calls (finding.Fault count) found = absurd found
found-refused have seen tests calls (finding.Damage k block) found = first-refused have seen tests (record { kind = k; block = block }) found
found-refused have seen tests calls finding.Memory found = tt

-- the numbers of the slots
abbrev pub number_tests : List Test
number_tests = SlotNumber 0 ∷ SlotNumber 1 ∷ SlotNumbers ∷ []

pub bad-refused : (have : ℕ) (seen : List ℕ) (slot : ℕ) → HasFirstBadNumber slot seen → RefusesFirst have seen (map Undamaged number_tests) (Damaged kind.BadSequence slot)
bad-refused have seen zero bad = inl (record { kind = kind.BadSequence; block = 0 }, (bad.bad, refl), refl)
bad-refused have seen (suc zero) bad = inr (bad.first refl, inl (record { kind = kind.BadSequence; block = 1 }, (bad.bad, refl), refl))
bad-refused have seen (suc (suc slot)) bad = let two = bad.two in absurd (omega arith)

not-bad : (slot : ℕ) (seen : List ℕ) → IsCommitNumber (commit_number slot seen) → ¬ HasBadNumber slot seen
not-bad slot seen numbered bad = elim bad.1 [
  | inl none ↦ (let some = numbered.0 in omega arith)
  | inr great ↦ (let below = numbered.1 in omega arith)
]

pub tie-refused : (have : ℕ) (seen : List ℕ) → IsTied seen → RefusesFirst have seen (map Undamaged number_tests) (Damaged kind.SequenceTie 1)
tie-refused have seen tied =
    inr (
      not-bad 0 seen tied.numbered,
      inr (
        not-bad 1 seen (subst IsCommitNumber tied.same tied.numbered),
        inl (record { kind = kind.SequenceTie; block = 1 }, (record { first = tied.first; second = tied.second; same = tied.same }, refl), refl),
      ),
    )

-- a slot that isn't the active one has a smaller number, where it is open
beside-fine : (slot : ℕ) (seen : List ℕ) → (SlotIsOpen slot seen → (0 < commit_number slot seen) × (commit_number slot seen < 2 ^ 63)) → ¬ HasBadNumber slot seen
beside-fine slot seen newest bad = not-bad slot seen (newest bad.0) bad

pub numbers-hold : (have : ℕ) (seen : List ℕ) (slot : ℕ) → slot < 2 → IsActive slot seen → HoldAll have seen (map Undamaged number_tests)
numbers-hold have seen zero two active = (
  not-bad 0 seen active.numbered,
  (
    beside-fine 1 seen (λ opened. let newest = active.newest opened in let below = active.numbered.1 in (newest.0, omega arith)),
    ((λ one. let newest = active.newest one.second in let same = one.same in omega arith), tt),
  ),
)
numbers-hold have seen (suc zero) two active = (
  beside-fine 0 seen (λ opened. let newest = active.newest opened in let below = active.numbered.1 in (newest.0, omega arith)),
  (
    not-bad 1 seen active.numbered,
    ((λ one. let newest = active.newest one.first in let same = one.same in omega arith), tt),
  ),
)
numbers-hold have seen (suc (suc slot)) two active = absurd (omega arith)

pub bad-not-blank : (seen : List ℕ) (slot : ℕ) → slot < 2 → SlotIsOpen slot seen → ¬ IsBlank seen
bad-not-blank seen zero two opened blank = blank.0 opened
bad-not-blank seen (suc zero) two opened blank = blank.1 opened
bad-not-blank seen (suc (suc slot)) two opened blank = absurd (omega arith)
