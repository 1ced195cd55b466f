-- Tests of a disk, one behind the other.
use Rattle.std.proofs.Common.{◌≡◌, ℕ, ◌+◌, true, List, [], ◌∷◌, ◌++◌, Result, Ok, Err, refl, ap, ◌∙◌, subst, arith, inl, inr}
use Rattle.std.specs.Prelude.{MatchResult}
use Rattle.std.specs.List.{AllByRecursion}
use Rattle.era_base.specs.Calls.{SameDisk}
use Rattle.era_base.specs.CrashModel.{State, History}
use Rattle.era_base.specs.declared.disk.Disk.{Ghosts}
use Rattle.era_base.proofs.Moments.{went-none, went-now, went-join}
use Rattle.era_slots.specs.declared.slots.Slots.{Slots}
use Rattle.era_slots.specs.Calls.{SameSlots}
use Rattle.era_meta.specs.declared.finding.Finding.{Finding}
use Rattle.era_meta.specs.declared.finding.Finding.TheVariants as finding
use Rattle.era_meta.specs.Damage.{Test, Passes, Finds, SaysFirst, PassAll}
use Rattle.era_meta.specs.Walks.{reads_of, all_reads, FaultsAfter, EndsWith, WalkedIn, HasFindingCause, Walked}
use Rattle.era_meta.proofs.Agree.{all_both}

pub reads-both : (xs ys : List Test) → all_reads (xs ++ ys) ≡ all_reads xs + all_reads ys
reads-both [] ys = let e : all_reads ys ≡ 0 + all_reads ys = omega arith in e
reads-both (x ∷ xs) ys = ap (λ (n : ℕ). reads_of x + n) (reads-both xs ys) ∙ (let e : reads_of x + (all_reads xs + all_reads ys) ≡ reads_of x + all_reads xs + all_reads ys = omega arith in e)

pub first-front : {T E : Type 0} (Holds : T → Type 0) (Says : T → E → Type 0) (xs ys : List T) (said : E) → SaysFirst Holds Says xs said → SaysFirst Holds Says (xs ++ ys) said
first-front Holds Says [] ys said first = absurd first
first-front Holds Says (x ∷ xs) ys said (inl here) = inl here
first-front Holds Says (x ∷ xs) ys said (inr later) = inr (later.0, first-front Holds Says xs ys said later.1)

pub first-back : {T E : Type 0} (Holds : T → Type 0) (Says : T → E → Type 0) (xs ys : List T) (said : E) → AllByRecursion Holds xs → SaysFirst Holds Says ys said → SaysFirst Holds Says (xs ++ ys) said
first-back Holds Says [] ys said all first = first
first-back Holds Says (x ∷ xs) ys said all first = inr (all.0, first-back Holds Says xs ys said all.1 first)

faults-front : (seen : List ℕ) (xs ys : List Test) (calls : ℕ) → FaultsAfter seen xs calls → FaultsAfter seen (xs ++ ys) calls
faults-front seen [] ys calls faults = absurd faults
faults-front seen (x ∷ xs) ys calls (inl here) = inl here
faults-front seen (x ∷ xs) ys calls (inr later) = inr (later.0, (later.1.0, later.1.1, faults-front seen xs ys later.1.0 later.1.2))

faults-back : (seen : List ℕ) (xs ys : List Test) (calls all : ℕ) → PassAll seen xs → all ≡ all_reads xs + calls → FaultsAfter seen ys calls → FaultsAfter seen (xs ++ ys) all
faults-back seen [] ys calls all pass is faults = subst (FaultsAfter seen ys) (let e : calls ≡ all = omega arith in e) faults
faults-back seen (x ∷ xs) ys calls all pass is faults =
    inr (pass.0, (all_reads xs + calls, omega arith, faults-back seen xs ys calls (all_reads xs + calls) pass.1 refl faults))

ends-front : (seen : List ℕ) (xs ys : List Test) (calls : ℕ) (f : Finding) → EndsWith seen xs calls f → EndsWith seen (xs ++ ys) calls f
ends-front seen xs ys calls (finding.Fault count) ends = faults-front seen xs ys calls ends
ends-front seen xs ys calls (finding.Damage kind block) ends = first-front (Passes seen) (Finds seen) xs ys (record { kind = kind; block = block }) ends
ends-front seen xs ys calls finding.Memory ends = tt

ends-back : (seen : List ℕ) (xs ys : List Test) (calls all : ℕ) (f : Finding) → PassAll seen xs → all ≡ all_reads xs + calls → EndsWith seen ys calls f → EndsWith seen (xs ++ ys) all f
ends-back seen xs ys calls all (finding.Fault count) pass is ends = faults-back seen xs ys calls all pass is ends
ends-back seen xs ys calls all (finding.Damage kind block) pass is ends = first-back (Passes seen) (Finds seen) xs ys (record { kind = kind; block = block }) pass ends
ends-back seen xs ys calls all finding.Memory pass is ends = tt

-- tests that ended end more tests
in-stop : {T U : Type 0} (xs ys : List Test) (old new : History) (f : Finding) → WalkedIn {T = T} xs old new (Err f) → WalkedIn {T = U} (xs ++ ys) old new (Err f)
in-stop xs ys old new f walked = record {
  went = walked.went;
  calls = walked.calls;
  time = walked.time;
  found = ends-front old.now.seen xs ys walked.calls f walked.found;
}

-- the rest of the tests, behind those that passed
found-then : {U : Type 0} (seen : List ℕ) (xs ys : List Test) (calls all : ℕ) (result : Result U Finding) → PassAll seen xs → all ≡ all_reads xs + calls
    → MatchResult result (λ _. PassAll seen ys × (calls ≡ all_reads ys)) (EndsWith seen ys calls)
    → MatchResult result (λ _. PassAll seen (xs ++ ys) × (all ≡ all_reads (xs ++ ys))) (EndsWith seen (xs ++ ys) all)
found-then seen xs ys calls all (Ok value) pass is found =
    let sum = reads-both xs ys in
    let own = found.1 in
    (all_both (Passes seen) xs ys pass found.0, omega arith)
found-then seen xs ys calls all (Err f) pass is found = ends-back seen xs ys calls all f pass is found

in-then : {T U : Type 0} (xs ys : List Test) (old mid new : History) (value : T) (result : Result U Finding) → WalkedIn xs old mid (Ok value) → WalkedIn ys mid new result
    → WalkedIn (xs ++ ys) old new result
in-then xs ys old mid new value result one two =
    let same = went-now (λ before now. now ≡ before) old mid one.went in
    let reads = one.found.1 in
    let first = one.time in
    let second = two.time in
    record {
      went = went-join (λ before now. now ≡ before) (λ before now. now ≡ before) (λ before now. now ≡ before) old mid new one.went two.went
          (λ state is. is) (λ state is is'. is' ∙ is);
      calls = one.calls + two.calls;
      time = omega arith;
      found = found-then old.now.seen xs ys two.calls (one.calls + two.calls) result one.found.0 (omega arith)
          (subst (λ (state : State). MatchResult result (λ _. PassAll state.seen ys × (two.calls ≡ all_reads ys)) (EndsWith state.seen ys two.calls)) same two.found);
    }

slots-then : {D : Type 0} (old mid new : Slots D) → SameSlots old mid → SameSlots mid new → SameSlots old new
slots-then old mid new one two = record { target = two.target ∙ one.target; number = two.number ∙ one.number; may_be_open = two.may_be_open ∙ one.may_be_open }

disk-then : {D : Type 0} (disk : Ghosts D) (old mid new : D) → SameDisk disk old mid → SameDisk disk mid new → SameDisk disk old new
disk-then disk old mid new one two = record { place = two.place ∙ one.place; size = two.size ∙ one.size }

cause-then : {U : Type 0} (before mid now : ℕ) (result : Result U Finding) → mid ≡ before
    → MatchResult result (λ _. now ≡ mid) (HasFindingCause mid now) → MatchResult result (λ _. now ≡ before) (HasFindingCause before now)
cause-then before mid now result same cause = subst (λ (n : ℕ). MatchResult result (λ _. now ≡ n) (HasFindingCause n now)) same cause

pub walked-stop : {D T U : Type 0} (disk : Ghosts D) (xs ys : List Test) (old new : Slots D) (f : Finding)
    → Walked {T = T} disk xs old new (Err f) → Walked {T = U} disk (xs ++ ys) old new (Err f)
walked-stop disk xs ys old new f walked = record {
  told = λ told. in-stop xs ys (disk.history old.disk) (disk.history new.disk) f (walked.told told);
  slots = walked.slots;
  same = walked.same;
  cause = walked.cause;
}

pub walked-then : {D T U : Type 0} (disk : Ghosts D) (xs ys : List Test) (old mid new : Slots D) (value : T) (result : Result U Finding)
    → Walked disk xs old mid (Ok value) → Walked disk ys mid new result → Walked disk (xs ++ ys) old new result
walked-then disk xs ys old mid new value result one two = record {
  told = λ told. in-then xs ys (disk.history old.disk) (disk.history mid.disk) (disk.history new.disk) value result (one.told told) (two.told told);
  slots = slots-then old mid new one.slots two.slots;
  same = disk-then disk old.disk mid.disk new.disk one.same two.same;
  cause = cause-then (disk.faults old.disk) (disk.faults mid.disk) (disk.faults new.disk) result one.cause two.cause;
}

-- no test
pub walked-none : {D T : Type 0} (disk : Ghosts D) (slots : Slots D) (value : T) → Walked disk [] slots slots (Ok value)
walked-none disk slots value = record {
  told = λ told. record {
    went = went-none (λ before now. now ≡ before) (disk.history slots.disk) refl;
    calls = 0;
    time = omega arith;
    found = (tt, refl);
  };
  slots = record { target = refl; number = refl; may_be_open = refl };
  same = record { place = refl; size = refl };
  cause = refl;
}

-- want of memory
pub walked-memory : {D T : Type 0} (disk : Ghosts D) (tests : List Test) (slots : Slots D) → Walked {T = T} disk tests slots slots (Err finding.Memory)
walked-memory disk tests slots = record {
  told = λ told. record {
    went = went-none (λ before now. now ≡ before) (disk.history slots.disk) refl;
    calls = 0;
    time = omega arith;
    found = tt;
  };
  slots = record { target = refl; number = refl; may_be_open = refl };
  same = record { place = refl; size = refl };
  cause = refl;
}

-- the same tests, said otherwise
pub walked-as : {D T : Type 0} (disk : Ghosts D) (xs ys : List Test) (old new : Slots D) (result : Result T Finding) → (disk.tells ≡ true → xs ≡ ys)
    → Walked disk xs old new result → Walked disk ys old new result
walked-as disk xs ys old new result same walked = record {
  told = λ told. subst (λ (tests : List Test). WalkedIn tests (disk.history old.disk) (disk.history new.disk) result) (same told) (walked.told told);
  slots = walked.slots;
  same = walked.same;
  cause = walked.cause;
}

-- another value at Ok
pub walked-value : {D T U : Type 0} (disk : Ghosts D) (tests : List Test) (old new : Slots D) (one : T) (two : U) → Walked disk tests old new (Ok one) → Walked disk tests old new (Ok two)
walked-value disk tests old new one two walked = record {
  told = λ told. let w = walked.told told in record { went = w.went; calls = w.calls; time = w.time; found = w.found };
  slots = walked.slots;
  same = walked.same;
  cause = walked.cause;
}

-- another type at an error
pub walked-error : {D T U : Type 0} (disk : Ghosts D) (tests : List Test) (old new : Slots D) (f : Finding) → Walked {T = T} disk tests old new (Err f) → Walked {T = U} disk tests old new (Err f)
walked-error disk tests old new f walked = record {
  told = λ told. let w = walked.told told in record { went = w.went; calls = w.calls; time = w.time; found = w.found };
  slots = walked.slots;
  same = walked.same;
  cause = walked.cause;
}

-- want of memory behind tests that passed
pub walked-forgets : {D T U : Type 0} (disk : Ghosts D) (tests : List Test) (old new : Slots D) (value : T) → Walked disk tests old new (Ok value)
    → Walked {T = U} disk tests old new (Err finding.Memory)
walked-forgets disk tests old new value walked = record {
  told = λ told. let w = walked.told told in record { went = w.went; calls = w.calls; time = w.time; found = tt };
  slots = walked.slots;
  same = walked.same;
  cause = walked.cause;
}

-- what the rest of the tests leads to
abbrev pub Leads : {D : Type 0} → Ghosts D → Type 0 → List Test → List Test → Slots D → Slots D → Type 0
Leads {D = D} disk T rest all old here = (new : Slots D) (result : Result T Finding) → Walked disk rest here new result → Walked disk all old new result
