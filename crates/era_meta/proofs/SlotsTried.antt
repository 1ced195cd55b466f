-- What the slots of a disk make of an opening: what was refused before they were read, and what they were found to be.
use Rattle.std.proofs.Common.{◌≡◌, ℕ, ◌+◌, ◌<◌, ◌≤◌, true, List, ◌∷◌, ◌++◌, Some, None, refl, sym, ap, subst, arith, inl, inr}
use Rattle.era_base.specs.Calls.{MakesCalls, SameDisk}
use Rattle.era_base.specs.CrashModel.{State, History, Went, SameBut, clock}
use Rattle.era_base.specs.declared.disk.Disk.{Ghosts}
use Rattle.era_base.proofs.Moments.{went-now}
use Rattle.era_layout.specs.declared.damage.DamageKind.TheVariants as kind
use Rattle.era_slots.specs.declared.opened.SlotError.{SlotError}
use Rattle.era_slots.specs.declared.opened.SlotError.TheVariants.{Fault as SlotFault, BadSequence, SequenceTie, Memory as SlotMemory}
use Rattle.era_slots.specs.Opening.{RefusedBy, RefusesByCalls, HasFaultCause}
use Rattle.era_slots.specs.Slot.{IsActive, IsBlank}
use Rattle.era_meta.specs.declared.refusal.MetaError.{MetaError}
use Rattle.era_meta.specs.declared.refusal.MetaError.TheVariants.{MetaSmall, Unformatted, Damaged}
use Rattle.era_meta.specs.Openings.{TriedIn, Tried, HasErrorCause}
use Rattle.era_meta.specs.Trials.{Trial, Room, Calls, Formatted, HoldAll, RefusesFirst, all_calls, metadata_blocks, number_trials, opened_trials, look_trials, error_of_slots}
use Rattle.era_meta.proofs.Looks.{seen-same, tried-still}
use Rattle.era_meta.proofs.Refusals.{numbers-hold, bad-not-blank}
use Rattle.era_meta.proofs.Tried.{bad-ends, tie-ends}

-- the slots were opened, or weren't
pub front-tried : (have : ℕ) (front : List Trial) (old mid : History) → Went (SameBut 0 0) old mid → clock mid ≡ clock old + 3 → 3 ≡ all_calls front → HoldAll have old.now.seen front
    → TriedIn have front old mid None
front-tried have front old mid went time calls hold = record { went = went; calls = 3; time = time; found = (hold, calls) }

-- what refuses behind the first calls
abbrev pub RefusesBehind : ℕ → List ℕ → List Trial → SlotError → Type 0
RefusesBehind have seen rest (SlotFault count) = Unit {0}
RefusesBehind have seen rest (BadSequence slot) = RefusesFirst have seen rest (Damaged kind.BadSequence slot)
RefusesBehind have seen rest SequenceTie = RefusesFirst have seen rest (Damaged kind.SequenceTie 1)
RefusesBehind have seen rest SlotMemory = Unit {0}

slots-cause : (before now : ℕ) (error : SlotError) → HasFaultCause before now error → HasErrorCause before now (error_of_slots error)
slots-cause before now (SlotFault count) cause = cause
slots-cause before now (BadSequence slot) cause = cause
slots-cause before now SequenceTie cause = cause
slots-cause before now SlotMemory cause = cause

slots-told : {D : Type 0} (disk : Ghosts D) (need : ℕ) (rest : List Trial) (old new : D) (error : SlotError) → disk.tells ≡ true → need ≤ metadata_blocks (disk.sectors old)
    → Went (SameBut 0 0) (disk.history old) (disk.history new) → RefusesByCalls disk error old new
    → RefusesBehind (metadata_blocks (disk.sectors old)) (disk.history old).now.seen rest error
    → TriedIn (metadata_blocks (disk.sectors old)) (Room need ∷ Calls 3 ∷ rest) (disk.history old) (disk.history new) (Some (error_of_slots error))
slots-told disk need rest old new (SlotFault count) told large went calls refuses =
    let place = (calls told).place in
    let time = place.time in
    record { went = went; calls = place.calls; time = time; found = inr (large, (place.calls, (let e : place.calls ≡ 0 + place.calls = omega arith in e), inl (place.some, place.most))) }
slots-told disk need rest old new (BadSequence slot) told large went calls refuses =
    record { went = went; calls = 3; time = calls told; found = inr (large, inr (tt, refuses)) }
slots-told disk need rest old new SequenceTie told large went calls refuses =
    record { went = went; calls = 3; time = calls told; found = inr (large, inr (tt, refuses)) }
slots-told disk need rest old new SlotMemory told large went calls refuses = record { went = went; calls = 3; time = calls told; found = tt }

pub slots-end : {D : Type 0} (disk : Ghosts D) (need : ℕ) (rest : List ℕ → List Trial) (old new : D) (error : SlotError) (refusal : MetaError) → refusal ≡ error_of_slots error
    → need ≤ metadata_blocks (disk.sectors old) → (disk.tells ≡ true → Went (SameBut 0 0) (disk.history old) (disk.history new)) → RefusesByCalls disk error old new
    → (disk.tells ≡ true → RefusesBehind (metadata_blocks (disk.sectors old)) (disk.history old).now.seen (rest (disk.history old).now.seen) error)
    → SameDisk disk old new → HasFaultCause (disk.faults old) (disk.faults new) error
    → Tried disk (λ seen. Room need ∷ Calls 3 ∷ rest seen) old new (Some refusal)
slots-end disk need rest old new error refusal is large went calls refuses same cause =
    subst (λ (e : MetaError). Tried disk (λ seen. Room need ∷ Calls 3 ∷ rest seen) old new (Some e)) (sym is) (record {
      told = λ told. slots-told disk need (rest (disk.history old).now.seen) old new error told large (went told) calls (refuses told);
      same = same;
      cause = slots-cause (disk.faults old) (disk.faults new) error cause;
    })

-- a look is refused behind its first calls
look-behind : (have : ℕ) (now : State) (error : SlotError) → RefusedBy now error
    → RefusesBehind have now.seen (Formatted ∷ number_trials ++ opened_trials now.seen) error
look-behind have now (SlotFault count) refused = tt
look-behind have now (BadSequence slot) refused =
    let bad = refused.1 in
    inr (bad-not-blank now.seen slot bad.two bad.bad.0, bad-ends have 0 now.seen slot (opened_trials now.seen) bad)
look-behind have now SequenceTie refused =
    inr (bad-not-blank now.seen 0 (omega arith) refused.1.first, tie-ends have 0 now.seen (opened_trials now.seen) refused.1)
look-behind have now SlotMemory refused = tt

pub look-refused : (have : ℕ) (old now : State) (error : SlotError) → SameBut 0 0 old now → RefusedBy now error
    → RefusesBehind have old.seen (Formatted ∷ number_trials ++ opened_trials old.seen) error
look-refused have old now error same refused =
    subst (λ (seen : List ℕ). RefusesBehind have seen (Formatted ∷ number_trials ++ opened_trials seen) error) (seen-same old now same) (look-behind have now error refused)

abbrev pub look_front : List Trial
look_front = Room 57 ∷ Calls 3 ∷ Formatted ∷ number_trials

pub look-holds : (have : ℕ) (old now : State) (active : ℕ) → 57 ≤ have → active < 2 → SameBut 0 0 old now → IsActive active now.seen → HoldAll have old.seen look_front
look-holds have old now active large two same stands =
    subst (λ (seen : List ℕ). HoldAll have seen look_front) (seen-same old now same)
    (large, (tt, (bad-not-blank now.seen active two stands.opened, numbers-hold have now.seen active two stands)))

-- neither gate is open
pub look-blank : {D : Type 0} (disk : Ghosts D) (old new : D) → 57 ≤ metadata_blocks (disk.sectors old) → (disk.tells ≡ true → Went (SameBut 0 0) (disk.history old) (disk.history new))
    → MakesCalls disk 3 old new → (disk.tells ≡ true → IsBlank (disk.history new).now.seen) → SameDisk disk old new → disk.faults new ≡ disk.faults old
    → Tried disk look_trials old new (Some Unformatted)
look-blank disk old new large went calls blank same cause = record {
  told = λ told.
      record {
        went = went told;
        calls = 3;
        time = calls told;
        found = inr (large, inr (tt, inl (subst IsBlank (seen-same (disk.history old).now (disk.history new).now (went-now (SameBut 0 0) (disk.history old) (disk.history new) (went told))) (blank told), refl)));
      };
  same = same;
  cause = cause;
}

pub look-small : {D : Type 0} (disk : Ghosts D) (at : D) (have : ℕ) → have ≡ metadata_blocks (disk.sectors at) → have < 57 → Tried disk look_trials at at (Some (MetaSmall have 57))
look-small disk at have is small =
    tried-still disk look_trials at (MetaSmall have 57)
    (λ told. inl (subst (λ (n : ℕ). n < 57) is small, ap (λ (n : ℕ). MetaSmall n 57) is)) refl
