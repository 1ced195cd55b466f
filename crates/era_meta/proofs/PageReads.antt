-- A page that is read and tested.
use Rattle.std.proofs.Common.{◌≡◌, ℕ, ◌+◌, ◌-◌, ◌*◌, ◌<◌, ◌≤◌, min, Bool, true, false, List, [], ◌∷◌, length, get_or, Ok, Err, refl, sym, ◌∙◌, subst, arith, inl, inr}
use Rattle.std.proofs.lemmas.Bool.{cases_lt}
use Rattle.std.proofs.lemmas.List.{get_or_past}
use Rattle.era_base.specs.Flags.{has}
use Rattle.era_base.specs.Calls.{EachMoment, MakesCalls, SameDisk}
use Rattle.era_base.specs.CrashModel.{State}
use Rattle.era_base.specs.declared.disk.Disk.{Ghosts}
use Rattle.era_base.specs.Faults.{HasCount}
use Rattle.era_base.proofs.Moments.{went-now}
use Rattle.era_layout.specs.declared.damage.DamageKind.{DamageKind}
use Rattle.era_layout.specs.Pages.{entry_at, flag_at, IsArrayPage, FlagsEndAt}
use Rattle.era_slots.specs.declared.slots.Slots.{Slots}
use Rattle.era_slots.specs.Calls.{SameSlots}
use Rattle.era_slots.specs.Slot.{page_of}
use Rattle.era_meta.specs.declared.finding.Finding.{Finding}
use Rattle.era_meta.specs.declared.finding.Finding.TheVariants as finding
use Rattle.era_meta.specs.Damage.{Test, ArrayPage, BitsPage, PassAll, IsArrayDamage, IsBitsDamage}
use Rattle.era_meta.specs.PageParts.{IsArrayPageOf, IsBitsPageOf}
use Rattle.era_meta.specs.Walks.{reads_of, all_reads, EndsWith, HasFindingCause, Walked, IsDamageAt, IsNoFault, IsFoundIn}

-- a read that failed, for the first of some tests
pub read-fault : {D T : Type 0} (disk : Ghosts D) (test : Test) (tests : List Test) (old new : Slots D) (count : ℕ) → 0 < reads_of test
    → EachMoment disk (λ before now. now ≡ before) old.disk new.disk → MakesCalls disk 1 old.disk new.disk → SameSlots old new × SameDisk disk old.disk new.disk
    → HasCount {T = Unit {0}} (disk.faults old.disk) (disk.faults new.disk) (Err count)
    → Walked {T = T} disk (test ∷ tests) old new (Err (finding.Fault count))
read-fault disk test tests old new count reads moments calls same cause = record {
  told = λ told. record { went = moments told; calls = 1; time = calls told; found = inl (reads, refl) };
  slots = same.0;
  same = same.1;
  cause = (cause.count, cause.cause.failed);
}

-- behind a read what it gives ends the tests, or they pass
no-fault : (before now : ℕ) (f : Finding) → now ≡ before → IsNoFault f → HasFindingCause before now f
no-fault before now (finding.Fault count) same none = absurd none
no-fault before now (finding.Damage kind block) same none = same
no-fault before now finding.Memory same none = same

found-ends : (seen : List ℕ) (tests : List Test) (calls : ℕ) (f : Finding) → IsFoundIn seen tests f → EndsWith seen tests calls f
found-ends seen tests calls (finding.Fault count) found = absurd found
found-ends seen tests calls (finding.Damage kind block) found = found
found-ends seen tests calls finding.Memory found = tt

pub read-found : {D T : Type 0} (disk : Ghosts D) (tests : List Test) (old new : Slots D) (f : Finding)
    → EachMoment disk (λ before now. now ≡ before) old.disk new.disk → MakesCalls disk 1 old.disk new.disk → SameSlots old new × SameDisk disk old.disk new.disk
    → HasCount {T = Unit {0}} (disk.faults old.disk) (disk.faults new.disk) (Ok tt) → IsNoFault f
    → (disk.tells ≡ true → IsFoundIn (disk.history new.disk).now.seen tests f)
    → Walked {T = T} disk tests old new (Err f)
read-found disk tests old new f moments calls same cause none found = record {
  told = λ told. record {
    went = moments told;
    calls = 1;
    time = calls told;
    found = subst (λ (state : State). EndsWith state.seen tests 1 f) (went-now (λ before now. now ≡ before) (disk.history old.disk) (disk.history new.disk) (moments told))
        (found-ends (disk.history new.disk).now.seen tests 1 f (found told));
  };
  slots = same.0;
  same = same.1;
  cause = no-fault (disk.faults old.disk) (disk.faults new.disk) f cause.cause.kept none;
}

pub read-passed : {D T : Type 0} (disk : Ghosts D) (tests : List Test) (old new : Slots D) (value : T)
    → EachMoment disk (λ before now. now ≡ before) old.disk new.disk → MakesCalls disk 1 old.disk new.disk → SameSlots old new × SameDisk disk old.disk new.disk
    → HasCount {T = Unit {0}} (disk.faults old.disk) (disk.faults new.disk) (Ok tt) → 1 ≡ all_reads tests
    → (disk.tells ≡ true → PassAll (disk.history new.disk).now.seen tests)
    → Walked disk tests old new (Ok value)
read-passed disk tests old new value moments calls same cause reads pass = record {
  told = λ told. record {
    went = moments told;
    calls = 1;
    time = calls told;
    found = (subst (λ (state : State). PassAll state.seen tests) (went-now (λ before now. now ≡ before) (disk.history old.disk) (disk.history new.disk) (moments told)) (pass told), reads);
  };
  slots = same.0;
  same = same.1;
  cause = cause.cause.kept;
}

-- a page of the era array
pub damage-no-fault : (block : ℕ) (Is : DamageKind → Type 0) (f : Finding) → IsDamageAt block Is f → IsNoFault f
damage-no-fault block Is (finding.Fault count) is = is
damage-no-fault block Is (finding.Damage kind at) is = tt
damage-no-fault block Is finding.Memory is = tt

pub array-found : (seen page : List ℕ) (block entries limit : ℕ) (f : Finding) → page ≡ page_of block seen → IsDamageAt block (IsArrayDamage page entries limit) f
    → IsFoundIn seen (ArrayPage block entries limit ∷ []) f
array-found seen page block entries limit (finding.Fault count) same is = is
array-found seen page block entries limit (finding.Damage kind at) same is = inl (subst (λ (bytes : List ℕ). IsArrayDamage bytes entries limit kind) same is.0, is.1)
array-found seen page block entries limit finding.Memory same is = tt

pub bits-found : (seen page : List ℕ) (block bits : ℕ) (f : Finding) → page ≡ page_of block seen → IsDamageAt block (IsBitsDamage page bits) f
    → IsFoundIn seen (BitsPage block bits ∷ []) f
bits-found seen page block bits (finding.Fault count) same is = is
bits-found seen page block bits (finding.Damage kind at) same is = inl (subst (λ (bytes : List ℕ). IsBitsDamage bytes bits kind) same is.0, is.1)
bits-found seen page block bits finding.Memory same is = tt

-- what a page says that was taken over: past the last block it has zeros, and an array has none
pub page-says : (eras page : List ℕ) (index entries limit : ℕ) → entries ≡ min 1024 (length eras - 1024 * index) → IsArrayPage page entries limit
    → ((entry : ℕ) → entry < 1024 → 1024 * index + entry < length eras → get_or eras (1024 * index + entry) 0 ≡ entry_at page entry)
    → IsArrayPageOf eras index page
page-says eras page index entries limit is whole own entry lt = elim (cases_lt (1024 * index + entry) (length eras)) [
  | inl within ↦ sym (own entry lt within)
  | inr past ↦
      let end = whole.end entry (let e : entries ≤ entry = omega arith in e) lt in
      let none : entry_at page entry ≡ 0 = omega arith in
      none ∙ sym (get_or_past eras (1024 * index + entry) 0 past)
]

pub bits-say : (flags : List Bool) (page : List ℕ) (index bits : ℕ) → bits ≡ min 32768 (length flags - 32768 * index) → FlagsEndAt page bits
    → ((bit : ℕ) → bit < 32768 → 32768 * index + bit < length flags → has flags (32768 * index + bit) ≡ flag_at page bit)
    → IsBitsPageOf flags index page
bits-say flags page index bits is end own bit lt = elim (cases_lt (32768 * index + bit) (length flags)) [
  | inl within ↦ sym (own bit lt within)
  | inr past ↦ end bit (let e : bits ≤ bit = omega arith in e) lt ∙ sym (get_or_past flags (32768 * index + bit) false past)
]

-- an entry that was taken over is up to the limit, and all others were
pub entries-limited : (old new page : List ℕ) (index entries limit : ℕ) → length new ≡ length old → IsArrayPage page entries limit
    → ((entry : ℕ) → entry < 1024 → 1024 * index + entry < length old → get_or new (1024 * index + entry) 0 ≡ entry_at page entry)
    → ((block : ℕ) → (1024 * index ≤ block → 1024 * index + 1024 ≤ block) → get_or new block 0 ≡ get_or old block 0)
    → ((block : ℕ) → get_or old block 0 ≤ limit) → (block : ℕ) → get_or new block 0 ≤ limit
entries-limited old new page index entries limit size whole own others limited block = elim (cases_lt block (1024 * index)) [
  | inl before ↦ subst (λ (n : ℕ). n ≤ limit) (sym (others block (λ le. absurd (omega arith)))) (limited block)
  | inr from ↦ elim (cases_lt block (1024 * index + 1024)) [
    | inr behind ↦ subst (λ (n : ℕ). n ≤ limit) (sym (others block (λ le. behind))) (limited block)
    | inl inside ↦ elim (cases_lt block (length old)) [
      | inr past ↦ subst (λ (n : ℕ). n ≤ limit) (sym (get_or_past new block 0 (omega arith))) (omega arith)
      | inl within ↦
          let at : 1024 * index + (block - 1024 * index) ≡ block = omega arith in
          let same : get_or new block 0 ≡ entry_at page (block - 1024 * index)
          = subst (λ (n : ℕ). get_or new n 0 ≡ entry_at page (block - 1024 * index)) at (own (block - 1024 * index) (omega arith) (omega arith)) in
          subst (λ (n : ℕ). n ≤ limit) (sym same) (whole.limited (block - 1024 * index) (omega arith) (omega arith))
    ]
  ]
]
