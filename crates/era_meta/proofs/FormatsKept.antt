-- What a formatting finds of the slots, and what each of its moments may leave.
use Rattle.std.proofs.Common.{◌≡◌, ℕ, ◌<◌, true, inl, inr, List, Option, sym, ◌∙◌, subst, arith}
use Rattle.std.proofs.lemmas.Bool.{cases_lt}
use Rattle.era_base.specs.CrashModel.{State, History, Went, SameBut, Leaves, IsCrashImage}
use Rattle.era_base.specs.Calls.{EachMoment, Now, MakesCalls}
use Rattle.era_base.specs.declared.disk.Disk.{Ghosts}
use Rattle.era_base.proofs.Moments.{went-join, went-now, went-wider}
use Rattle.era_slots.specs.declared.opened.SlotError.{SlotError}
use Rattle.era_slots.specs.declared.opened.SlotError.TheVariants.{Fault, BadSequence, SequenceTie, Memory}
use Rattle.era_slots.specs.declared.opened.Opened.{Opened}
use Rattle.era_slots.specs.declared.opened.Opened.TheVariants.{Whole}
use Rattle.era_slots.specs.declared.slots.Slots.{Slots}
use Rattle.era_slots.specs.Opening.{slots_of, AreBeside, HasShape, Opens, RefusedBy, RefusesByCalls}
use Rattle.era_slots.specs.Slot.{SlotIsOpen, IsBlank}
use Rattle.era_meta.specs.FormatCalls.{IsFoundOpen, LeavesFormatting, RefusesOpened, format_error_of}
use Rattle.era_meta.specs.Formatting.{LeavesBlankOr}
use Rattle.era_meta.specs.Meaning.{Meaning}

-- a slot that is open is one of the two
pub open-blank : (slot : ℕ) (seen : List ℕ) → slot < 2 → SlotIsOpen slot seen → ¬ IsBlank seen
open-blank slot seen two opened blank = elim (cases_lt slot 1) [
  | inl first ↦ blank.0 (subst (λ (k : ℕ). SlotIsOpen k seen) (let e : slot ≡ 0 = omega arith in e) opened)
  | inr second ↦ blank.1 (subst (λ (k : ℕ). SlotIsOpen k seen) (let e : slot ≡ 1 = omega arith in e) opened)
]

-- gates are as they were where nothing has changed
pub blank-before : (before now : State) → SameBut 0 0 before now → IsBlank now.seen → IsBlank before.seen
blank-before before now same blank = (
  λ opened. blank.0 (same.seen 0 (λ low. omega arith) ∙ opened),
  λ opened. blank.1 (same.seen 4096 (λ low. omega arith) ∙ opened),
)

blank-after : (before now : State) → SameBut 0 0 before now → IsBlank before.seen → IsBlank now.seen
blank-after before now same blank = (
  λ opened. blank.0 (sym (same.seen 0 (λ low. omega arith)) ∙ opened),
  λ opened. blank.1 (sym (same.seen 4096 (λ low. omega arith)) ∙ opened),
)

pub open-before : (before now : State) → SameBut 0 0 before now → (¬ IsBlank now.seen) → ¬ IsBlank before.seen
open-before before now same opened blank = opened (blank-after before now same blank)

-- slots that weren't opened
pub slots-refuse : {D : Type 0} (disk : Ghosts D) (old new : D) (error : SlotError) → EachMoment disk (SameBut 0 0) old new
    → Now disk (λ now. RefusedBy now error) new → RefusesByCalls disk error old new → RefusesOpened disk old new (format_error_of error)
slots-refuse disk old new (Fault count) moments refused calls = λ told. inl (record { place = calls told; quiet = moments told })
slots-refuse disk old new (BadSequence slot) moments refused calls = λ told.
    let found = (refused told).1 in record {
      opened = open-before (disk.history old).now (disk.history new).now (went-now (SameBut 0 0) (disk.history old) (disk.history new) (moments told))
          (open-blank slot (disk.history new).now.seen found.two found.bad.0);
      quiet = moments told;
      clean = (refused told).0;
      calls = calls told;
    }
slots-refuse disk old new SequenceTie moments refused calls = λ told. record {
  opened = open-before (disk.history old).now (disk.history new).now (went-now (SameBut 0 0) (disk.history old) (disk.history new) (moments told))
      (open-blank 0 (disk.history new).now.seen (omega arith) (refused told).1.first);
  quiet = moments told;
  clean = (refused told).0;
  calls = calls told;
}
slots-refuse disk old new Memory moments refused calls = λ told.
    let found = (refused told).1 in record {
      opened = open-before (disk.history old).now (disk.history new).now (went-now (SameBut 0 0) (disk.history old) (disk.history new) (moments told))
          (open-blank found.0 (disk.history new).now.seen found.1 found.2.opened);
      quiet = moments told;
      clean = (refused told).0;
      calls = calls told;
    }

-- where nothing has changed each image was possible before
pub same-images : (before now : State) → SameBut 0 0 before now → Leaves (IsCrashImage before) now
same-images before now same image is = record {
  size = is.size ∙ same.bytes;
  kept = λ offset was. is.kept offset (same.clean offset (λ low. omega arith) was) ∙ same.seen offset (λ low. omega arith);
}

pub quiet-leaves : (meaning : Meaning) (old new : History) → Went (SameBut 0 0) old new → Went (LeavesFormatting meaning) old new
quiet-leaves meaning old new went =
    went-wider (SameBut 0 0) (LeavesFormatting meaning) old new (λ state same image is. inl (same-images old.now state same image is)) went

-- and behind the reading each is blank or of the new meaning
pub format-leaves : (meaning : Meaning) (old mid new : History) → Went (SameBut 0 0) old mid → IsBlank mid.now.seen
    → Went (λ before. LeavesBlankOr meaning) mid new → Went (LeavesFormatting meaning) old new
format-leaves meaning old mid new one blank two =
    went-join (SameBut 0 0) (λ before. LeavesBlankOr meaning) (LeavesFormatting meaning) old mid new one two
    (λ state same image is. inl (same-images old.now state same image is))
    (λ state same leaves image is. inr (blank-before old.now mid.now same blank, leaves image is))

-- slots of which one is the active one
whole-found : {D : Type 0} (disk : Ghosts D) (old : D) (slots : Slots D) (active : ℕ) (body : List ℕ) (older : Option (List ℕ)) (sequence : ℕ)
    → EachMoment disk (SameBut 0 0) old slots.disk → Now disk (λ now. Opens now (Whole slots active body older sequence)) slots.disk
    → AreBeside slots active body older sequence → MakesCalls disk 3 old slots.disk → disk.tells ≡ true → IsFoundOpen (disk.history old) (disk.history slots.disk)
whole-found disk old slots active body older sequence moments opens shape calls told =
    let opened = opens told in record {
      opened = open-before (disk.history old).now (disk.history slots.disk).now (went-now (SameBut 0 0) (disk.history old) (disk.history slots.disk) (moments told))
          (open-blank active (disk.history slots.disk).now.seen shape.slot opened.1.stands.opened);
      quiet = moments told;
      clean = opened.0;
      calls = calls told;
    }

pub opened-found : {D : Type 0} (disk : Ghosts D) (old : D) (opened : Opened D) (slots : Slots D) (active : ℕ) (body : List ℕ) (older : Option (List ℕ)) (sequence : ℕ)
    → opened ≡ Whole slots active body older sequence → EachMoment disk (SameBut 0 0) old (slots_of opened).disk → Now disk (λ now. Opens now opened) (slots_of opened).disk
    → HasShape opened → MakesCalls disk 3 old (slots_of opened).disk → disk.tells ≡ true → IsFoundOpen (disk.history old) (disk.history slots.disk)
opened-found disk old opened slots active body older sequence is =
    subst (λ (opened : Opened _). EachMoment disk (SameBut 0 0) old (slots_of opened).disk → Now disk (λ now. Opens now opened) (slots_of opened).disk
    → HasShape opened → MakesCalls disk 3 old (slots_of opened).disk → disk.tells ≡ true → IsFoundOpen (disk.history old) (disk.history slots.disk))
    (sym is) (whole-found disk old slots active body older sequence)
