-- What an opening answers, and why.
use Rattle.std.specs.Prelude.{◌≡◌, ℕ, ◌<◌, ◌↔◌, true, false, List, length, Option, IsSome, IfSome, Result, Ok, Err, MatchOption, MatchResult, slice_index, drop}
use Rattle.era_base.specs.CrashModel.{State, IsClean}
use Rattle.era_base.specs.Faults.{Rose}
use Rattle.era_base.specs.Calls.{MakesCalls}
use Rattle.era_base.specs.declared.disk.Disk.{Ghosts}
use Rattle.era_slots.specs.Calls.{FailsToRead}
use Rattle.era_slots.specs.declared.slots.Slots.{Slots}
use Rattle.era_slots.specs.declared.opened.Opened.{Opened}
use Rattle.era_slots.specs.declared.opened.Opened.TheVariants.{Blank, Whole}
use Rattle.era_slots.specs.declared.opened.SlotError.{SlotError}
use Rattle.era_slots.specs.declared.opened.SlotError.TheVariants.{Fault, BadSequence, SequenceTie, Memory}
use Rattle.era_slots.specs.declared.opened.SlotRefusal.{SlotRefusal}
use Rattle.era_slots.specs.declared.heads.Found.{Found}
use Rattle.era_slots.specs.declared.heads.Found.TheVariants.{NoneOpen, BadSequence as FoundBad, Tied, Active}
use Rattle.era_slots.specs.Slot.{other, SlotIsOpen, SlotIsClosed, commit_number, body_of, page_of, IsCommitNumber, IsBlank, HasBadNumber, IsTied, IsActive}

-- The slots of an opened disk.
abbrev pub slots_of : {D : Type 0} → Opened D → Slots D
slots_of (Blank slots) = slots
slots_of (Whole slots active body older sequence) = slots

-- The disk of an opening, in the slots or in the refusal.
abbrev pub disk_opened : {D : Type 0} → Result (Opened D) (SlotRefusal D) → D
disk_opened (Ok opened) = (slots_of opened).disk
disk_opened (Err refusal) = refusal.disk

-- The disk of a wiping, in the slots or in the refusal.
abbrev pub disk_wiped : {D : Type 0} → Result (Slots D) (SlotRefusal D) → D
disk_wiped (Ok slots) = slots.disk
disk_wiped (Err refusal) = refusal.disk

-- Slots of a disk without a committed body: the first commit goes to slot 0, whose gate is known to be closed.
pub record AreBlank {D : Type 0} (slots : Slots D) : Type 0 where
  pub target : slots.target ≡ 0
  pub number : slots.number ≡ 0
  pub closed : slots.may_be_open ≡ false

-- Slots beside an active one, its body and its number, and the body under the other gate, if there is one.
pub record AreBeside {D : Type 0} (slots : Slots D) (active : ℕ) (content : List ℕ) (older : Option (List ℕ)) (sequence : ℕ) : Type 0 where
  pub slot : active < 2
  pub target : slots.target ≡ other active
  pub number : slots.number ≡ sequence
  pub numbered : IsCommitNumber sequence
  pub size : length content ≡ 3576
  pub older_size : IfSome older (λ bytes. length bytes ≡ 3576)
  pub older_open : (slots.may_be_open ≡ true) ↔ IsSome older

-- What each opening gives, whatever the disk tells.
abbrev pub HasShape : {D : Type 0} → Opened D → Type 0
HasShape (Blank slots) = AreBlank slots
HasShape (Whole slots active body older sequence) = AreBeside slots active body older sequence

-- The body under the other gate is given exactly where that gate is open.
abbrev pub IsOther : ℕ → List ℕ → Option (List ℕ) → Type 0
IsOther slot seen older = MatchOption older (SlotIsClosed slot seen)
    (λ bytes. SlotIsOpen slot seen × (bytes ≡ body_of slot seen))

-- A slot is the active one, and its number and its body are given, and the other body that is open.
pub record OpensWhole {D : Type 0} (seen : List ℕ) (slots : Slots D) (active : ℕ) (content : List ℕ) (older : Option (List ℕ)) (sequence : ℕ) : Type 0 where
  pub stands : IsActive active seen
  pub may_be_open : (slots.may_be_open ≡ true) ↔ SlotIsOpen (other active) seen
  pub body : content ≡ body_of active seen
  pub beside : IsOther (other active) seen older
  pub numbered : sequence ≡ commit_number active seen

-- What an opening found.
abbrev pub Opens : {D : Type 0} → State → Opened D → Type 0
Opens now (Blank slots) = IsClean now × IsBlank now.seen
Opens now (Whole slots active body older sequence) = IsClean now × OpensWhole now.seen slots active body older sequence

-- The slot is the first one that is open over a number that no commit has.
pub record HasFirstBadNumber (slot : ℕ) (seen : List ℕ) : Type 0 where
  pub two : slot < 2
  pub bad : HasBadNumber slot seen
  pub first : slot ≡ 1 → ¬ HasBadNumber 0 seen

-- Why an opening was refused by what the disk holds. Memory is refused only where a slot is the active one.
abbrev pub RefusedBy : State → SlotError → Type 0
RefusedBy now (Fault count) = Unit {0}
RefusedBy now (BadSequence slot) = IsClean now × HasFirstBadNumber slot now.seen
RefusedBy now SequenceTie = IsClean now × IsTied now.seen
RefusedBy now Memory = IsClean now × ((slot : ℕ) × (slot < 2) × IsActive slot now.seen)

-- What an opening answers of the state that the disk is in then.
abbrev pub OpensOrRefuses : {D : Type 0} → Result (Opened D) (SlotRefusal D) → State → Type 0
OpensOrRefuses result now = MatchResult result (Opens now) (λ refusal. RefusedBy now refusal.error)

-- A fault is the disk's count, which rose; for another refusal none came.
abbrev pub HasFaultCause : ℕ → ℕ → SlotError → Type 0
HasFaultCause before now (Fault count) = (count ≡ now) × Rose before now
HasFaultCause before now (BadSequence slot) = now ≡ before
HasFaultCause before now SequenceTie = now ≡ before
HasFaultCause before now Memory = now ≡ before

-- What two slots are together, by the bytes of the disk.
abbrev pub IsFoundIn : List ℕ → Found → Type 0
IsFoundIn seen NoneOpen = IsBlank seen
IsFoundIn seen (FoundBad slot) = HasFirstBadNumber slot seen
IsFoundIn seen Tied = IsTied seen
IsFoundIn seen (Active slot) = (slot < 2) × IsActive slot seen

-- The number of the active slot, by the bytes of both slots, is one that a commit may have.
abbrev pub HasNumber : List ℕ → List ℕ → Found → Type 0
HasNumber first second NoneOpen = Unit {0}
HasNumber first second (FoundBad slot) = Unit {0}
HasNumber first second Tied = Unit {0}
HasNumber first second (Active slot) = (slot < 2) × (slot ≡ 0 → IsCommitNumber (commit_number 0 first))
    × (slot ≡ 1 → IsCommitNumber (commit_number 0 second))

-- The bytes of an active slot and of the other one are what the disk has there, and nothing is pending.
pub record AreRead (active : ℕ) (own beside : List ℕ) (now : State) : Type 0 where
  pub clean : IsClean now
  pub stands : IsActive active now.seen
  pub own_page : own ≡ page_of active now.seen
  pub other_page : beside ≡ page_of (other active) now.seen

-- The bodies of two slots of these bytes: that of the active one, and the other one, if its gate is open.
pub record AreBodies (active beside content : List ℕ) (older : Option (List ℕ)) : Type 0 where
  pub body : content ≡ drop 520 active
  pub beside_open : MatchOption older (¬ (slice_index beside 0 ≡ 1)) (λ bytes. (slice_index beside 0 ≡ 1) × (bytes ≡ drop 520 beside))

-- The device calls of an opening that was refused: a sync and two reads, or those up to the one that failed.
abbrev pub RefusesByCalls : {D : Type 0} → Ghosts D → SlotError → D → D → Type 0
RefusesByCalls disk (Fault count) old new = FailsToRead disk old new
RefusesByCalls disk (BadSequence slot) old new = MakesCalls disk 3 old new
RefusesByCalls disk SequenceTie old new = MakesCalls disk 3 old new
RefusesByCalls disk Memory old new = MakesCalls disk 3 old new

-- The device calls of an opening: a sync and two reads, whatever they show, or those up to the one that failed.
abbrev pub OpensByCalls : {D : Type 0} → Ghosts D → D → Result (Opened D) (SlotRefusal D) → Type 0
OpensByCalls disk old (Ok opened) = MakesCalls disk 3 old (slots_of opened).disk
OpensByCalls disk old (Err refusal) = RefusesByCalls disk refusal.error old refusal.disk
