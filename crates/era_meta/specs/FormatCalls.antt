-- What formatting asks of the parts in memory, and what it did. A definition takes the members of the disk's trait, as `D.Disk`.
use Rattle.std.specs.Prelude.{◌≡◌, ℕ, ◌+◌, ◌<◌, ◌≤◌, ◌⊎◌, true, false, length, Result, Ok, Err}
use Rattle.era_base.specs.Calls.{Now, MakesCalls}
use Rattle.era_base.specs.CrashModel.{State, History, Went, Leaves, SameBut, IsClean, IsCrashImage, clock}
use Rattle.era_base.specs.Faults.{Rose}
use Rattle.era_base.specs.declared.disk.Disk.{Ghosts}
use Rattle.era_layout.specs.Root.{fields_of, numbers_from, pages_of, IsValidRoot}
use Rattle.era_model.specs.Marks.{BlockMarks, blocks_of_marks}
use Rattle.era_slots.specs.declared.slots.Slots.{Slots}
use Rattle.era_slots.specs.declared.opened.SlotError.{SlotError}
use Rattle.era_slots.specs.declared.opened.SlotError.TheVariants.{Fault as SlotFault, BadSequence, SequenceTie, Memory as SlotMemory}
use Rattle.era_slots.specs.Calls.{FailedReading, StandFor}
use Rattle.era_slots.specs.Opening.{AreBlank}
use Rattle.era_slots.specs.Slot.{IsBlank}
use Rattle.era_meta.specs.declared.formats.FormatError.{FormatError}
use Rattle.era_meta.specs.declared.formats.FormatError.TheVariants.{MetaSmall, Memory, Fault, Formatted}
use Rattle.era_meta.specs.declared.formats.FormatRefusal.{FormatRefusal}
use Rattle.era_meta.specs.declared.metadata.Meta.{Meta}
use Rattle.era_meta.specs.declared.parts.Parts.{Parts}
use Rattle.era_meta.specs.Areas.{page_count}
use Rattle.era_meta.specs.Formatting.{marks_alone}
use Rattle.era_meta.specs.InMemory.{meaning_in}
use Rattle.era_meta.specs.Meaning.{Meaning, IsImageOf}
use Rattle.era_meta.specs.MetaCalls.{IsReady}
use Rattle.era_meta.specs.Parts.{FitRoot}
use Rattle.era_meta.specs.Stored.{HasNoneLeft}
use Rattle.era_meta.specs.Trials.{metadata_blocks}

-- Parts in memory with which a blank disk is formatted: they belong together with a valid root of these marks, without a snapshot, whose pages have the numbers from 3 on.
pub record AreFirstParts (m : BlockMarks) (parts : Parts) : Type 0 where
  pub marks : parts.marks ≡ m
  pub valid : IsValidRoot (fields_of parts.root)
  pub fit : FitRoot (fields_of parts.root) parts
  pub flag : parts.root.held ≡ false
  pub none : parts.snapshot.is_held ≡ false
  pub pages : pages_of (fields_of parts.root) ≡ numbers_from 3 (page_count (blocks_of_marks m) (length m.archive))

-- How many device calls the first commit of marks makes: a write for each page, and four for the root.
abbrev pub first_calls : BlockMarks → ℕ
first_calls m = page_count (blocks_of_marks m) (length m.archive) + 4

-- The metadata stores a meaning: that is what is stored, and each crash image stands for it.
pub record StoresMeaning {D : Type 0} (meta : Meta D) (meaning : Meaning) (now : State) : Type 0 where
  pub says : meaning_in now meta ≡ meaning
  pub images : Leaves (IsImageOf meaning) now

-- A disk was formatted with marks: the metadata is ready for the next call, in memory and on the disk it has these marks and no snapshot, no failed commit has left anything, the commit has the number 1, and the pages have the numbers from 3 on.
pub record IsFormatted {D : Type 0} (disk : Ghosts D) (m : BlockMarks) (meta : Meta D) : Type 0 where
  pub ready : IsReady disk meta
  pub marks : meta.marks ≡ m
  pub none : meta.snapshot.is_held ≡ false
  pub number : meta.slots.number ≡ 1
  pub pages : pages_of (fields_of meta.root) ≡ numbers_from 3 (page_count (blocks_of_marks m) (length m.archive))
  pub stored : Now disk (StoresMeaning meta (marks_alone m)) meta.slots.disk
  pub alone : Now disk (HasNoneLeft meta.slots) meta.slots.disk

-- The disk of a formatting, in the metadata or in the refusal.
abbrev pub formatted_disk : {D : Type 0} → Result (Meta D) (FormatRefusal D) → D
formatted_disk (Ok meta) = meta.slots.disk
formatted_disk (Err refusal) = refusal.disk

-- The disk of slots that were opened to be formatted, in the slots or in the refusal.
abbrev pub blank_disk : {D : Type 0} → Result (Slots D) (FormatRefusal D) → D
blank_disk (Ok slots) = slots.disk
blank_disk (Err refusal) = refusal.disk

-- A moment of a formatting: each crash image was possible before, or where neither gate was open is blank or stands for the new meaning.
abbrev pub LeavesFormatting : Meaning → State → State → Type 0
LeavesFormatting meaning before now =
    Leaves (λ image. IsCrashImage before image ⊎ (IsBlank before.seen × (IsBlank image ⊎ IsImageOf meaning image))) now

-- Neither gate is open, and nothing is pending.
abbrev pub IsCleanBlank : State → Type 0
IsCleanBlank now = IsClean now × IsBlank now.seen

-- The slots of a disk were opened by three device calls, and neither gate is open.
pub record OpensBlank {D : Type 0} (disk : Ghosts D) (old : D) (slots : Slots D) : Type 0 where
  pub blank : AreBlank slots
  pub stands : Now disk (StandFor slots) slots.disk
  pub seen : Now disk IsCleanBlank slots.disk
  pub calls : MakesCalls disk 3 old slots.disk

-- A disk was formatted with marks on which neither gate was open, by three device calls and those of the first commit.
pub record FormatsDisk {D : Type 0} (disk : Ghosts D) (m : BlockMarks) (old : D) (meta : Meta D) : Type 0 where
  pub formatted : IsFormatted disk m meta
  pub blank : Now disk (λ now. IsBlank now.seen) old
  pub calls : MakesCalls disk (3 + first_calls m) old meta.slots.disk

-- Three device calls showed that a gate is open: nothing has changed, and nothing is pending.
pub record IsFoundOpen (old new : History) : Type 0 where
  pub opened : ¬ IsBlank old.now.seen
  pub quiet : Went (SameBut 0 0) old new
  pub clean : IsClean new.now
  pub calls : clock new ≡ clock old + 3

-- A sync or a read of the slots failed, and nothing has changed.
pub record FailsBefore {D : Type 0} (disk : Ghosts D) (old new : D) : Type 0 where
  pub place : FailedReading disk old new
  pub quiet : Went (SameBut 0 0) (disk.history old) (disk.history new)

-- A fault ended a formatting: of the first three device calls, or behind them where neither gate was open.
abbrev pub FormatFails : {D : Type 0} → Ghosts D → D → D → Type 0
FormatFails disk old new =
    FailsBefore disk old new ⊎ (IsBlank (disk.history old).now.seen × (clock (disk.history old) + 3 ≤ clock (disk.history new)))

-- What the slots of a disk that isn't formatted answer for: a fault, or an open gate.
abbrev pub RefusesOpened : {D : Type 0} → Ghosts D → D → D → FormatError → Type 0
RefusesOpened disk old new (MetaSmall have need) = ⊥
RefusesOpened disk old new Memory = ⊥
RefusesOpened disk old new (Fault count) = disk.tells ≡ true → FormatFails disk old new
RefusesOpened disk old new Formatted = disk.tells ≡ true → IsFoundOpen (disk.history old) (disk.history new)

-- Why a disk isn't formatted for an origin that needs so many metadata blocks, with the device calls that were made: too few blocks and want of memory come before any, and a fault and an open gate only where the blocks are enough.
abbrev pub RefusesFormat : {D : Type 0} → Ghosts D → ℕ → D → D → FormatError → Type 0
RefusesFormat disk least old new (MetaSmall have need) =
    (have ≡ metadata_blocks (disk.sectors old)) × (need ≡ least) × (have < need) × (new ≡ old)
RefusesFormat disk least old new Memory = (least ≤ metadata_blocks (disk.sectors old)) × (new ≡ old)
RefusesFormat disk least old new (Fault count) =
    (least ≤ metadata_blocks (disk.sectors old)) × (disk.tells ≡ true → FormatFails disk old new)
RefusesFormat disk least old new Formatted =
    (least ≤ metadata_blocks (disk.sectors old)) × (disk.tells ≡ true → IsFoundOpen (disk.history old) (disk.history new))

-- A fault is the disk's count, which rose; behind anything else none came.
abbrev pub HasFormatCause : ℕ → ℕ → FormatError → Type 0
HasFormatCause before now (MetaSmall have need) = now ≡ before
HasFormatCause before now Memory = now ≡ before
HasFormatCause before now (Fault count) = (count ≡ now) × Rose before now
HasFormatCause before now Formatted = now ≡ before

-- Why slots that weren't opened blank aren't formatted: a fault stays one, and behind anything else a gate is open.
abbrev pub format_error_of : SlotError → FormatError
format_error_of (SlotFault count) = Fault count
format_error_of (BadSequence slot) = Formatted
format_error_of SequenceTie = Formatted
format_error_of SlotMemory = Formatted
