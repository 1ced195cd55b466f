-- What a restoring of a metadata device from a dump text does and tells. A definition takes the members of the disk's trait, as `D.Disk`.
use Rattle.std.specs.Prelude.{◌≡◌, ◌⊎◌, ◌≤◌, ℕ, List, [], ◌∷◌, ◌++◌, true, Option, Some, None, Result, Ok, Err}
use Rattle.era_base.specs.Bay.{ended_loan, new_loan, NowReadsAs, SameReadsBut}
use Rattle.era_base.specs.Calls.{EachMoment, Now}
use Rattle.era_base.specs.CrashModel.{State, Leaves}
use Rattle.era_base.specs.Geometry.{need_of}
use Rattle.era_base.specs.declared.disk.Disk.{Ghosts}
use Rattle.era_model.specs.Marks.{BlockMarks, blocks_of_marks}
use Rattle.era_meta.specs.declared.refusal.MetaError.{MetaError}
use Rattle.era_meta.specs.declared.refusal.MetaError.TheVariants.{MetaSmall, Memory as MetaMemory}
use Rattle.era_meta.specs.Formatting.{marks_alone}
use Rattle.era_meta.specs.Meaning.{IsImageOf}
use Rattle.era_meta.specs.Openings.{HasOpeningCause}
use Rattle.era_meta.specs.Restoring.{LeavesRestoring, RefusesRestore}
use Rattle.era_meta.specs.Trials.{metadata_blocks}
use Rattle.era_text.specs.declared.text_end.TextEnd.{TextEnd}
use Rattle.era_tools.specs.declared.refusal.Refusal.{Refusal}
use Rattle.era_tools.specs.declared.refusal.Refusal.TheVariants.{Metadata}
use Rattle.era_tools.specs.declared.status.Status.{Status}
use Rattle.era_tools.specs.declared.status.Status.TheVariants.{Done}
use Rattle.era_tools.specs.Around.{BayAround, KeepsReads, LeavesBay}
use Rattle.era_tools.specs.ClosedImages.{IsMetadataLent, IsNotLent}
use Rattle.era_tools.specs.Printing.{Prints}
use Rattle.era_tools.specs.ReadTexts.{IsRead, IsUnread, SourceAround, end_status, end_text}
use Rattle.era_tools.specs.Refusals.{refusal_status, refusal_text}
use Rattle.era_tools.specs.ToolLines.{restored_line}

-- A disk stands for marks without a snapshot: as it reads, and after any crash.
pub record StandsForMarks (m : BlockMarks) (now : State) : Type 0 where
  pub reads : IsImageOf (marks_alone m) now.seen
  pub images : Leaves (IsImageOf (marks_alone m)) now

-- How a restoring of a disk ended: it has enough metadata blocks and stands for the marks, or it was refused so.
abbrev pub EndsRestoring : {D : Type 0} → Ghosts D → BlockMarks → D → D → Option MetaError → Type 0
EndsRestoring disk m lent back None = (need_of (blocks_of_marks m) ≤ metadata_blocks (disk.sectors lent)) × Now disk (StandsForMarks m) back
EndsRestoring disk m lent back (Some error) = RefusesRestore disk (need_of (blocks_of_marks m)) lent back error

-- A restoring ended before any call of the device: it is too small, or memory was refused.
abbrev pub IsUntouched : Option MetaError → Type 0
IsUntouched (Some (MetaSmall have need)) = Unit {0}
IsUntouched (Some MetaMemory) = Unit {0}
IsUntouched ended = ⊥

-- The metadata device was lent, restored with this end, and put back, and reads as that left it. At each moment each crash image was possible before, or is one that a restoring may leave: of a device that stood for marks it stands for those or for the new ones or is blank, of a blank one it is blank or stands for the new ones. Where the device wasn't touched it reads as before.
pub record HasRestored {D : Type 0} (disk : Ghosts D) (bay : BayAround D) (name : List ℕ) (m : BlockMarks) (lent : D) (ended : Option MetaError) : Type 0 where
  pub back : D
  pub taken : IsMetadataLent disk bay name lent
  pub loans : bay.loans' ≡ bay.loans ++ ended_loan (new_loan lent) back ∷ []
  pub moments : EachMoment disk (LeavesRestoring (marks_alone m)) lent back
  pub ends : EndsRestoring disk m lent back ended
  pub cause : HasOpeningCause (disk.faults lent) (disk.faults back) ended
  pub content : disk.tells ≡ true → NowReadsAs bay.reads' name 0 (disk.sectors lent) (disk.history back).now
  pub kept : IsUntouched ended → disk.tells ≡ true → KeepsReads bay.reads bay.reads'
  pub others : SameReadsBut name 0 (disk.sectors lent) bay.reads bay.reads'
  pub faults : bay.faults' ≡ bay.faults

-- The exact cause for which a metadata device isn't restored: it wasn't lent, or the restoring was refused, and it was put back.
abbrev pub IsUnrestored : {D : Type 0} → Ghosts D → BayAround D → List ℕ → BlockMarks → Refusal → Type 0
IsUnrestored {D} disk bay name m (Metadata error) = (lent : D) × HasRestored disk bay name m lent (Some error)
IsUnrestored disk bay name m refusal = IsNotLent bay refusal

-- A metadata device was restored, or isn't for this cause.
abbrev pub RestoresMetadata : {T D : Type 0} → Ghosts D → BayAround D → List ℕ → BlockMarks → Result T Refusal → Type 0
RestoresMetadata {T} {D} disk bay name m (Ok value) = (lent : D) × HasRestored disk bay name m lent None
RestoresMetadata disk bay name m (Err refusal) = IsUnrestored disk bay name m refusal

-- A text was read whole, the metadata device was restored with its marks, and their era was told.
pub record TellsRestored {D : Type 0} (disk : Ghosts D) (bay : BayAround D) (source : SourceAround) (name : List ℕ) (given given' : Option (List ℕ)) (result : Status) : Type 0 where
  pub marks : BlockMarks
  pub read : IsRead source marks
  pub lent : D
  pub restored : HasRestored disk bay name marks lent None
  pub printed : Prints given given' (restored_line marks.era) Done result

-- A text was read whole, and it was told why the metadata device isn't restored with its marks.
pub record TellsUnrestored {D : Type 0} (disk : Ghosts D) (bay : BayAround D) (source : SourceAround) (name : List ℕ) (given given' : Option (List ℕ)) (result : Status) : Type 0 where
  pub marks : BlockMarks
  pub read : IsRead source marks
  pub refusal : Refusal
  pub cause : IsUnrestored disk bay name marks refusal
  pub printed : Prints given given' (refusal_text refusal) (refusal_status refusal) result

-- It was told why a text wasn't read to its end. No device was lent, and the bay is as before.
pub record TellsUnread {D : Type 0} (bay : BayAround D) (source : SourceAround) (given given' : Option (List ℕ)) (result : Status) : Type 0 where
  pub ended : TextEnd
  pub cause : IsUnread source ended
  pub left : LeavesBay bay
  pub faults : bay.faults' ≡ bay.faults
  pub printed : Prints given given' (end_text ended) (end_status ended) result

-- A restoring went so.
abbrev pub RunsRestore : {D : Type 0} → Ghosts D → BayAround D → SourceAround → List ℕ → Option (List ℕ) → Option (List ℕ) → Status → Type 0
RunsRestore disk bay source name given given' result =
    TellsRestored disk bay source name given given' result
    ⊎ (TellsUnrestored disk bay source name given given' result ⊎ TellsUnread bay source given given' result)
