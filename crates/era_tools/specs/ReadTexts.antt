-- A dump text that a tool reads from a source: what was read of it, or why it wasn't read to its end.
use Rattle.std.specs.Prelude.{◌≡◌, ℕ, List, [], Option, Some}
use Rattle.era_base.specs.declared.streams.Source.{Ghosts as SourceMembers}
use Rattle.era_line.specs.Reading.{LeavesRest}
use Rattle.era_model.specs.Marks.{BlockMarks}
use Rattle.era_text.specs.DumpLaws.{AreReadable}
use Rattle.era_text.specs.ReadDumps.{FailsDump, HasFaultCause, ReadsDump}
use Rattle.era_text.specs.declared.text_end.TextEnd.{TextEnd}
use Rattle.era_text.specs.declared.text_end.TextEnd.TheVariants as end
use Rattle.era_tools.specs.declared.status.Status.{Status}
use Rattle.era_tools.specs.declared.status.Status.TheVariants.{Line, Memory, Source, Sink}
use Rattle.era_tools.specs.ToolLines.{memory_line, refused_dump_line, source_fault_line}

-- A source around a call: the bytes that are left, and the count of faults.
pub record SourceAround : Type 0 where
  pub left : Option (List ℕ)
  pub left' : Option (List ℕ)
  pub faults : ℕ
  pub faults' : ℕ

-- A source around a call, by what it was when the call began and when it returned.
abbrev pub source_around : {S : Type 0} → SourceMembers S → S → S → SourceAround
source_around source old new = record {
  left = source.left old;
  left' = source.left new;
  faults = source.faults old;
  faults' = source.faults new;
}

-- A reading of a text ends for such a reason: a sink has no part in it.
abbrev pub IsOfReading : TextEnd → Type 0
IsOfReading (end.Sink count) = ⊥
IsOfReading other = Unit {0}

-- The line that tells why a text wasn't read to its end.
abbrev pub end_text : TextEnd → List ℕ
end_text (end.Line number kind) = refused_dump_line number kind
end_text (end.Source count) = source_fault_line count
end_text (end.Sink count) = []
end_text end.Memory = memory_line

-- The status that a run ends with by it.
abbrev pub end_status : TextEnd → Status
end_status (end.Line number kind) = Line
end_status (end.Source count) = Source
end_status (end.Sink count) = Sink
end_status end.Memory = Memory

-- A source's text was read to its end as marks, which are those of a metadata image, and nothing of it is left.
pub record IsRead (source : SourceAround) (m : BlockMarks) : Type 0 where
  pub told : (text : List ℕ) → source.left ≡ Some text → ReadsDump text source.left' m
  pub valid : AreReadable m
  pub faults : source.faults' ≡ source.faults

-- The exact cause for which a source's text wasn't read to its end: its first line with a fault was refused, the source failed before one was found, or memory was refused.
pub record IsUnread (source : SourceAround) (ended : TextEnd) : Type 0 where
  pub told : (text : List ℕ) → source.left ≡ Some text → FailsDump text source.left' ended
  pub rest : LeavesRest source.left source.left'
  pub cause : HasFaultCause source.faults source.faults' ended
