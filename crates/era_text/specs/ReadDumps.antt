-- What a reader of dumps answers of a text, and what a source that fails leaves of it.
use Rattle.std.specs.Prelude.{◌≡◌, ℕ, ◌+◌, ◌<◌, ◌^◌, Bool, true, false, List, [], Option, Some, Result, Ok, Err, ◌⊎◌}
use Rattle.era_base.specs.Faults.{Rose}
use Rattle.era_line.specs.Lines.{lines_of}
use Rattle.era_line.specs.Reading.{BeginsLong, EndsInside, IsAhead, ReadsLine}
use Rattle.era_model.specs.MarkRuns.{AreWithin}
use Rattle.era_model.specs.Marks.{BlockMarks}
use Rattle.era_text.specs.Dumps.{ReadAs}
use Rattle.era_text.specs.FirstLine.{Head, Tells, blocks_in, is_geometry, start}
use Rattle.era_text.specs.Grammar.{RefusedAt, Whole, dump_end, line_step, rest_end}
use Rattle.era_text.specs.declared.dump_kind.DumpKind.TheVariants.{LongLine, Truncated}
use Rattle.era_text.specs.declared.line_fault.LineFault.{LineFault}
use Rattle.era_text.specs.declared.line_fault.LineFault.TheVariants.{NoMemory, Refused}
use Rattle.era_text.specs.declared.reading.Reading.{Reading}
use Rattle.era_text.specs.declared.section.Section.{Section}
use Rattle.era_text.specs.declared.section.Section.TheVariants.{Done}
use Rattle.era_text.specs.declared.text_end.TextEnd.{TextEnd}
use Rattle.era_text.specs.declared.text_end.TextEnd.TheVariants.{Line, Source, Sink, Memory}

-- The answer where the line with this number isn't taken.
abbrev pub end_of : ℕ → LineFault → TextEnd
end_of number (Refused kind) = Line number kind
end_of number NoMemory = Memory

-- The next line of a text was read, or the text has ended.
abbrev pub GivesLine : List ℕ → List ℕ → List ℕ → Option (List ℕ) → Bool → Type 0
GivesLine text line taken left true = ReadsLine text line taken left
GivesLine text line taken left false = (text ≡ []) × IsAhead taken left []

-- Why the next line of a text, with this number, wasn't read: it is too long, or the source failed inside it.
abbrev pub FailsLine : ℕ → List ℕ → Option (List ℕ) → TextEnd → Type 0
FailsLine number text left (Line line kind) = (line ≡ number) × (kind ≡ LongLine) × BeginsLong 128 text
FailsLine number text left (Source count) = EndsInside 128 text left
FailsLine number text left (Sink count) = ⊥
FailsLine number text left Memory = Unit {0}

-- The end of the input is no fault behind the line `end` alone.
abbrev pub Finishes : Section → ℕ → Result Bool TextEnd → Type 0
Finishes section number (Ok more) = (section ≡ Done) × (more ≡ false)
Finishes section number (Err end) = (section ≡ Done → ⊥) × (end ≡ Line number Truncated)

-- The first line of a text told a head, and the other lines are still to be read.
pub record ReadsHead (text : List ℕ) (head : Head) (taken : List ℕ) (left : Option (List ℕ)) : Type 0 where
  pub rest : List ℕ
  pub ahead : IsAhead taken left rest
  pub goes : dump_end (lines_of text) ≡ rest_end head (lines_of rest) 1 start

-- A line of a text was taken: as the rest goes on from here, so the text ends.
pub record TakesLine (head : Head) (number : ℕ) (text : List ℕ) (before now : Reading) (taken : List ℕ) (left : Option (List ℕ)) : Type 0 where
  pub rest : List ℕ
  pub ahead : IsAhead taken left rest
  pub goes : rest_end head (lines_of text) number before ≡ rest_end head (lines_of rest) (number + 1) now

-- The lines behind the first one were read as a whole dump, and nothing is left.
pub record ReadsRest (head : Head) (number : ℕ) (text : List ℕ) (before now : Reading) (left : Option (List ℕ)) : Type 0 where
  pub whole : rest_end head (lines_of text) number before ≡ Whole head now
  pub none : left ≡ Some []

-- The next line of a text was taken, or there is none and the dump is whole.
abbrev pub GoesOn : Head → ℕ → List ℕ → Reading → Reading → List ℕ → Option (List ℕ) → Bool → Type 0
GoesOn head number text before now taken left true = TakesLine head number text before now taken left
GoesOn head number text before now taken left false = ReadsRest head number text before now left

-- A source failed inside a line of a text: as the rest would go on from there, so the text would end.
pub record FailsLater (head : Head) (number : ℕ) (text : List ℕ) (before : Reading) (left : Option (List ℕ)) : Type 0 where
  pub now : ℕ
  pub reading : Reading
  pub rest : List ℕ
  pub goes : rest_end head (lines_of text) number before ≡ rest_end head (lines_of rest) now reading
  pub inside : EndsInside 128 rest left

-- Why lines behind the first one weren't read to their end: one was refused, or the source failed inside one.
abbrev pub FailsRest : Head → ℕ → List ℕ → Reading → Option (List ℕ) → TextEnd → Type 0
FailsRest head number text before left (Line line kind) = rest_end head (lines_of text) number before ≡ RefusedAt line kind
FailsRest head number text before left (Source count) = FailsLater head number text before left
FailsRest head number text before left (Sink count) = ⊥
FailsRest head number text before left Memory = Unit {0}

-- A source failed behind the first line of a dump text.
pub record FailsBehind (text : List ℕ) (left : Option (List ℕ)) : Type 0 where
  pub head : Head
  pub number : ℕ
  pub reading : Reading
  pub rest : List ℕ
  pub goes : dump_end (lines_of text) ≡ rest_end head (lines_of rest) number reading
  pub inside : EndsInside 128 rest left

-- Why a dump text wasn't read to its end: a line was refused, the first with a fault; or the source failed inside a line, before which none was refused.
abbrev pub FailsDump : List ℕ → Option (List ℕ) → TextEnd → Type 0
FailsDump text left (Line line kind) = dump_end (lines_of text) ≡ RefusedAt line kind
FailsDump text left (Source count) = EndsInside 128 text left ⊎ FailsBehind text left
FailsDump text left (Sink count) = ⊥
FailsDump text left Memory = Unit {0}

-- A dump text was read as marks, and nothing of it is left.
pub record ReadsDump (text : List ℕ) (left : Option (List ℕ)) (m : BlockMarks) : Type 0 where
  pub read : ReadAs (lines_of text) m
  pub none : left ≡ Some []

-- What a first line may tell: a geometry of 64 bits, and an era of 32 bits that isn't 0.
pub record IsHead (head : Head) : Type 0 where
  pub begun : 0 < head.era
  pub geometry : is_geometry head.sectors head.block_sectors ≡ true
  pub sectors_fit : head.sectors < 2 ^ 64
  pub era_fits : head.era < 2 ^ 32

-- No run of what was read is past the end of the blocks.
abbrev pub RunsAreWithin : Head → Reading → Type 0
RunsAreWithin head reading = AreWithin (blocks_in head) reading.array reading.archive reading.blocks

-- A line was taken, or nothing was where there was none.
abbrev pub HasTaken : Head → Reading → Reading → Bool → Type 0
HasTaken head before now true = (line : List ℕ) × (line_step head before line ≡ Tells now)
HasTaken head before now false = (now ≡ before) × (now.section ≡ Done)

-- What an error says of the source's count of failures: it rose where the source failed, which the answer tells, and is as it was otherwise.
abbrev pub HasFaultCause : ℕ → ℕ → TextEnd → Type 0
HasFaultCause before now (Line line kind) = now ≡ before
HasFaultCause before now (Source count) = (count ≡ now) × Rose before now
HasFaultCause before now (Sink count) = ⊥
HasFaultCause before now Memory = now ≡ before

-- The source's count of failures rose exactly where the answer says so.
abbrev pub HasTextCause : {T : Type 0} → ℕ → ℕ → Result T TextEnd → Type 0
HasTextCause before now (Ok value) = now ≡ before
HasTextCause before now (Err error) = HasFaultCause before now error
