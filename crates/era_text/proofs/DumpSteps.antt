-- What a line makes of the answer to a dump: it is taken, refused, or not read.
use Rattle.std.proofs.Common.{◌≡◌, ℕ, ◌+◌, List, [], ◌∷◌, length, refl, inl}
use Rattle.std.specs.Prelude.{Option, Some, Bool, Result, Ok, Err, MatchResult}
use Rattle.std.proofs.lemmas.Bool.{lt-ltb}
use Rattle.era_line.specs.Lines.{lines_of}
use Rattle.era_line.specs.Reading.{IsAhead, ReadsLine}
use Rattle.era_text.specs.FirstLine.{Head, Tells, first_step}
use Rattle.era_text.specs.Grammar.{RefusedAt, dump_end, input_end, line_step}
use Rattle.era_text.specs.ReadDumps.{FailsDump, FailsLine, FailsRest, Finishes, GoesOn, ReadsHead, TakesLine, end_of}
use Rattle.era_text.specs.Taking.{Faults}
use Rattle.era_text.specs.declared.dump_kind.DumpKind.TheVariants.{Truncated}
use Rattle.era_text.specs.declared.line_fault.LineFault.{LineFault}
use Rattle.era_text.specs.declared.line_fault.LineFault.TheVariants.{NoMemory, Refused}
use Rattle.era_text.specs.declared.reading.Reading.{Reading}
use Rattle.era_text.specs.declared.section.Section.{Section}
use Rattle.era_text.specs.declared.section.Section.TheVariants.{Heading, Array, Set, Current, Done}
use Rattle.era_text.specs.declared.text_end.TextEnd.{TextEnd}
use Rattle.era_text.specs.declared.text_end.TextEnd.TheVariants.{Line, Source, Sink, Memory}

-- the first line wasn't read
pub fails-head : (text : List ℕ) (left : Option (List ℕ)) (end : TextEnd) → FailsLine 1 text left end → FailsDump text left end
fails-head text left (Line line kind) fails =
    rw (fails.0, fails.1, fails.2.first, lt-ltb 128 (length fails.2.line) fails.2.long) refl
fails-head text left (Source count) fails = inl fails
fails-head text left (Sink count) fails = fails
fails-head text left Memory fails = tt

pub ends-head : (text : List ℕ) → text ≡ [] → dump_end (lines_of text) ≡ RefusedAt 1 Truncated
ends-head text none = rw none refl

-- the first line was taken
pub goes-head : (text line taken : List ℕ) (left : Option (List ℕ)) (head : Head) → ReadsLine text line taken left → first_step line ≡ Tells head
    → ReadsHead text head taken left
goes-head text line taken left head reads told = record { rest = reads.rest; ahead = reads.ahead; goes = rw (reads.first, told) refl }

-- it was refused
pub refused-head : (text line taken : List ℕ) (left : Option (List ℕ)) (fault : LineFault) → ReadsLine text line taken left → Faults (first_step line) fault
    → FailsDump text left (end_of 1 fault)
refused-head text line taken left (Refused kind) reads faults = rw (reads.first, faults) refl
refused-head text line taken left NoMemory reads faults = tt

-- a further line wasn't read
pub fails-next : (head : Head) (count : ℕ) (text : List ℕ) (reading : Reading) (left : Option (List ℕ)) (end : TextEnd) → FailsLine (count + 1) text left end
    → FailsRest head count text reading left end
fails-next head count text reading left (Line line kind) fails =
    rw (fails.0, fails.1, fails.2.first, lt-ltb 128 (length fails.2.line) fails.2.long) refl
fails-next head count text reading left (Source n) fails = record { now = count; reading = reading; rest = text; goes = refl; inside = fails }
fails-next head count text reading left (Sink n) fails = fails
fails-next head count text reading left Memory fails = tt

-- it was taken
pub goes-next : (head : Head) (count : ℕ) (text line taken : List ℕ) (reading next : Reading) (left : Option (List ℕ)) → ReadsLine text line taken left
    → line_step head reading line ≡ Tells next → TakesLine head count text reading next taken left
goes-next head count text line taken reading next left reads told = record { rest = reads.rest; ahead = reads.ahead; goes = rw (reads.first, told) refl }

-- it was refused
pub refused-next : (head : Head) (count : ℕ) (text line taken : List ℕ) (reading : Reading) (left : Option (List ℕ)) (fault : LineFault)
    → ReadsLine text line taken left → Faults (line_step head reading line) fault → FailsRest head count text reading left (end_of (count + 1) fault)
refused-next head count text line taken reading left (Refused kind) reads faults = rw (reads.first, faults) refl
refused-next head count text line taken reading left NoMemory reads faults = tt

cut-short : (section : Section) (number : ℕ) (head : Head) (reading : Reading) → (section ≡ Done → ⊥) → input_end section number head reading ≡ RefusedAt number Truncated
cut-short Heading number head reading more = refl
cut-short Array number head reading more = refl
cut-short Set number head reading more = refl
cut-short Current number head reading more = refl
cut-short Done number head reading more = absurd (more refl)

none-left : (taken : List ℕ) (left : Option (List ℕ)) → IsAhead taken left [] → left ≡ Some []
none-left [] left ahead = rw ahead.joined at ahead.told
none-left (byte ∷ taken) left ahead = let joined = ahead.joined in cc

-- the input ends
pub ends-next : (head : Head) (count : ℕ) (text taken : List ℕ) (reading : Reading) (left : Option (List ℕ)) (result : Result Bool TextEnd) → text ≡ []
    → IsAhead taken left [] → Finishes reading.section (count + 1) result
    → MatchResult result (GoesOn head count text reading reading taken left) (FailsRest head count text reading left)
ends-next head count text taken reading left (Ok more) none ahead finish =
    rw finish.1 (record { whole = rw (none, finish.0) refl; none = none-left taken left ahead })
ends-next head count text taken reading left (Err end) none ahead finish =
    rw (finish.1, none) (cut-short reading.section (count + 1) head reading finish.0)
