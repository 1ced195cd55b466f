-- How a session ends: its last lines, and its status.
use Rattle.std.specs.Prelude.{◌≡◌, ℕ, Bool, List, Option, if◌then◌else◌}
use Rattle.era_model.specs.Transcript.{Stop as Told, ReadToEnd, RefusedLine, SourceFault, NoMemory}
use Rattle.era_plan.specs.Kinds.{kind_text}
use Rattle.era_serve.specs.declared.stop.Stop.{Stop}
use Rattle.era_serve.specs.declared.stop.Stop.TheVariants.{Read, Line, Source, Memory, Sink}
use Rattle.era_serve.specs.declared.stop.Stopped.{Stopped}
use Rattle.era_tools.specs.Printing.{HasSinkCause, Prints}
use Rattle.era_tools.specs.declared.status.Status.{Status}
use Rattle.era_tools.specs.declared.status.Status.TheVariants as status

-- How the text of a session tells why it stopped. A failure of the sink isn't told.
abbrev pub told_stop : Stop → Told
told_stop Read = ReadToEnd
told_stop (Line error) = RefusedLine error.line (kind_text error.kind)
told_stop (Source count) = SourceFault count
told_stop Memory = NoMemory
told_stop Sink = ReadToEnd

-- The status of a session whose stream was read to its end: by whether an answer tells a fault, and whether one tells that memory was refused.
abbrev pub read_status : Bool → Bool → Status
read_status some_fault some_memory = if some_fault then status.Fault else (if some_memory then status.Memory else status.Done)

-- The status of a session, by how it stopped.
abbrev pub status_of : Stop → Bool → Bool → Status
status_of Read some_fault some_memory = read_status some_fault some_memory
status_of (Line error) some_fault some_memory = status.Line
status_of (Source count) some_fault some_memory = status.Source
status_of Memory some_fault some_memory = status.Memory
status_of Sink some_fault some_memory = status.Sink

-- The last lines of a session were given, and it ends by how it stopped, or by the sink's failure there.
pub record GivesEnding (given given' : Option (List ℕ)) (faults faults' : ℕ) (stopped : Stopped) (text : List ℕ) (result : Status) : Type 0 where
  pub printed : Prints given given' text (status_of stopped.stop stopped.some_fault stopped.some_memory) result
  pub cause : HasSinkCause faults faults' result

-- Nothing more was given behind a failure of the sink.
pub record EndsUngiven (given given' : Option (List ℕ)) (faults faults' : ℕ) (result : Status) : Type 0 where
  pub ended : result ≡ status.Sink
  pub same : given' ≡ given
  pub kept : faults' ≡ faults

-- How a session ends, by how it stopped.
abbrev pub PrintsEndingBy : Stop → Option (List ℕ) → Option (List ℕ) → ℕ → ℕ → Stopped → List ℕ → Status → Type 0
PrintsEndingBy Sink given given' faults faults' stopped text result = EndsUngiven given given' faults faults' result
PrintsEndingBy stop given given' faults faults' stopped text result = GivesEnding given given' faults faults' stopped text result

-- How a session ends.
abbrev pub PrintsEnding : Option (List ℕ) → Option (List ℕ) → ℕ → ℕ → Stopped → List ℕ → Status → Type 0
PrintsEnding given given' faults faults' stopped text result = PrintsEndingBy stopped.stop given given' faults faults' stopped text result
