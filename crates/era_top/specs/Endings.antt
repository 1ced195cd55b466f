-- How a session may end, with its cause, and how one went.
use Rattle.std.specs.Prelude.{◌≡◌, ◌⊎◌, ℕ, true, false, List, [], ◌∷◌, ◌++◌, take, All, Option, Some}
use Rattle.era_base.specs.declared.geometry.Geometry.{Geometry}
use Rattle.era_base.specs.CrashModel.{IsClean}
use Rattle.era_base.specs.Faults.{Rose}
use Rattle.era_line.specs.Lines.{lines_of}
use Rattle.era_model.specs.declared.command.Command.{Command}
use Rattle.era_model.specs.History.{in_flight, next_place}
use Rattle.era_model.specs.StreamLists.{IsWrittenSince}
use Rattle.era_model.specs.Transcript.{ReadToEnd, RefusedLine, SourceFault, NoMemory}
use Rattle.era_plan.specs.declared.round.LineKind.{LineKind}
use Rattle.era_plan.specs.declared.round.LineKind.TheVariants.{NotYet}
use Rattle.era_plan.specs.Kinds.{kind_text}
use Rattle.era_plan.specs.Reading.{StopsInRound}
use Rattle.era_plan.specs.Stream.{Standing, Stream, AtEnd, RefusedAt, stream_rounds, stream_from}
use Rattle.era_tools.specs.declared.status.Status.{Status}
use Rattle.era_tools.specs.declared.status.Status.TheVariants.{Done, Line, Fault, Memory, Source, Sink}
use Rattle.era_top.specs.Answered.{some_says_memory, EndInFault}
use Rattle.era_top.specs.Runs.{IsServedCommand}
use Rattle.era_top.specs.Sessions.{Session, Around, IsSession, joined, session_text, text_behind_open}
use Rattle.era_tools.specs.Printing.{Prints}

-- Rounds, and then a stream.
abbrev pub with_rounds : List (List Command) → Stream → Stream
with_rounds rounds stream = record { rounds = rounds ++ stream.rounds; end = stream.end }

-- The stream of a text is these rounds, and then that of a rest, where the reading of the text stands between two rounds.
pub record StandsBehind (rounds : List (List Command)) (text rest : List ℕ) (at : Standing) : Type 0 where
  pub between : at.round ≡ []
  pub stream : stream_rounds text ≡ with_rounds rounds (stream_from (lines_of rest) at)

-- The stream of what a source had left is so.
abbrev pub StreamIs : Option (List ℕ) → (Stream → Type 0) → Type 0
StreamIs left Is = (text : List ℕ) → left ≡ Some text → Is (stream_rounds text)

-- The rounds of a stream are these first ones, and then others of which this holds.
pub record GoesOnWith (rounds : List (List Command)) (Rest : List (List Command) → Type 0) (stream : Stream) : Type 0 where
  pub more : List (List Command)
  pub joined : stream.rounds ≡ rounds ++ more
  pub rest : Rest more

-- The round comes next.
abbrev pub ComesNext : List Command → List (List Command) → Type 0
ComesNext round more = (others : List (List Command)) × (more ≡ round ∷ others)

-- Each command of the rounds that were run went through: no write is in flight, the disk didn't fail, and with a write in range nothing is pending on it.
pub record HasDoneAll (g : Geometry) (around : Around) (session : Session) : Type 0 where
  pub quiet : in_flight session.journal ≡ []
  pub clean : around.tells ≡ true → (block : ℕ) → IsWrittenSince g (joined session.rounds) 1 block → IsClean around.disk'
  pub kept : around.disk_faults' ≡ around.disk_faults

-- The stream was read to its end, and all of its rounds were answered: nothing of the source is left, and its count of faults is as before.
pub record HasReadAll (around : Around) (session : Session) : Type 0 where
  pub stop : session.stop ≡ ReadToEnd
  pub stream : StreamIs around.left (λ stream. stream ≡ record { rounds = session.rounds; end = AtEnd })
  pub at_end : (text : List ℕ) → around.left ≡ Some text → around.left' ≡ Some []
  pub kept : around.source_faults' ≡ around.source_faults

-- The rounds that were run are the first ones of the stream. Of the last one a front was run where a write of it was cut.
pub record HasRunLast (around : Around) (session : Session) : Type 0 where
  pub before : List (List Command)
  pub round : List Command
  pub answered : ℕ
  pub rounds : session.rounds ≡ before ++ take answered round ∷ []
  pub stream : StreamIs around.left (GoesOnWith before (ComesNext round))
  pub whole : in_flight session.journal ≡ [] → take answered round ≡ round
  pub kept : around.source_faults' ≡ around.source_faults

-- No command was run, and the disk and its count of faults are as they were.
pub record HasRunNothing (around : Around) (session : Session) : Type 0 where
  pub rounds : session.rounds ≡ []
  pub no_event : next_place session.journal ≡ 0
  pub same : around.tells ≡ true → around.disk' ≡ around.disk
  pub kept : around.disk_faults' ≡ around.disk_faults

-- The first command of a round that isn't served yet stands in this line.
pub record IsFirstUnserved (round : List Command) (line : ℕ) : Type 0 where
  pub before : List Command
  pub command : Command
  pub after : List Command
  pub split : round ≡ before ++ command ∷ after
  pub served : All IsServedCommand before
  pub unserved : IsServedCommand command → ⊥
  pub is : line ≡ command.line

-- The line was refused behind these rounds of a stream, for a reason of this kind: it is the stream's first refused line; or the next round was read whole, and its first command that isn't served yet stands there.
abbrev pub RefusesLine : List (List Command) → ℕ → LineKind → Stream → Type 0
RefusesLine rounds line kind stream =
    (stream ≡ record { rounds = rounds; end = RefusedAt line kind })
    ⊎ ((kind ≡ NotYet) × ((round : List Command) × IsFirstUnserved round line × GoesOnWith rounds (ComesNext round) stream))

-- A line was refused, and the rounds before it stand.
pub record HasRefused (around : Around) (session : Session) : Type 0 where
  pub line : ℕ
  pub kind : LineKind
  pub stop : session.stop ≡ RefusedLine line (kind_text kind)
  pub stream : StreamIs around.left (RefusesLine session.rounds line kind)
  pub kept : around.source_faults' ≡ around.source_faults

-- The source failed behind rounds of a text: what is left of it goes on with a round, inside of which it failed. So each round whose last line was read before the failure is one of them.
pub record FailsBehind (rounds : List (List Command)) (text : List ℕ) (left : Option (List ℕ)) : Type 0 where
  pub rest : List ℕ
  pub at : Standing
  pub stands : StandsBehind rounds text rest at
  pub stops : StopsInRound at rest left

-- The source failed, and the rounds before stand.
pub record HasLostSource (around : Around) (session : Session) : Type 0 where
  pub stop : session.stop ≡ SourceFault around.source_faults'
  pub rose : Rose around.source_faults around.source_faults'
  pub stream : (text : List ℕ) → around.left ≡ Some text → FailsBehind session.rounds text around.left'

-- Memory for reading or for running a round was refused, and the rounds before stand.
pub record HasLackedRoom (around : Around) (session : Session) : Type 0 where
  pub stop : session.stop ≡ NoMemory
  pub stream : StreamIs around.left (GoesOnWith session.rounds (λ more. Unit {0}))
  pub kept : around.source_faults' ≡ around.source_faults

-- A session may end so, with this cause: every round answered and on the disk, each list with its blocks; the origin failed at the last command that was answered, whose reply tells the count; a line was refused; the source failed; memory was refused for a round, or for a list; the sink failed at the first line, before anything was read, or at the replies of the last round that was run.
abbrev pub EndsBy : Geometry → Around → Session → Status → Type 0
EndsBy g around session Done =
    HasDoneAll g around session × HasReadAll around session × (some_says_memory session.journal (joined session.rounds) ≡ false)
EndsBy g around session Fault =
    HasRunLast around session × EndInFault session.journal (joined session.rounds) around.disk_faults' × Rose around.disk_faults around.disk_faults'
    × (session.stop ≡ ReadToEnd)
EndsBy g around session Line = HasDoneAll g around session × HasRefused around session
EndsBy g around session Source = HasDoneAll g around session × HasLostSource around session
EndsBy g around session Memory =
    HasDoneAll g around session
    × (HasLackedRoom around session
    ⊎ (HasReadAll around session × (some_says_memory session.journal (joined session.rounds) ≡ true)))
EndsBy g around session Sink =
    (HasRunNothing around session × (around.left' ≡ around.left) × (around.source_faults' ≡ around.source_faults))
    ⊎ HasRunLast around session
EndsBy g around session status = ⊥

-- A session went so: it is one of the origin with these contents, it ended by its cause, and its text was given.
pub record Goes (g : Geometry) (contents : List ℕ) (around : Around) (given given' : Option (List ℕ)) (result : Status) : Type 0 where
  pub session : Session
  pub ended : Status
  pub right : IsSession g contents around session
  pub cause : EndsBy g around session ended
  pub printed : Prints given given' (session_text session) ended result

-- A session whose first line was given went so: as above, but for the text, which is that behind the first line.
pub record GoesOn (g : Geometry) (contents : List ℕ) (around : Around) (given given' : Option (List ℕ)) (result : Status) : Type 0 where
  pub session : Session
  pub ended : Status
  pub right : IsSession g contents around session
  pub cause : EndsBy g around session ended
  pub printed : Prints given given' (text_behind_open session) ended result
