-- What serving the rounds of a source comes to, and why no more of them were served.
use Rattle.std.specs.Prelude.{◌≡◌, ℕ, ◌<◌, ◌≤◌, List, [], ◌∷◌, ◌++◌, length, map, Option, Some}
use Rattle.era_base.specs.declared.disk.Disk.{Ghosts}
use Rattle.era_base.specs.declared.streams.Sink.{Ghosts as SinkMembers}
use Rattle.era_base.specs.declared.streams.Source.{Ghosts as SourceMembers}
use Rattle.era_base.specs.Faults.{Rose}
use Rattle.era_base.specs.Streams.{GivesFront}
use Rattle.era_model.specs.declared.command.Command.{Command}
use Rattle.era_plan.specs.Stream.{AtEnd}
use Rattle.era_plan.specs.declared.round.LineKind.TheVariants.{NotYet}
use Rattle.era_plan.specs.declared.round.PlanError.{PlanError}
use Rattle.era_plan.specs.declared.round.PlanError.TheVariants.{Line as LineRefused, Source as SourceFailed, Memory as NoMemory}
use Rattle.era_serve.specs.Answers.{some_fault_in, some_memory_in}
use Rattle.era_serve.specs.Lanes.{RefusesLine}
use Rattle.era_serve.specs.Streams.{AreFirst, FailsBehind, StreamIs}
use Rattle.era_serve.specs.declared.replies.Replies.{Replies}
use Rattle.era_serve.specs.declared.stop.Stop.{Stop}
use Rattle.era_serve.specs.declared.stop.Stop.TheVariants.{Read, Line, Source, Memory, Sink}
use Rattle.era_serve.specs.declared.stop.Stopped.{Stopped}
use Rattle.era_served.specs.Served.{AreOfLane, HasServedAll, Served, commands_of, joined, served_text}
use Rattle.era_session.specs.Sessions.{SessionFits}
use Rattle.era_session.specs.declared.session.Session.{Session}

-- What the outside had before and behind: the bytes that were left of the source, the bytes that the sink was given, and their counts of faults.
pub record Around : Type 0 where
  pub left : Option (List ℕ)
  pub left' : Option (List ℕ)
  pub source_faults : ℕ
  pub source_faults' : ℕ
  pub given : Option (List ℕ)
  pub given' : Option (List ℕ)
  pub sink_faults : ℕ
  pub sink_faults' : ℕ

-- What a source and a sink have, by what they were before and behind.
abbrev pub around : {S K : Type 0} → SourceMembers S → SinkMembers K → S → S → K → K → Around
around source sink source_old source_new sink_old sink_new = record {
  left = source.left source_old;
  left' = source.left source_new;
  source_faults = source.faults source_old;
  source_faults' = source.faults source_new;
  given = sink.given sink_old;
  given' = sink.given sink_new;
  sink_faults = sink.faults sink_old;
  sink_faults' = sink.faults sink_new;
}

-- The commands of each round.
abbrev pub commands_in : List (List Served) → List (List Command)
commands_in rounds = map commands_of rounds

-- The stream was read to its end, and it has just these rounds: nothing of the source is left.
pub record HasReadAll (around : Around) (rounds : List (List Command)) : Type 0 where
  pub stream : StreamIs around.left (λ stream. stream ≡ record { rounds = rounds; end = AtEnd })
  pub at_end : (text : List ℕ) → around.left ≡ Some text → around.left' ≡ Some []
  pub kept : around.source_faults' ≡ around.source_faults

-- The source failed, as often in all as it tells, and each round whose last line was read before is one of these.
pub record HasLostSource (around : Around) (rounds : List (List Command)) (count : ℕ) : Type 0 where
  pub told : count ≡ around.source_faults'
  pub rose : Rose around.source_faults around.source_faults'
  pub stream : (text : List ℕ) → around.left ≡ Some text → FailsBehind rounds text around.left'

-- What the stop says of the source: which rounds it has behind those that were run, and that its count of faults rose exactly where it is the cause.
abbrev pub StopsBy : Around → List (List Command) → Stop → Type 0
StopsBy around rounds Read = HasReadAll around rounds
StopsBy around rounds (Line error) = StreamIs around.left (RefusesLine rounds error) × (around.source_faults' ≡ around.source_faults)
StopsBy around rounds (Source count) = HasLostSource around rounds count
StopsBy around rounds Memory = StreamIs around.left (AreFirst rounds) × (around.source_faults' ≡ around.source_faults)
StopsBy around rounds Sink = StreamIs around.left (AreFirst rounds) × (around.source_faults' ≡ around.source_faults)

-- The replies of all rounds were given, and the sink didn't fail.
pub record GivesAll (around : Around) (rounds : List (List Served)) : Type 0 where
  pub told : (before : List ℕ) → around.given ≡ Some before → around.given' ≡ Some (before ++ served_text (joined rounds))
  pub kept : around.sink_faults' ≡ around.sink_faults

-- The sink failed at the replies of the last round, and was given a front of them behind those of the rounds before.
pub record LosesLast (around : Around) (rounds : List (List Served)) : Type 0 where
  pub earlier : List (List Served)
  pub last : List Served
  pub split : rounds ≡ earlier ++ last ∷ []
  pub front : (before : List ℕ) → around.given ≡ Some before
      → GivesFront (before ++ served_text (joined earlier)) (served_text last) around.given'
  pub rose : Rose around.sink_faults around.sink_faults'

-- How far the replies were given, by the stop.
abbrev pub GivesReplies : Around → List (List Served) → Stop → Type 0
GivesReplies around rounds Sink = LosesLast around rounds
GivesReplies around rounds stop = GivesAll around rounds

-- What is told where serving ends so, of what the commands were answered.
abbrev pub stopped_with : Replies → Stop → Stopped
stopped_with replies stop = record { stop = stop; some_fault = replies.some_fault; some_memory = replies.some_memory }

-- How serving ends where the stream gives no further round.
abbrev pub stop_of : PlanError → Stop
stop_of (LineRefused error) = Line error
stop_of (SourceFailed count) = Source count
stop_of NoMemory = Memory

-- How it ends at a command of another lane in this line.
abbrev pub not_yet_at : ℕ → Stop
not_yet_at line = Line (record { line = line; kind = NotYet })

-- What was answered is told.
pub record TellsAnswers (served : List Served) (stopped : Stopped) : Type 0 where
  pub fault : stopped.some_fault ≡ some_fault_in served
  pub memory : stopped.some_memory ≡ some_memory_in served

-- Rounds of a source were served over a session, each of them answered before the next one was read: their commands are those of one lane, numbered from 0; no more of them were served for the cause that the stop says; and their replies were given, but for a part of the last ones where the sink failed.
pub record ServesRounds {D : Type 0} (disk : Ghosts D) (old new : Session D) (around : Around) (stopped : Stopped) : Type 0 where
  pub rounds : List (List Served)
  pub lane : ℕ
  pub served : HasServedAll disk (joined rounds) old new
  pub fits : SessionFits disk new
  pub lane_is : lane < 64
  pub of_lane : AreOfLane lane 0 (commands_of (joined rounds))
  pub few : length (joined rounds) ≤ 65536
  pub stops : StopsBy around (commands_in rounds) stopped.stop
  pub replies : GivesReplies around rounds stopped.stop
  pub answers : TellsAnswers (joined rounds) stopped
