-- What a reader of rounds answers of the text that is still to be read, and where it stands then.
use Rattle.std.specs.Prelude.{◌≡◌, ℕ, ◌+◌, ◌<◌, ◌≤◌, ◌==◌, Bool, true, List, [], ◌∷◌, ◌++◌, length, slice_index, Option, Some, None}
use Rattle.era_base.specs.declared.limits.TheConstants.{MOST_COMMANDS}
use Rattle.era_line.specs.Lines.{lines_of}
use Rattle.era_line.specs.Reading.{EndsInside, IsAhead}
use Rattle.era_model.specs.declared.command.Command.{Command}
use Rattle.era_model.specs.Tasks.{IsTask}
use Rattle.era_plan.specs.Commands.{count_of_lane, payload_of}
use Rattle.era_plan.specs.Stream.{AtEnd, GoOn, RefusedAt, Standing, no_round, stream_from, with_round}
use Rattle.era_plan.specs.declared.counts.Counts.{Counts}
use Rattle.era_plan.specs.declared.round.PlanError.{PlanError}
use Rattle.era_plan.specs.declared.round.PlanError.TheVariants.{Line, Source, Memory}
use Rattle.era_plan.specs.declared.round.Round.{Round}
use Rattle.era_plan.specs.declared.stream_reader.Lines.{Lines}

-- Whether the reader has failed: then it gives no round any more.
abbrev pub has_failed : Lines → Bool
has_failed lines = lines.failed

-- Whether the reader has come to the end of its input: then it asks the source no more.
abbrev pub has_ended : Lines → Bool
has_ended lines = lines.ended

-- The bytes that the reader took of its source and hasn't read.
abbrev pub taken_by : Lines → List ℕ
taken_by lines = lines.reader

-- A text is what is still to be read: what was taken of a source, and what the source has left. Once the input has ended there is nothing.
pub record IsStillAhead (ended : Bool) (taken : List ℕ) (left : Option (List ℕ)) (text : List ℕ) : Type 0 where
  pub ahead : IsAhead taken left text
  pub behind_end : ended ≡ true → text ≡ []

-- A text is what a reader has still to read.
abbrev pub IsToRead : Lines → Option (List ℕ) → List ℕ → Type 0
IsToRead lines left text = IsStillAhead (has_ended lines) (taken_by lines) left text

-- How many lines were read.
abbrev pub lines_read : Lines → ℕ
lines_read lines = lines.counts.lines

-- Counts are those of the commands of a session, in all and in each lane.
pub record HasCounted (counts : Counts) (session : List Command) : Type 0 where
  pub commands : counts.commands ≡ length session
  pub payload : counts.payload ≡ payload_of session
  pub lanes : (lane : ℕ) → lane < 64 → slice_index counts.lanes lane ≡ count_of_lane lane session

-- So much was read of a session, within its limits.
pub record IsWithinLimits (at : Standing) : Type 0 where
  pub lines : at.lines ≤ 131072
  pub commands : length at.session ≤ 65536
  pub payload : payload_of at.session ≤ 268435456

-- Counts are those of where a reading stands between two rounds.
pub record IsBetween (counts : Counts) (at : Standing) : Type 0 where
  pub read : counts.lines ≡ at.lines
  pub counted : HasCounted counts at.session
  pub between : at.round ≡ []
  pub limits : IsWithinLimits at

-- A reader stands there, between two rounds.
abbrev pub StandsAt : Lines → Standing → Type 0
StandsAt lines at = IsBetween lines.counts at

-- A command stands in a line behind so many, and is the next one of its lane in the session.
pub record IsNext (lines : ℕ) (session : List Command) (command : Command) : Type 0 where
  pub later : lines < command.line
  pub lane : command.id.lane < 64
  pub numbered : command.id.number ≡ count_of_lane command.id.lane session
  pub task : IsTask command.task

-- Commands stand one behind the other, each of them the next one of its lane.
abbrev pub AreNext : ℕ → List Command → List Command → Type 0
AreNext lines session [] = Unit {0}
AreNext lines session (command ∷ commands) = IsNext lines session command × AreNext command.line (session ++ command ∷ []) commands

-- Commands are a round of a session, behind where the reading stood: within the limits of a round.
pub record IsRound (at : Standing) (commands : List Command) : Type 0 where
  pub order : AreNext at.lines at.session commands
  pub count : length commands ≤ MOST_COMMANDS
  pub payload : payload_of commands ≤ 67108864

-- Where the reading stands between a round and the next one.
abbrev pub behind_round : Standing → List Command → ℕ → Standing
behind_round at round lines = record { lines = lines; session = at.session ++ round; round = [] }

-- A round was given, whatever the source tells: the reading stands behind it.
pub record HasGivenRound (at : Standing) (commands : List Command) (counts : Counts) : Type 0 where
  pub is : IsRound at commands
  pub stands : IsBetween counts (behind_round at commands counts.lines)
  pub later : at.lines < counts.lines

-- What was given, whatever the source tells: a round; or none, and the reader stands where it stood.
abbrev pub HasGiven : Standing → Lines → Option Round → Type 0
HasGiven at lines None = StandsAt lines at
HasGiven at lines (Some round) = HasGivenRound at round.commands lines.counts

-- Whether the input has ended, by what was given: it has where there is no round, and with a round exactly where the lines of this one are its commands alone, so that no line ended it.
abbrev pub TellsEnd : Standing → Lines → Option Round → Type 0
TellsEnd at lines None = has_ended lines ≡ true
TellsEnd at lines (Some round) = has_ended lines ≡ (lines_read lines == at.lines + length round.commands)

-- A round of a text was read: the text's stream is this round, and then the stream of the rest.
pub record ReadsRound (at : Standing) (text : List ℕ) (commands : List Command) (lines : ℕ) (ended : Bool) (taken : List ℕ) (left : Option (List ℕ)) : Type 0 where
  pub rest : List ℕ
  pub ahead : IsStillAhead ended taken left rest
  pub goes : stream_from (lines_of text) at ≡ with_round commands (stream_from (lines_of rest) (behind_round at commands lines))

-- A text has no further round, and it has ended.
pub record HasNoRound (at : Standing) (text taken : List ℕ) (left : Option (List ℕ)) : Type 0 where
  pub none : stream_from (lines_of text) at ≡ no_round AtEnd
  pub ahead : IsAhead taken left []

-- What a reader gives of a text: its next round, or that it has none.
abbrev pub GivesRound : Standing → List ℕ → Lines → Option (List ℕ) → Option Round → Type 0
GivesRound at text lines left None = HasNoRound at text (taken_by lines) left
GivesRound at text lines left (Some round) = ReadsRound at text round.commands (lines_read lines) (has_ended lines) (taken_by lines) left

-- A source failed inside a round of a text: the lines that ended in front of the failed call go on with the round, and it failed inside the next one.
pub record StopsInRound (at : Standing) (text : List ℕ) (left : Option (List ℕ)) : Type 0 where
  pub ended : List (List ℕ)
  pub now : Standing
  pub goes : GoOn ended at now
  pub next : List ℕ
  pub split : lines_of text ≡ ended ++ lines_of next
  pub inside : EndsInside 131200 next left

-- What an error says of a text. Where a line is refused, the text's stream has no further round and ends by it. A source that failed did so inside the round, so that no call stands between a line that ends a round and the answer.
abbrev pub FailsRound : Standing → List ℕ → Option (List ℕ) → PlanError → Type 0
FailsRound at text left (Line error) = stream_from (lines_of text) at ≡ no_round (RefusedAt error.line error.kind)
FailsRound at text left (Source count) = StopsInRound at text left
FailsRound at text left Memory = Unit {0}
