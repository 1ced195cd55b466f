-- The rounds that a stream spells, one after the other, and its first refused line.
use Rattle.std.specs.Prelude.{◌≡◌, ℕ, ◌+◌, ◌||◌, nat_lt, nat_le, Bool, List, [], ◌∷◌, ◌++◌, length, if◌then◌else◌}
use Rattle.era_base.specs.declared.limits.TheConstants.{MOST_COMMANDS}
use Rattle.era_line.specs.Lines.{lines_of}
use Rattle.era_model.specs.declared.command.Command.{Command}
use Rattle.era_model.specs.declared.command.Task.{Task}
use Rattle.era_model.specs.Tasks.{payload_of_task}
use Rattle.era_plan.specs.Commands.{payload_of, count_of_lane}
use Rattle.era_plan.specs.Forms.{line_says}
use Rattle.era_plan.specs.declared.round.LineKind.{LineKind}
use Rattle.era_plan.specs.declared.round.LineKind.TheVariants.{RoundBig, TooMany}
use Rattle.era_plan.specs.declared.says.Says.{Says}
use Rattle.era_plan.specs.declared.says.Says.TheVariants.{Run, Does, Nothing}

-- Where the reading of a stream stands: how many lines were read, the commands of the session so far, and those of them that stand in the round that is being read.
pub record Standing : Type 0 where
  pub lines : ℕ
  pub session : List Command
  pub round : List Command

-- Nothing was read.
abbrev pub at_beginning : Standing
at_beginning = record { lines = 0; session = []; round = [] }

-- The command of a lane in the next line. Its number is that of the commands of its lane before it, in all rounds of the session.
abbrev pub next_command : Standing → ℕ → Task → Command
next_command at lane task = record {
  line = at.lines + 1;
  id = record { lane = lane; number = count_of_lane lane at.session };
  task = task;
}

-- Where the reading stands behind a command in the next line.
abbrev pub with_command : Standing → Command → Standing
with_command at command = record {
  lines = at.lines + 1;
  session = at.session ++ command ∷ [];
  round = at.round ++ command ∷ [];
}

-- Where it stands behind a round that a line ended.
abbrev pub with_round_ended : Standing → Standing
with_round_ended at = record { lines = at.lines + 1; session = at.session; round = [] }

-- With this task a round would have more than 4,096 commands, or more than 67,108,864 bytes.
abbrev pub is_round_big : List Command → Task → Bool
is_round_big round task =
    nat_le MOST_COMMANDS (length round) || nat_lt 67108864 (payload_of round + payload_of_task task)

-- With this task a session would have more than 65,536 commands, or more than 268,435,456 bytes.
abbrev pub is_session_big : List Command → Task → Bool
is_session_big session task =
    nat_le 65536 (length session) || nat_lt 268435456 (payload_of session + payload_of_task task)

-- What a line makes of the stream: the round goes on, it has ended, or the line is refused.
pub data Step : Type 0 where
  Goes : (next : Standing) → Step
  Ends : (next : Standing) → Step
  Refuses : (kind : LineKind) → Step

-- A step, unless a fault makes that the line is refused.
abbrev pub unless : Bool → LineKind → Step → Step
unless fault kind step = if fault then Refuses kind else step

-- What a line makes of the stream, by what it says. The order of the tests is the order of the kinds, and the number of the line is tested last.
abbrev pub says_step : Standing → Says → Step
says_step at Run = unless (nat_le 131072 at.lines) TooMany (Ends (with_round_ended at))
says_step at (Does lane task) =
    unless (is_round_big at.round task) RoundBig
    (unless (nat_le 131072 at.lines || is_session_big at.session task) TooMany
    (Goes (with_command at (next_command at lane task))))
says_step at (Nothing kind) = Refuses kind

-- What a line makes of the stream.
abbrev pub line_step : Standing → List ℕ → Step
line_step at line = says_step at (line_says line)

-- How a stream ends: with its input, or by its first refused line, with the line's number counted from 1 and its kind.
pub data StreamEnd : Type 0 where
  AtEnd : StreamEnd
  RefusedAt : (line : ℕ) (kind : LineKind) → StreamEnd

-- A stream: its rounds one after the other, and how it ends.
pub record Stream : Type 0 where
  pub rounds : List (List Command)
  pub end : StreamEnd

-- No round.
abbrev pub no_round : StreamEnd → Stream
no_round end = record { rounds = []; end = end }

-- A round, and then a stream.
abbrev pub with_round : List Command → Stream → Stream
with_round round stream = record { rounds = round ∷ stream.rounds; end = stream.end }

-- What the end of the input makes of the round that is being read: it is the last one, unless it has no command.
abbrev pub input_end : List Command → Stream
input_end [] = no_round AtEnd
input_end (command ∷ commands) = with_round (command ∷ commands) (no_round AtEnd)

-- The stream from a line on, where the lines behind it go on so. Of the round of a refused line nothing is run.
abbrev pub after_step : Standing → (Standing → Stream) → Step → Stream
after_step at behind (Goes next) = behind next
after_step at behind (Ends next) = with_round at.round (behind next)
after_step at behind (Refuses kind) = no_round (RefusedAt (at.lines + 1) kind)

-- The stream that these lines go on with.
abbrev pub stream_from : List (List ℕ) → Standing → Stream
stream_from [] at = input_end at.round
stream_from (line ∷ lines) at = after_step at (λ next. stream_from lines next) (line_step at line)

-- The stream of a text: the rounds that it spells, or those before its first refused line.
abbrev pub stream_rounds : List ℕ → Stream
stream_rounds text = stream_from (lines_of text) at_beginning

-- Lines go on with a round: none of them ends it or is refused, and the reading stands there behind them.
abbrev pub GoOn : List (List ℕ) → Standing → Standing → Type 0
GoOn [] at now = now ≡ at
GoOn (line ∷ lines) at now = (next : Standing) × (line_step at line ≡ Goes next) × GoOn lines next now
