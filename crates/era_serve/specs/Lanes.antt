-- The one lane of a session's commands: that of its first command.
use Rattle.std.specs.Prelude.{◌≡◌, ◌⊎◌, ℕ, List, [], ◌∷◌, ◌++◌, All, Option, Some, None}
use Rattle.era_model.specs.declared.command.Command.{Command}
use Rattle.era_plan.specs.Stream.{Stream, RefusedAt}
use Rattle.era_plan.specs.declared.round.LineError.{LineError}
use Rattle.era_plan.specs.declared.round.LineKind.TheVariants.{NotYet}
use Rattle.era_serve.specs.Streams.{ComesNext, GoesOnWith, all_commands}

-- The lane of the first of a session's commands, if it has one.
abbrev pub lane_of : List Command → Option ℕ
lane_of [] = None
lane_of (command ∷ commands) = Some command.id.lane

-- A command is of the lane.
abbrev pub IsOfLane : Option ℕ → Command → Type 0
IsOfLane lane command = lane ≡ Some command.id.lane

-- The first command of a round that isn't of the lane stands in this line.
pub record IsFirstElsewhere (lane : Option ℕ) (round : List Command) (line : ℕ) : Type 0 where
  pub before : List Command
  pub command : Command
  pub after : List Command
  pub split : round ≡ before ++ command ∷ after
  pub same : All (IsOfLane lane) before
  pub elsewhere : IsOfLane lane command → ⊥
  pub is : line ≡ command.line

-- Behind these rounds of a stream the next round has a command of another lane than the first command of them all, and the first such command stands in this line.
pub record LeavesLane (rounds : List (List Command)) (line : ℕ) (stream : Stream) : Type 0 where
  pub round : List Command
  pub first : IsFirstElsewhere (lane_of (all_commands rounds ++ round)) round line
  pub next : GoesOnWith rounds (ComesNext round) stream

-- A line was refused behind these rounds of a stream: it is the stream's first refused line; or the next round was read whole, and its first command of another lane stands there.
abbrev pub RefusesLine : List (List Command) → LineError → Stream → Type 0
RefusesLine rounds error stream =
    (stream ≡ record { rounds = rounds; end = RefusedAt error.line error.kind })
    ⊎ ((error.kind ≡ NotYet) × LeavesLane rounds error.line stream)
