-- Small streams that are worked out by hand.
use Rattle.std.specs.Prelude.{◌≡◌, ℕ, List, []}
use Rattle.era_model.specs.declared.command.Command.{Command}
use Rattle.era_model.specs.declared.command.Request.{Request}
use Rattle.era_model.specs.declared.command.Task.TheVariants.{Ask}
use Rattle.era_plan.specs.Stream.{AtEnd, RefusedAt, stream_rounds}
use Rattle.era_plan.specs.declared.round.LineKind.{LineKind}

-- The request of a lane in a line, with its number in the lane.
abbrev pub asked : ℕ → ℕ → ℕ → Request → Command
asked line lane number request = record { line = line; id = record { lane = lane; number = number }; task = Ask request }

-- A text spells these rounds, and its input ends behind them.
abbrev pub IsWhole : List ℕ → List (List Command) → Type 0
IsWhole text rounds = stream_rounds text ≡ record { rounds = rounds; end = AtEnd }

-- A text spells these rounds, and then a line is refused for a kind.
abbrev pub IsRefusedBehind : List ℕ → List (List Command) → ℕ → LineKind → Type 0
IsRefusedBehind text rounds line kind = stream_rounds text ≡ record { rounds = rounds; end = RefusedAt line kind }

-- The first line of a text is refused for a kind.
abbrev pub IsRefused : List ℕ → LineKind → Type 0
IsRefused text kind = IsRefusedBehind text [] 1 kind
