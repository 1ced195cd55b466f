-- The stream of what a source had left, and where rounds stand in it.
use Rattle.std.specs.Prelude.{◌≡◌, ℕ, List, [], ◌∷◌, ◌++◌, Option, Some}
use Rattle.std.specs.List.{flat_map}
use Rattle.era_line.specs.Lines.{lines_of}
use Rattle.era_model.specs.declared.command.Command.{Command}
use Rattle.era_plan.specs.Reading.{StopsInRound}
use Rattle.era_plan.specs.Stream.{Standing, Stream, stream_from, stream_rounds}

-- The commands of all rounds, in their order.
abbrev pub all_commands : List (List Command) → List Command
all_commands rounds = flat_map (λ (round : List Command). round) rounds

-- Rounds, and then a stream.
abbrev pub with_rounds : List (List Command) → Stream → Stream
with_rounds rounds stream = record { rounds = rounds ++ stream.rounds; end = stream.end }

-- The stream of a text is these rounds, and then that of a rest, where the reading of the text stands between two rounds.
pub record StandsBehind (rounds : List (List Command)) (text rest : List ℕ) (at : Standing) : Type 0 where
  pub between : at.round ≡ []
  pub stream : stream_rounds text ≡ with_rounds rounds (stream_from (lines_of rest) at)

-- The stream of what a source had left is so.
abbrev pub StreamIs : Option (List ℕ) → (Stream → Type 0) → Type 0
StreamIs left Is = (text : List ℕ) → left ≡ Some text → Is (stream_rounds text)

-- The rounds of a stream are these first ones, and then others of which this holds.
pub record GoesOnWith (rounds : List (List Command)) (Rest : List (List Command) → Type 0) (stream : Stream) : Type 0 where
  pub more : List (List Command)
  pub joined : stream.rounds ≡ rounds ++ more
  pub rest : Rest more

-- The round comes next.
abbrev pub ComesNext : List Command → List (List Command) → Type 0
ComesNext round more = (others : List (List Command)) × (more ≡ round ∷ others)

-- The rounds are the first ones of a stream.
abbrev pub AreFirst : List (List Command) → Stream → Type 0
AreFirst rounds stream = GoesOnWith rounds (λ (more : List (List Command)). Unit {0}) stream

-- The source failed behind rounds of a text: what is left of it goes on with a round, inside of which it failed. So each round whose last line was read before the failure is one of them.
pub record FailsBehind (rounds : List (List Command)) (text : List ℕ) (left : Option (List ℕ)) : Type 0 where
  pub rest : List ℕ
  pub at : Standing
  pub stands : StandsBehind rounds text rest at
  pub stops : StopsInRound at rest left
