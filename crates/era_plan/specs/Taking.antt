-- What the reader's own steps make of a line.
use Rattle.std.specs.Prelude.{◌≡◌, ℕ, ◌+◌, ◌<◌, ◌≤◌, Bool, true, List, [], ◌∷◌, ◌++◌, length, Option, Result, Ok, Err}
use Rattle.era_base.specs.declared.limits.TheConstants.{MOST_COMMANDS}
use Rattle.era_line.specs.Lines.{lines_of}
use Rattle.era_line.specs.Reading.{EndsInside, IsAhead, ReadsLine}
use Rattle.era_model.specs.declared.command.Task.{Task}
use Rattle.era_model.specs.Tasks.{IsTask, payload_of_task}
use Rattle.era_plan.specs.Reading.{HasCounted}
use Rattle.era_plan.specs.Stream.{Ends, GoOn, Goes, Refuses, Standing, Step, line_step, says_step, with_round_ended}
use Rattle.era_plan.specs.declared.counts.Counts.{Counts}
use Rattle.era_plan.specs.declared.gathering.Gathering.{Gathering}
use Rattle.era_plan.specs.declared.progress.Progress.{Progress}
use Rattle.era_plan.specs.declared.progress.Progress.TheVariants.{Goes as GoesFurther, Ends as EndsIt, Over}
use Rattle.era_plan.specs.declared.round.LineKind.{LineKind}
use Rattle.era_plan.specs.declared.round.PlanError.{PlanError}
use Rattle.era_plan.specs.declared.round.PlanError.TheVariants.{Line, Source, Memory}
use Rattle.era_plan.specs.declared.says.Says.{Says}
use Rattle.era_plan.specs.declared.says.Says.TheVariants.{Run, Does, Nothing}

-- What a line may say: a command has a lane, and a task that a line spells.
abbrev pub IsSayable : Says → Type 0
IsSayable Run = Unit {0}
IsSayable (Does lane task) = (lane < 64) × IsTask task
IsSayable (Nothing kind) = Unit {0}

-- A round isn't too big with a task.
pub record FitsRound (round : Gathering) (task : Task) : Type 0 where
  pub count : length round.commands < MOST_COMMANDS
  pub payload : round.payload + payload_of_task task ≤ 67108864

-- A session isn't too big with a task.
pub record FitsSession (counts : Counts) (task : Task) : Type 0 where
  pub count : counts.commands < 65536
  pub payload : counts.payload + payload_of_task task ≤ 268435456

-- The reading stands there, inside of a round.
pub record StandsIn (counts : Counts) (round : Gathering) (at : Standing) : Type 0 where
  pub read : counts.lines ≡ at.lines
  pub counted : HasCounted counts at.session
  pub gathered : round.commands ≡ at.round

-- The round goes on.
pub record GoesOn (step : Step) (counts : Counts) (round : Gathering) : Type 0 where
  pub next : Standing
  pub is : step ≡ Goes next
  pub stands : StandsIn counts round next

-- The round has ended.
pub record HasEnded (at : Standing) (step : Step) (counts : Counts) : Type 0 where
  pub is : step ≡ Ends (with_round_ended at)
  pub read : counts.lines ≡ at.lines + 1
  pub counted : HasCounted counts at.session

-- The refusal of the line with this number.
abbrev pub refused_line : ℕ → LineKind → PlanError
refused_line line kind = Line (record { line = line; kind = kind })

-- An error is no failure of the source.
abbrev pub IsOwn : PlanError → Type 0
IsOwn (Line error) = Unit {0}
IsOwn (Source count) = ⊥
IsOwn Memory = Unit {0}

-- A line is refused for the kind that a step says, or memory was refused.
abbrev pub RefusesLine : Standing → Step → PlanError → Type 0
RefusesLine at step (Line error) = (step ≡ Refuses error.kind) × (error.line ≡ at.lines + 1)
RefusesLine at step (Source count) = ⊥
RefusesLine at step Memory = Unit {0}

-- What a line says was taken into the round, or has ended it. Without a line the reading stands where it stood.
abbrev pub TakesTo : Standing → Step → Counts → Gathering → Progress → Type 0
TakesTo at step counts round GoesFurther = GoesOn step counts round
TakesTo at step counts round EndsIt = HasEnded at step counts × (round.commands ≡ at.round)
TakesTo at step counts round Over = StandsIn counts round at

-- What a line says was taken, or the line is refused.
abbrev pub Takes : Standing → Step → Counts → Gathering → Result Progress PlanError → Type 0
Takes at step counts round (Ok progress) = TakesTo at step counts round progress
Takes at step counts round (Err error) = RefusesLine at step error

-- A line that ends a round was taken, or is refused.
abbrev pub EndsRound : Standing → Counts → Result Progress PlanError → Type 0
EndsRound at counts (Ok progress) = (progress ≡ EndsIt) × HasEnded at (says_step at Run) counts
EndsRound at counts (Err error) = RefusesLine at (says_step at Run) error

-- Some lines of a text have ended, and the others are still to be read.
pub record StandsBehind (text : List ℕ) (ended : List (List ℕ)) (taken : List ℕ) (left : Option (List ℕ)) : Type 0 where
  pub next : List ℕ
  pub ahead : IsAhead taken left next
  pub split : lines_of text ≡ ended ++ lines_of next

-- The lines that have ended go on with a round, behind where the reading stood when it began.
pub record IsReading (at : Standing) (taken : List ℕ) (left : Option (List ℕ)) (taken' : List ℕ) (left' : Option (List ℕ)) (counts : Counts) (round : Gathering) : Type 0 where
  pub ended : List (List ℕ)
  pub now : Standing
  pub goes : GoOn ended at now
  pub stands : StandsIn counts round now
  pub behind : (text : List ℕ) → IsAhead taken left text → StandsBehind text ended taken' left'

-- What was read of a text: its first line; or it has ended.
abbrev pub ReadsTo : List ℕ → List ℕ → List ℕ → Option (List ℕ) → Progress → Type 0
ReadsTo text line taken left GoesFurther = ReadsLine text line taken left
ReadsTo text line taken left EndsIt = ReadsLine text line taken left
ReadsTo text line taken left Over = (text ≡ []) × IsAhead taken left []

-- Whether the input has ended: it has where there was no line, and where there was one this is as before.
abbrev pub IsAtEnd : Bool → Bool → Progress → Type 0
IsAtEnd before now GoesFurther = now ≡ before
IsAtEnd before now EndsIt = now ≡ before
IsAtEnd before now Over = now ≡ true

-- The first line of a text is refused.
pub record RefusesFirst (now : Standing) (text : List ℕ) (error : PlanError) : Type 0 where
  pub line : List ℕ
  pub after : List (List ℕ)
  pub first : lines_of text ≡ line ∷ after
  pub why : RefusesLine now (line_step now line) error

-- What an error says of a text, of which a line could not be taken.
abbrev pub FailsStep : Standing → List ℕ → Option (List ℕ) → PlanError → Type 0
FailsStep now text left (Line error) = RefusesFirst now text (Line error)
FailsStep now text left (Source count) = EndsInside 131200 text left
FailsStep now text left Memory = Unit {0}
