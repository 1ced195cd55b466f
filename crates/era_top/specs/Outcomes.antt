-- The events of one command, and the reply that they give, by how the command went.
use Rattle.std.specs.Prelude.{ℕ, ◌+◌, sum_by, Bool, true, false, List, [], ◌∷◌, ◌++◌, if◌then◌else◌}
use Rattle.era_base.specs.declared.ids.CmdId.{CmdId}
use Rattle.era_model.specs.declared.command.Command.{Command}
use Rattle.era_model.specs.declared.event.Event.{Event}
use Rattle.era_model.specs.declared.event.Event.TheVariants.{Tried, Mark, Go, Done as DoneEvent, Cut as CutEvent, Roll, List as ListEvent, Refused}
use Rattle.era_model.specs.declared.event.Kind.TheVariants.{Checkpoint as CheckpointKind, List as ListKind}
use Rattle.era_model.specs.declared.event.Why.TheVariants.{End, Memory}
use Rattle.era_model.specs.Transcript.{reply_line}
use Rattle.era_top.specs.declared.outcome.Outcome.{Outcome}
use Rattle.era_top.specs.declared.outcome.Outcome.TheVariants.{OutOfRange, Done, Cut, Moved, LastEra, Listed, NoMemory}

-- How many events a command has.
abbrev pub event_count : Outcome → ℕ
event_count OutOfRange = 0
event_count (Done marks) = if marks then 4 else 2
event_count (Cut marks faults) = if marks then 4 else 2
event_count (Moved era) = 1
event_count LastEra = 1
event_count (Listed blocks) = 1
event_count NoMemory = 1

-- Whether a write was issued to the disk.
abbrev pub is_issued : Outcome → Bool
is_issued (Done marks) = true
is_issued (Cut marks faults) = true
is_issued outcome = false

-- Whether a write was cut.
abbrev pub is_cut_outcome : Outcome → Bool
is_cut_outcome (Cut marks faults) = true
is_cut_outcome outcome = false

-- Whether memory for a list was refused.
abbrev pub lacks_memory : Outcome → Bool
lacks_memory NoMemory = true
lacks_memory outcome = false

-- The era after a command: a checkpoint that moved it tells the new one.
abbrev pub era_after : ℕ → Outcome → ℕ
era_after era (Moved next) = next
era_after era outcome = era

-- The era after commands.
abbrev pub era_after_all : ℕ → List Outcome → ℕ
era_after_all era [] = era
era_after_all era (outcome ∷ outcomes) = era_after_all (era_after era outcome) outcomes

-- What the events of a command name: the command, the era in which it runs, the block of a write with the first sector within it and the bytes, and the era since which a list asks.
pub record EventSubject : Type 0 where
  pub id : CmdId
  pub era : ℕ
  pub block : ℕ
  pub first : ℕ
  pub bytes : List ℕ
  pub since : ℕ

-- The events of a write that was issued, from a place on: those of its mark come first where it marks its block.
abbrev pub ended_events : Bool → EventSubject → ℕ → Event → List (ℕ × Event)
ended_events true subject place ended =
    (place, Tried subject.id subject.block subject.era) ∷ (place + 1, Mark subject.id subject.block subject.era)
    ∷ (place + 2, Go subject.id subject.block subject.era subject.first subject.bytes) ∷ (place + 3, ended) ∷ []
ended_events false subject place ended =
    (place, Go subject.id subject.block subject.era subject.first subject.bytes) ∷ (place + 1, ended) ∷ []

-- The events of a command, each with its place.
abbrev pub outcome_events : EventSubject → ℕ → Outcome → List (ℕ × Event)
outcome_events subject place OutOfRange = []
outcome_events subject place (Done marks) = ended_events marks subject place (DoneEvent subject.id)
outcome_events subject place (Cut marks faults) = ended_events marks subject place (CutEvent subject.id faults)
outcome_events subject place (Moved era) = (place, Roll subject.id era) ∷ []
outcome_events subject place LastEra = (place, Refused subject.id CheckpointKind End) ∷ []
outcome_events subject place (Listed blocks) = (place, ListEvent subject.id subject.since false blocks) ∷ []
outcome_events subject place NoMemory = (place, Refused subject.id ListKind Memory) ∷ []

-- No command in particular: a reply doesn't depend on what its events name beside the outcome.
abbrev pub some_subject : EventSubject
some_subject = record { id = record { lane = 0; number = 0 }; era = 0; block = 0; first = 0; bytes = []; since = 0 }

-- The reply to a command, from the number of its line and the place of its first event.
abbrev pub outcome_line : ℕ → ℕ → Outcome → List ℕ
outcome_line line place outcome = reply_line line (outcome_events some_subject place outcome)

-- The replies to commands that went so, in order, the first of them with its events from a place on.
abbrev pub answers_text : ℕ → List Command → List Outcome → List ℕ
answers_text place commands [] = []
answers_text place [] (outcome ∷ outcomes) = []
answers_text place (command ∷ commands) (outcome ∷ outcomes) =
    outcome_line command.line place outcome ++ answers_text (place + event_count outcome) commands outcomes

-- How many events commands have together.
abbrev pub total_events : List Outcome → ℕ
total_events outcomes = sum_by event_count outcomes
