-- Runs of a stream's commands: the events that each of them has, and the journal of them all.
use Rattle.std.specs.Prelude.{◌≡◌, ◌⊎◌, ◌↔◌, ℕ, ◌+◌, ◌/◌, ◌<◌, ◌≤◌, max, Bool, true, false, List, [], ◌∷◌, length, map, Option, Some, None}
use Rattle.std.specs.List.{list_any}
use Rattle.era_base.specs.Flags.{has}
use Rattle.era_base.specs.declared.geometry.Geometry.{Geometry}
use Rattle.era_base.specs.declared.ids.CmdId.{CmdId}
use Rattle.era_base.specs.Geometry.{blocks_of, place_at}
use Rattle.era_model.specs.declared.history.Happening.{Happening}
use Rattle.era_model.specs.Changed.{IsCrashContent}
use Rattle.era_model.specs.declared.command.Command.{Command}
use Rattle.era_model.specs.Commands.{events_of}
use Rattle.era_model.specs.Counts.{FaultyDisk, CountsAreWithin, last_count}
use Rattle.era_model.specs.Events.{is_go_of}
use Rattle.era_model.specs.History.{at_opening, era_of, in_flight, is_open, next_place}
use Rattle.era_model.specs.Journal.{session_opening}
use Rattle.era_model.specs.Legal.{IsLegal}
use Rattle.era_model.specs.Marking.{is_marked_in, journal_last_era, some_event}
use Rattle.era_model.specs.Marks.{BlockMarks, marks_last_era}
use Rattle.era_model.specs.SessionRun.{AreAllDrawnBy}
use Rattle.era_model.specs.StreamLists.{era_behind, IsWrittenSince, ListsNameWritten}
use Rattle.era_model.specs.Validity.{AreValidMarks}
use Rattle.era_model.specs.Writes.{block_bytes}
use Rattle.era_model.specs.Tasks.{IsPayload}
use Rattle.era_model.specs.declared.command.Request.TheVariants.{Checkpoint, List as ListRequest}
use Rattle.era_model.specs.declared.command.Task.{Task}
use Rattle.era_model.specs.declared.command.Task.TheVariants.{Write as WriteTask, Ask}
use Rattle.era_top.specs.declared.outcome.Outcome.{Outcome}
use Rattle.era_top.specs.declared.outcome.Outcome.TheVariants.{OutOfRange, Moved, LastEra, Listed, NoMemory}
use Rattle.era_top.specs.Outcomes.{EventSubject, era_after, era_after_all, event_count, is_cut_outcome, is_issued, lacks_memory, outcome_events}

-- The command of lane 0 with the number.
abbrev pub lane_zero : ℕ → CmdId
lane_zero number = record { lane = 0; number = number }

-- The command of lane 0 with this number, as it stands in a stream of commands alone: in the line behind as many.
abbrev pub command_of : ℕ → Task → Command
command_of number task = record { line = number + 1; id = lane_zero number; task = task }

-- A task is served yet: a write of 1 to 128 whole sectors, a checkpoint, or a list by the marks.
abbrev pub IsServedTask : Task → Type 0
IsServedTask (WriteTask sector bytes) = IsPayload (length bytes)
IsServedTask (Ask Checkpoint) = Unit {0}
IsServedTask (Ask (ListRequest since false)) = Unit {0}
IsServedTask task = ⊥

-- A command is served yet: one of lane 0, whose task is.
pub record IsServedCommand (command : Command) : Type 0 where
  pub lane : command.id.lane ≡ 0
  pub task : IsServedTask command.task

-- What a write of a stream asks for: these bytes, from this sector on.
pub record Write : Type 0 where
  pub sector : ℕ
  pub bytes : List ℕ

-- The task that asks for a write.
abbrev pub task_of_write : Write → Task
task_of_write write = WriteTask write.sector write.bytes

-- The commands of tasks, one after another, the first of them with this index in the input.
abbrev pub commands_from : ℕ → List Task → List Command
commands_from index [] = []
commands_from index (task ∷ tasks) = command_of index task ∷ commands_from (index + 1) tasks

-- Commands of lane 0 are numbered one after another, the first of them with this number, in whatever lines they stand.
abbrev pub AreNumbered : ℕ → List Command → Type 0
AreNumbered number [] = Unit {0}
AreNumbered number (command ∷ commands) = (command.id ≡ lane_zero number) × AreNumbered (number + 1) commands

-- What commands do, in their order.
abbrev pub tasks_of : List Command → List Task
tasks_of commands = map (λ command. command.task) commands

-- The block of a write and the first sector within it, or none where its sectors lie in no one block.
abbrev pub place_of_write : Geometry → Write → Option (ℕ × ℕ)
place_of_write g write = place_at g.sectors g.block_sectors write.sector (length write.bytes / 512)

-- A write has no events exactly where it is out of range.
abbrev pub FitsPlace : Option (ℕ × ℕ) → Outcome → Type 0
FitsPlace None outcome = outcome ≡ OutOfRange
FitsPlace (Some place) outcome = is_issued outcome ≡ true

-- A list names blocks, or memory for it was refused.
abbrev pub FitsList : Outcome → Type 0
FitsList (Listed blocks) = Unit {0}
FitsList NoMemory = Unit {0}
FitsList outcome = ⊥

-- A task may go so in the era: a checkpoint moves to the next one, or the era is the last one. No other task is served.
abbrev pub FitsTask : Geometry → ℕ → Task → Outcome → Type 0
FitsTask g era (WriteTask sector bytes) outcome = FitsPlace (place_of_write g (record { sector = sector; bytes = bytes })) outcome
FitsTask g era (Ask Checkpoint) outcome = (outcome ≡ Moved (era + 1)) ⊎ (outcome ≡ LastEra)
FitsTask g era (Ask (ListRequest since false)) outcome = FitsList outcome
FitsTask g era task outcome = ⊥

-- What the events of a write with this number name, by its place.
abbrev pub subject_of_write : ℕ → ℕ → Write → Option (ℕ × ℕ) → EventSubject
subject_of_write number era write None =
    record { id = lane_zero number; era = era; block = 0; first = 0; bytes = write.bytes; since = 0 }
subject_of_write number era write (Some place) =
    record { id = lane_zero number; era = era; block = place.0; first = place.1; bytes = write.bytes; since = 0 }

-- What the events of a command with this number name, that runs in this era.
abbrev pub subject_of : Geometry → ℕ → ℕ → Task → EventSubject
subject_of g number era (WriteTask sector bytes) =
    let write : Write = record { sector = sector; bytes = bytes } in subject_of_write number era write (place_of_write g write)
subject_of g number era (Ask (ListRequest since snap)) = record { id = lane_zero number; era = era; block = 0; first = 0; bytes = []; since = since }
subject_of g number era task = record { id = lane_zero number; era = era; block = 0; first = 0; bytes = []; since = 0 }

-- Each of the commands, from a number, an era and a place of the journal on, has the events that its outcome says, and the next place is this one.
abbrev pub AreAnswered : Geometry → List Happening → ℕ → ℕ → ℕ → List Task → List Outcome → ℕ → Type 0
AreAnswered g h number era start [] [] next = start ≡ next
AreAnswered g h number era start (task ∷ tasks) (outcome ∷ outcomes) next =
    FitsTask g era task outcome
    × (events_of h (lane_zero number) ≡ outcome_events (subject_of g number era task) start outcome)
    × AreAnswered g h (number + 1) (era_after era outcome) (start + event_count outcome) tasks outcomes next
AreAnswered g h number era start tasks outcomes next = ⊥

-- Whether one of the writes was cut.
abbrev pub some_cut : List Outcome → Bool
some_cut outcomes = list_any is_cut_outcome outcomes

-- Whether memory for one of the lists was refused.
abbrev pub some_lack : List Outcome → Bool
some_lack outcomes = list_any lacks_memory outcomes

-- The journal of commands that were run, with how each of them went: it is that of a first session of the origin, it is legal, each event is of one of the commands, and each list names what was written.
pub record IsJournalOf (g : Geometry) (contents : List ℕ) (tasks : List Task) (outcomes : List Outcome) (h : List Happening) : Type 0 where
  pub opened : at_opening None (λ opening. Some opening) h ≡ Some (session_opening g contents)
  pub ongoing : is_open h ≡ true
  pub legal : IsLegal h
  pub era : era_of h ≡ era_after_all 1 outcomes
  pub answered : AreAnswered g h 0 1 0 tasks outcomes (next_place h)
  pub drawn : AreAllDrawnBy (commands_from 0 tasks) h
  pub lists : ListsNameWritten g h (commands_from 0 tasks)

-- The command with the number has drawn nothing.
pub record HasDrawnNothing (h : List Happening) (number : ℕ) : Type 0 where
  pub no_event : events_of h (lane_zero number) ≡ []
  pub no_go : some_event h (is_go_of (lane_zero number)) ≡ false

-- Marks follow a journal that is in the era: they are valid and the origin's, their current set has the blocks that the journal marked in the era, and each block's last marked era is the journal's. No block is marked in a later era.
pub record FollowJournal (g : Geometry) (m : BlockMarks) (era : ℕ) (h : List Happening) : Type 0 where
  pub sectors : m.sectors ≡ g.sectors
  pub block_sectors : m.block_sectors ≡ g.block_sectors
  pub valid : AreValidMarks m
  pub present : m.era ≡ era
  pub current : (block : ℕ) → has m.current block ≡ is_marked_in h block era
  pub lasts : (block : ℕ) → marks_last_era m block ≡ journal_last_era h block
  pub none_later : (block later : ℕ) → era < later → is_marked_in h block later ≡ false

-- A journal that is in the era marked what the commands wrote: a block's last marked era is the greatest in which a command wrote it.
pub record MarksWritten (g : Geometry) (commands : List Command) (era : ℕ) (h : List Happening) : Type 0 where
  pub stream_era : era ≡ era_behind commands
  pub written : (since block : ℕ) → (max since 1 ≤ journal_last_era h block) ↔ IsWrittenSince g commands since block
  pub bounded : (block : ℕ) → journal_last_era h block ≤ era
  pub within : (block : ℕ) → blocks_of g.sectors g.block_sectors ≤ block → journal_last_era h block ≡ 0

-- Between two commands: no write is in flight, the marks are those of the journal, no later command has drawn anything, and no fault was told.
pub record IsBetween (g : Geometry) (tasks : List Task) (marks : BlockMarks) (era : ℕ) (h : List Happening) : Type 0 where
  pub quiet : in_flight h ≡ []
  pub follow : FollowJournal g marks era h
  pub stream : MarksWritten g (commands_from 0 tasks) era h
  pub fresh : (number : ℕ) → length tasks ≤ number → HasDrawnNothing h number
  pub no_fault : (at_opening now : FaultyDisk → ℕ) → CountsAreWithin at_opening now h
  pub untold : (disk : FaultyDisk) → last_count h disk ≡ None

-- The origin reads as the journal says: each block has its content, with any bytes in the ranges of writes in flight.
abbrev pub ReadsAsJournal : Geometry → List Happening → List ℕ → Type 0
ReadsAsJournal g h seen =
    (block : ℕ) → block < blocks_of g.sectors g.block_sectors → IsCrashContent h block (block_bytes g.block_sectors seen block)
