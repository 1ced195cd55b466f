-- Sessions: what one tells, its text, and what a sink has of it.
use Rattle.std.specs.Prelude.{◌≡◌, ℕ, Bool, true, List, ◌++◌, map, Option, Some, None, if◌then◌else◌}
use Rattle.std.specs.List.{flat_map}
use Rattle.era_base.specs.declared.geometry.Geometry.{Geometry}
use Rattle.era_base.specs.declared.disk.Disk.{Ghosts as DiskMembers}
use Rattle.era_base.specs.declared.streams.Source.{Ghosts as SourceMembers}
use Rattle.era_base.specs.CrashModel.{State}
use Rattle.era_model.specs.declared.history.Happening.{Happening}
use Rattle.era_model.specs.declared.command.Command.{Command}
use Rattle.era_model.specs.Commands.{Round, round_of}
use Rattle.era_model.specs.Counts.{CountsAreWithin}
use Rattle.era_model.specs.History.{at_opening, era_of, next_place}
use Rattle.era_model.specs.Journal.{session_opening}
use Rattle.era_model.specs.Legal.{IsLegal}
use Rattle.era_model.specs.SessionRun.{IsRun}
use Rattle.era_model.specs.StreamLists.{ListsNameWritten}
use Rattle.era_model.specs.Transcript.{Stop, RefusedLine, SourceFault, NoMemory, rounds_text, stop_line, end_line, session_transcript}
use Rattle.era_plan.specs.declared.round.LineKind.TheVariants.{NotYet}
use Rattle.era_plan.specs.declared.round.PlanError.{PlanError}
use Rattle.era_plan.specs.declared.round.PlanError.TheVariants.{Line as LineError, Source as SourceError, Memory as MemoryError}
use Rattle.era_plan.specs.Kinds.{kind_text}
use Rattle.era_tools.specs.declared.status.Status.{Status}
use Rattle.era_tools.specs.declared.status.Status.TheVariants.{Done, Line, Memory, Source}
use Rattle.era_top.specs.Runs.{ReadsAsJournal}

-- The commands of all rounds, in order.
abbrev pub joined : List (List Command) → List Command
joined rounds = flat_map (λ commands. commands) rounds

-- The rounds of these commands, without a digest worker.
abbrev pub rounds_of : List (List Command) → List Round
rounds_of rounds = map round_of rounds

-- What a session tells: its journal, the rounds that it answered, and why it stopped reading.
pub record Session : Type 0 where
  pub journal : List Happening
  pub rounds : List (List Command)
  pub stop : Stop

-- The text of a session.
abbrev pub session_text : Session → List ℕ
session_text session = session_transcript session.journal (rounds_of session.rounds) session.stop

-- What the outside had when a session began and when it ended: the bytes that were left of the source, the counts of faults of the source and the disk, and what the disk tells.
pub record Around : Type 0 where
  pub left : Option (List ℕ)
  pub left' : Option (List ℕ)
  pub source_faults : ℕ
  pub source_faults' : ℕ
  pub disk_faults : ℕ
  pub disk_faults' : ℕ
  pub tells : Bool
  pub disk : State
  pub disk' : State

-- The journal of a session is legal, it opened as a first session of an origin with these contents, its events are those of the commands of the rounds that were answered, each round behind the ones before it, each list names exactly the blocks that were written since its era, each fault that it tells is one of the disk in this session, and the origin reads as it says.
pub record IsSession (g : Geometry) (contents : List ℕ) (around : Around) (session : Session) : Type 0 where
  pub opened : at_opening None (λ opening. Some opening) session.journal ≡ Some (session_opening g contents)
  pub legal : IsLegal session.journal
  pub run : IsRun session.journal (rounds_of session.rounds)
  pub lists : ListsNameWritten g session.journal (joined session.rounds)
  pub counts : CountsAreWithin (λ _. around.disk_faults) (λ _. around.disk_faults') session.journal
  pub reads : around.tells ≡ true → contents ≡ around.disk.seen → ReadsAsJournal g session.journal around.disk'.seen

-- The text of a session behind its first line.
abbrev pub text_behind_open : Session → List ℕ
text_behind_open session =
    rounds_text session.journal (rounds_of session.rounds) ++ (stop_line session.stop ++ end_line (era_of session.journal) (next_place session.journal))

-- How a session stops where its stream gives no further round.
abbrev pub stop_of : PlanError → Stop
stop_of (LineError error) = RefusedLine error.line (kind_text error.kind)
stop_of (SourceError count) = SourceFault count
stop_of MemoryError = NoMemory

-- The status of a session that stops so.
abbrev pub status_of : PlanError → Status
status_of (LineError error) = Line
status_of (SourceError count) = Source
status_of MemoryError = Memory

-- The status of a session whose stream was read to its end: memory was refused where it was for a list.
abbrev pub end_status : Bool → Status
end_status lacked = if lacked then Memory else Done

-- The error of a line whose command isn't served yet.
abbrev pub plan_error_at : ℕ → PlanError
plan_error_at line = LineError (record { line = line; kind = NotYet })

-- What a session has around it, by what the source and the disk were when it began and when it ended.
abbrev pub session_around : {S D : Type 0} → SourceMembers S → DiskMembers D → S → S → D → D → Around
session_around source disk source_old source_new disk_old disk_new = record {
  left = source.left source_old;
  left' = source.left source_new;
  source_faults = source.faults source_old;
  source_faults' = source.faults source_new;
  disk_faults = disk.faults disk_old;
  disk_faults' = disk.faults disk_new;
  tells = disk.tells;
  disk = (disk.history disk_old).now;
  disk' = (disk.history disk_new).now;
}
