-- What a round of a session does: its commands are run, and their replies given.
use Rattle.std.specs.Prelude.{◌≡◌, ◌⊎◌, ℕ, ◌+◌, ◌||◌, Bool, true, false, List, ◌++◌, length, Option, Some}
use Rattle.era_base.specs.declared.geometry.Geometry.{Geometry}
use Rattle.era_base.specs.declared.disk.Disk.{Ghosts as DiskMembers}
use Rattle.era_base.specs.declared.streams.Sink.{Ghosts as SinkMembers}
use Rattle.era_base.specs.CrashModel.{State}
use Rattle.era_base.specs.Streams.{GivesFront}
use Rattle.era_model.specs.declared.command.Command.{Command}
use Rattle.era_model.specs.Transcript.{NoMemory, stop_line, end_line}
use Rattle.era_top.specs.declared.outcome.Outcome.{Outcome}
use Rattle.era_top.specs.declared.progress.Progress.{Progress}
use Rattle.era_tools.specs.declared.status.Status.{Status}
use Rattle.era_tools.specs.declared.status.Status.TheVariants.{Fault, Memory, Sink}
use Rattle.era_top.specs.Outcomes.{answers_text, total_events}
use Rattle.era_top.specs.Runs.{some_cut, some_lack, tasks_of}
use Rattle.era_tools.specs.Printing.{Prints}
use Rattle.era_top.specs.Steps.{RunBehind, StopsWhereCut}

-- What a round has around it: the session between the rounds, the disk and its count of faults, and what the sink was given.
pub record RoundAround : Type 0 where
  pub session : Progress
  pub session' : Progress
  pub tells : Bool
  pub faults : ℕ
  pub faults' : ℕ
  pub disk : State
  pub disk' : State
  pub given : Option (List ℕ)
  pub given' : Option (List ℕ)

-- A round's surroundings, by what they were when it began and when it was answered.
abbrev pub round_around : {D K : Type 0} → DiskMembers D → SinkMembers K → Progress → Progress → D → D → K → K → RoundAround
round_around disk sink session session' disk_old disk_new sink_old sink_new = record {
  session = session;
  session' = session';
  tells = disk.tells;
  faults = disk.faults disk_old;
  faults' = disk.faults disk_new;
  disk = (disk.history disk_old).now;
  disk' = (disk.history disk_new).now;
  given = sink.given sink_old;
  given' = sink.given sink_new;
}

-- The commands of a round were run behind those of the session before it, and went so.
pub record HasRunRound (g : Geometry) (commands : List Command) (around : RoundAround) (outcomes : List Outcome) : Type 0 where
  pub behind : RunBehind g (tasks_of commands) outcomes around.tells around.session.marks around.session'.marks
      around.faults around.faults' around.disk around.disk'
  pub stops : StopsWhereCut (length commands) outcomes around.faults around.faults'

-- A round was answered, and the session goes on behind it.
pub record HasAnswered (g : Geometry) (commands : List Command) (around : RoundAround) : Type 0 where
  pub outcomes : List Outcome
  pub run : HasRunRound g commands around outcomes
  pub no_cut : some_cut outcomes ≡ false
  pub place : around.session'.place ≡ around.session.place + total_events outcomes
  pub lacked : around.session'.lacked ≡ (around.session.lacked || some_lack outcomes)
  pub told : (before : List ℕ) → around.given ≡ Some before
      → around.given' ≡ Some (before ++ answers_text around.session.place commands outcomes)

-- Memory for a round was refused, and nothing of it was run.
pub record HasNoRoom (around : RoundAround) (status : Status) : Type 0 where
  pub kept : around.faults' ≡ around.faults
  pub same : around.disk' ≡ around.disk
  pub printed : Prints around.given around.given' (stop_line NoMemory ++ end_line around.session.marks.era around.session.place) Memory status

-- A write of a round was cut, and the session ended behind its reply.
pub record EndsInRound (g : Geometry) (commands : List Command) (around : RoundAround) (status : Status) : Type 0 where
  pub outcomes : List Outcome
  pub run : HasRunRound g commands around outcomes
  pub cut : some_cut outcomes ≡ true
  pub printed : Prints around.given around.given'
      (answers_text around.session.place commands outcomes
      ++ end_line around.session'.marks.era (around.session.place + total_events outcomes)) Fault status

-- The sink failed at the replies of a round that was run.
pub record LosesReplies (g : Geometry) (commands : List Command) (around : RoundAround) (status : Status) : Type 0 where
  pub outcomes : List Outcome
  pub run : HasRunRound g commands around outcomes
  pub ended : status ≡ Sink
  pub front : (before : List ℕ) → around.given ≡ Some before
      → GivesFront before (answers_text around.session.place commands outcomes) around.given'

-- The session ended at a round.
abbrev pub EndsAtRound : Geometry → List Command → RoundAround → Status → Type 0
EndsAtRound g commands around status =
    HasNoRoom around status ⊎ (EndsInRound g commands around status ⊎ LosesReplies g commands around status)
