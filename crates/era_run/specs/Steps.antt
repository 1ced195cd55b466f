-- What each step of a session's run comes to. A definition takes the members of the disk's trait, as `D.Disk`.
use Rattle.std.specs.Prelude.{◌≡◌, ◌⊎◌, ℕ, false, List, ◌++◌, Option, Some}
use Rattle.era_base.specs.Faults.{Rose}
use Rattle.era_base.specs.Calls.{Now}
use Rattle.era_base.specs.Streams.{GivesFront}
use Rattle.era_base.specs.declared.disk.Disk.{Ghosts}
use Rattle.era_gate.specs.Acts.{Act}
use Rattle.era_keeper.specs.Keepers.{view_of as keeper_view}
use Rattle.era_keeper.specs.Recovery.{LeavesDurable}
use Rattle.era_model.specs.Transcript.{end_line, open_line, stop_line}
use Rattle.era_model.specs.declared.opening.Opening.{Opening}
use Rattle.era_notes.specs.Notes.{own_history}
use Rattle.era_opening.specs.Loans.{ArePutBack}
use Rattle.era_opening.specs.Openings.{session_disks}
use Rattle.era_run.specs.Around.{LeavesSource, StreamsAround}
use Rattle.era_run.specs.Endings.{PrintsEnding, told_stop}
use Rattle.era_serve.specs.Stops.{ServesRounds}
use Rattle.era_serve.specs.declared.stop.Stop.TheVariants.{Sink}
use Rattle.era_serve.specs.declared.stop.Stopped.{Stopped}
use Rattle.era_session.specs.Ends.{DrewActs}
use Rattle.era_session.specs.Sessions.{SessionStands}
use Rattle.era_session.specs.declared.session.Session.{Session}
use Rattle.era_tools.specs.Around.{BayAround}
use Rattle.era_tools.specs.declared.status.Status.{Status}

-- A sink between two gives: what it was given, and its count of faults.
pub record SinkNow : Type 0 where
  pub given : Option (List ℕ)
  pub faults : ℕ

-- The streams up to where the sink stands so.
abbrev pub up_to : StreamsAround → SinkNow → StreamsAround
up_to streams sink = record streams { given' = sink.given; sink_faults' = sink.faults }

-- The streams from where the sink stands so.
abbrev pub from : StreamsAround → SinkNow → StreamsAround
from streams sink = record streams { given = sink.given; sink_faults = sink.faults }

-- The first line of a session.
abbrev pub first_line : {D : Type 0} → Session D → List ℕ
first_line session = open_line session.geometry session.keeper.meta.marks.era

-- The first line was given, and the rounds of the source were served behind it.
pub record ServesBehindOpen {D : Type 0} (disk : Ghosts D) (old new : Session D) (streams : StreamsAround) (stopped : Stopped) : Type 0 where
  pub opened : SinkNow
  pub given : (before : List ℕ) → streams.given ≡ Some before → opened.given ≡ Some (before ++ first_line old)
  pub kept : opened.faults ≡ streams.sink_faults
  pub rounds : ServesRounds disk old new (from streams opened) stopped

-- The sink failed at the first line: nothing was read and no command served.
pub record LosesOpen {D : Type 0} (old new : Session D) (streams : StreamsAround) (stopped : Stopped) : Type 0 where
  pub stop : stopped.stop ≡ Sink
  pub quiet : (stopped.some_fault ≡ false) × (stopped.some_memory ≡ false)
  pub same : new ≡ old
  pub unread : LeavesSource streams
  pub front : (before : List ℕ) → streams.given ≡ Some before → GivesFront before (first_line old) streams.given'
  pub rose : Rose streams.sink_faults streams.sink_faults'

-- The stream of a source was served over a session.
abbrev pub ServesStream : {D : Type 0} → Ghosts D → Session D → Session D → StreamsAround → Stopped → Type 0
ServesStream disk old new streams stopped = ServesBehindOpen disk old new streams stopped ⊎ LosesOpen old new streams stopped

-- A session ended: its gate drew these acts and so many places, and in each opening in which it stands a crash leaves of its metadata what is durable.
pub record HasClosed {D : Type 0} (disk : Ghosts D) (last : Session D) (places : ℕ) : Type 0 where
  pub acts : List Act
  pub drew : DrewActs last places acts
  pub durable : (opening : Opening) → SessionStands disk opening last
      → Now disk (LeavesDurable (own_history opening (keeper_view disk last.keeper).notes)) last.keeper.meta.slots.disk

-- A session that was opened has run: the stream was served, the session ended, its disks were put back, and the last lines were given.
pub record RanOpened {D : Type 0} (disk : Ghosts D) (bay : BayAround D) (streams : StreamsAround) (first : Session D) (result : Status) : Type 0 where
  pub last : Session D
  pub stopped : Stopped
  pub sink : SinkNow
  pub places : ℕ
  pub served : ServesStream disk first last (up_to streams sink) stopped
  pub closed : HasClosed disk last places
  pub back : ArePutBack disk bay (session_disks last)
  pub ended : PrintsEnding sink.given streams.given' sink.faults streams.sink_faults' stopped
      (stop_line (told_stop stopped.stop) ++ end_line last.keeper.meta.marks.era places) result
