-- What a call reports, and its exact cause. A definition takes the members of the disk's trait, as `D.Disk`.
use Rattle.std.specs.Prelude.{◌≡◌, ◌⊎◌, ℕ, ◌<◌, ◌≤◌, List, [], ◌∷◌, ◌++◌, true, Some}
use Rattle.era_base.specs.declared.disk.Disk.{Ghosts}
use Rattle.era_base.specs.declared.geometry.Geometry.{Geometry}
use Rattle.era_base.specs.Bay.{new_loan, ended_loan, HasContent, SameReadsBut}
use Rattle.era_base.specs.Faults.{Rose}
use Rattle.era_line.specs.declared.table_line.TableLine.{TableLine}
use Rattle.era_words.specs.declared.job.Job.{Job}
use Rattle.era_words.specs.declared.job.Job.TheVariants as job
use Rattle.era_tools.specs.Around.{BayAround, LeavesBay}
use Rattle.era_tools.specs.Needs.{AreGeometry, IsNoGeometry}
use Rattle.era_tools.specs.Printing.{Prints}
use Rattle.era_tools.specs.Refusals.{refusal_text, refusal_status}
use Rattle.era_tools.specs.declared.refusal.Refusal.{Refusal}
use Rattle.era_tools.specs.declared.refusal.Refusal.TheVariants.{NoRoom, NoGeometry, BayFault, OriginSmall}
use Rattle.era_tools.specs.declared.status.Status.{Status}
use Rattle.era_top.specs.declared.refusal.WordsRefusal.TheVariants.{NotYet}
use Rattle.era_top.specs.Around.{LeavesSource, StreamsAround}
use Rattle.era_top.specs.Runs.{ReadsAsJournal}
use Rattle.era_top.specs.Endings.{EndsBy}
use Rattle.era_top.specs.Sessions.{Session, session_text, Around, IsSession}
use Rattle.era_top.specs.Tools.{RefusesWords, ReportsJob, ReportsUnread, RunsTool}
use Rattle.era_top.specs.Words.{AreDefaults}

-- A call for a session reports why it serves none, or the session that it served.
pub data Report : Type 0 where
  Refuses : (refusal : Refusal) → Report
  Serves : (session : Session) → Report

-- The text of a report.
abbrev pub report_text : Report → List ℕ
report_text (Refuses refusal) = refusal_text refusal
report_text (Serves session) = session_text session

-- The table line gives this geometry.
pub record HasGeometry (line : TableLine) (geometry : Geometry) : Type 0 where
  pub sectors : geometry.sectors ≡ line.length
  pub block_sectors : geometry.block_sectors ≡ line.block_sectors

-- The exact cause for which a session over the target of a table line is refused: memory was refused, which may be at any time; its numbers are no geometry; the bay failed, and the count is its own; the origin is smaller than the table line says.
abbrev pub IsCauseOf : {D : Type 0} → TableLine → BayAround D → Refusal → Type 0
IsCauseOf line bay NoRoom = bay.faults' ≡ bay.faults
IsCauseOf line bay (NoGeometry error size) =
    (size ≡ line.block_sectors) × IsNoGeometry error line.length line.block_sectors × (bay.faults' ≡ bay.faults)
IsCauseOf line bay (BayFault count) = AreGeometry line.length line.block_sectors × (count ≡ bay.faults') × Rose bay.faults bay.faults'
IsCauseOf line bay (OriginSmall have need) =
    AreGeometry line.length line.block_sectors × (bay.sizes line.origin ≡ Some have) × (need ≡ line.length) × (have < need) × (bay.faults' ≡ bay.faults)
IsCauseOf line bay refusal = ⊥

-- The disk that was lent is the origin of a table line, from its first sector on and as long as the line says, and the origin is told to be large enough for it.
pub record IsOrigin {D : Type 0} (disks : Ghosts D) (bay : BayAround D) (line : TableLine) (lent : D) : Type 0 where
  pub have : ℕ
  pub size : bay.sizes line.origin ≡ Some have
  pub enough : line.length ≤ have
  pub place : disks.place lent ≡ record { device = line.origin; first = 0 }
  pub sectors : disks.sectors lent ≡ line.length

-- What a session has around it, whose disk was lent like this and put back like that.
abbrev pub around_session : {D : Type 0} → Ghosts D → StreamsAround → D → D → Around
around_session disks streams lent back = record {
  left = streams.left;
  left' = streams.left';
  source_faults = streams.source_faults;
  source_faults' = streams.source_faults';
  disk_faults = disks.faults lent;
  disk_faults' = disks.faults back;
  tells = disks.tells;
  disk = (disks.history lent).now;
  disk' = (disks.history back).now;
}

-- In the end the origin has bytes that read as the journal says.
pub record EndsAsJournal {D : Type 0} (bay : BayAround D) (line : TableLine) (geometry : Geometry) (session : Session) : Type 0 where
  pub final : List ℕ
  pub content : HasContent bay.reads' line.origin line.length final
  pub reads : ReadsAsJournal geometry session.journal final

-- A session was served over the target of a table line: the origin was lent to it and put back when it had ended, it is a session of the contents that the origin had, it ended by its cause, and the origin then reads as its journal says.
pub record IsServed {D : Type 0} (line : TableLine) (contents : List ℕ) (disks : Ghosts D) (bay : BayAround D)
    (streams : StreamsAround) (session : Session) (ended : Status) : Type 0 where
  pub geometry : Geometry
  pub asked : HasGeometry line geometry
  pub lent : D
  pub back : D
  pub origin : IsOrigin disks bay line lent
  pub loans : bay.loans' ≡ bay.loans ++ ended_loan (new_loan lent) back ∷ []
  pub right : IsSession geometry contents (around_session disks streams lent back) session
  pub cause : EndsBy geometry (around_session disks streams lent back) session ended
  pub content : disks.tells ≡ true → HasContent bay.reads line.origin line.length contents → EndsAsJournal bay line geometry session
  pub others : SameReadsBut line.origin 0 line.length bay.reads bay.reads'
  pub faults : bay.faults' ≡ bay.faults

-- A report on a session is right, and the call ends with this status: a refusal came by its exact cause, and the bay and the source are as before; or a session was served.
abbrev pub IsReported : {D : Type 0} → TableLine → List ℕ → Ghosts D → BayAround D → StreamsAround → Report → Status → Type 0
IsReported line contents disks bay streams (Refuses refusal) ended =
    (ended ≡ refusal_status refusal) × IsCauseOf line bay refusal × LeavesBay bay × LeavesSource streams
IsReported line contents disks bay streams (Serves session) ended = IsServed line contents disks bay streams session ended

-- A call for a session over the target of a table line went so, where the origin had these contents: its report is right, and its text was given.
pub record ReportsSession {D : Type 0} (line : TableLine) (contents : List ℕ) (disks : Ghosts D) (bay : BayAround D)
    (streams : StreamsAround) (result : Status) : Type 0 where
  pub report : Report
  pub ended : Status
  pub right : IsReported line contents disks bay streams report ended
  pub printed : Prints streams.given streams.given' (report_text report) ended result

-- How a call went that does this job, where the origin had these contents: a session with the default options is served, and neither one with others nor a load is yet; every other job is a tool's.
abbrev pub RunsJob : {D : Type 0} → List ℕ → Ghosts D → BayAround D → StreamsAround → Job → Status → Type 0
RunsJob contents disks bay streams (job.Serve line stripes digest) result =
    (AreDefaults stripes digest × ReportsSession line contents disks bay streams result)
    ⊎ ((AreDefaults stripes digest → ⊥) × RefusesWords bay streams NotYet result)
RunsJob contents disks bay streams (job.Load line seed stripes) result = RefusesWords bay streams NotYet result
RunsJob contents disks bay streams other result = RunsTool disks bay streams other result

-- A call went so, where the origin had these contents: its words weren't read, or it did their job.
abbrev pub Reports : {D : Type 0} → List (List ℕ) → List ℕ → Ghosts D → BayAround D → StreamsAround → Status → Type 0
Reports words contents disks bay streams result =
    ReportsUnread words bay streams result ⊎ ReportsJob words (λ job. RunsJob contents disks bay streams job result)
