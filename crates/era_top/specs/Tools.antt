-- What a call of a tool reports, by what its words ask for. A definition takes the members of the disk's trait, as `D.Disk`.
use Rattle.std.specs.Prelude.{◌≡◌, ◌⊎◌, ℕ, List, max}
use Rattle.era_base.specs.declared.disk.Disk.{Ghosts}
use Rattle.era_base.specs.declared.geometry.Geometry.{Geometry}
use Rattle.era_base.specs.declared.geometry.GeomError.{GeomError}
use Rattle.era_text.specs.Dumps.{dumped_marks}
use Rattle.era_words.specs.declared.job.Job.{Job}
use Rattle.era_words.specs.declared.job.Job.TheVariants as job
use Rattle.era_words.specs.Words.{IsJob, IsNoJob}
use Rattle.era_tools.specs.Around.{BayAround, LeavesBay}
use Rattle.era_tools.specs.BackupTool.{RunsBackup}
use Rattle.era_tools.specs.CheckTool.{RunsCheck}
use Rattle.era_tools.specs.ClosedImages.{RunsOver}
use Rattle.era_tools.specs.DumpTool.{PrintsDump}
use Rattle.era_tools.specs.ListTool.{TellsList}
use Rattle.era_tools.specs.Needs.{IsNoGeometry, TellsNeed}
use Rattle.era_tools.specs.Printing.{Prints, number_of}
use Rattle.era_tools.specs.RestoreTool.{RunsRestore}
use Rattle.era_tools.specs.declared.status.Status.{Status}
use Rattle.era_top.specs.declared.refusal.WordsRefusal.{WordsRefusal}
use Rattle.era_top.specs.declared.refusal.WordsRefusal.TheVariants.{NoCommand, NotYet, NoRoom}
use Rattle.era_top.specs.Around.{LeavesSource, StreamsAround, source_of}
use Rattle.era_top.specs.Refusals.{words_status, words_text}
use Rattle.era_top.specs.Words.{IsNeed, IsNoTool, IsTool, IsUnserved}

-- Nothing was lent, written or taken, and no count of the bay or the source rose.
pub record LeavesAll {D : Type 0} (bay : BayAround D) (streams : StreamsAround) : Type 0 where
  pub bay_left : LeavesBay bay
  pub bay_faults : bay.faults' ≡ bay.faults
  pub source_left : LeavesSource streams

-- Words were refused: the line that says so was given, and nothing else happened.
pub record RefusesWords {D : Type 0} (bay : BayAround D) (streams : StreamsAround) (refusal : WordsRefusal) (result : Status) : Type 0 where
  pub left : LeavesAll bay streams
  pub printed : Prints streams.given streams.given' (words_text refusal) (words_status refusal) result

-- How a call of a tool went that does this job. A session and a load are none of its commands.
abbrev pub RunsTool : {D : Type 0} → Ghosts D → BayAround D → StreamsAround → Job → Status → Type 0
RunsTool disk bay streams (job.Need sectors size) result = LeavesAll bay streams × TellsNeed sectors size streams.given streams.given' result
RunsTool disk bay streams (job.Check meta) result = LeavesSource streams × RunsCheck disk bay meta streams.given streams.given' result
RunsTool disk bay streams (job.Invalidate meta since snap) result =
    LeavesSource streams
    × RunsOver disk bay meta streams.given streams.given' result
    (λ meaning. TellsList meaning.marks meaning.held since snap streams.given streams.given' result)
RunsTool disk bay streams (job.Dump meta logical) result =
    LeavesSource streams
    × RunsOver disk bay meta streams.given streams.given' result (λ meaning. PrintsDump (dumped_marks meaning.marks logical) streams.given streams.given' result)
RunsTool disk bay streams (job.Restore meta) result = RunsRestore disk bay (source_of streams) meta streams.given streams.given' result
RunsTool disk bay streams (job.Backup meta origin since) result =
    LeavesSource streams × RunsBackup disk bay meta origin (max since 1) streams.given streams.given' result
RunsTool disk bay streams (job.Apply origin) result = RefusesWords bay streams NotYet result
RunsTool disk bay streams (job.Serve line stripes digest) result = RefusesWords bay streams NoCommand result
RunsTool disk bay streams (job.Load line seed stripes) result = RefusesWords bay streams NoCommand result

-- Words weren't read: they are no command, or memory was refused, which may be at any time.
abbrev pub ReportsUnread : {D : Type 0} → List (List ℕ) → BayAround D → StreamsAround → Status → Type 0
ReportsUnread words bay streams result = (IsNoJob words × RefusesWords bay streams NoCommand result) ⊎ RefusesWords bay streams NoRoom result

-- The words ask for a job, and it went so.
pub record ReportsJob (words : List (List ℕ)) (Runs : Job → Type 0) : Type 0 where
  pub job : Job
  pub asked : IsJob words job
  pub ran : Runs job

-- A call of a tool went so: its words weren't read, or it did their job.
abbrev pub ReportsTool : {D : Type 0} → List (List ℕ) → Ghosts D → BayAround D → StreamsAround → Status → Type 0
ReportsTool words disk bay streams result =
    ReportsUnread words bay streams result ⊎ ReportsJob words (λ job. RunsTool disk bay streams job result)

-- A call of a tool went so, and the program ends with the number of the status.
pub record EndsAsTool {D : Type 0} (words : List (List ℕ)) (disk : Ghosts D) (bay : BayAround D) (streams : StreamsAround) (number : ℕ) : Type 0 where
  pub status : Status
  pub reports : ReportsTool words disk bay streams status
  pub told : number_of status ≡ number

-- The number is the wanted one. That of refused memory, 5, and that of a failed sink, 8, may come in its place.
abbrev pub EndsWith : ℕ → ℕ → Type 0
EndsWith number wanted = (number ≡ wanted) ⊎ ((number ≡ 5) ⊎ (number ≡ 8))

-- A call of a tool ends with the number that its words ask for: 2 where they are no tool's command, or one that isn't served yet; 6 where the numbers of a need are no geometry; 0 where they are one.
pub record EndsToolExactly (words : List (List ℕ)) (number : ℕ) : Type 0 where
  pub no_tool : IsNoTool words → EndsWith number 2
  pub not_yet : (job : Job) → IsTool job → IsUnserved job → IsJob words job → EndsWith number 2
  pub no_geometry : (error : GeomError) (sectors size : ℕ) → IsNeed words sectors size → IsNoGeometry error sectors size → EndsWith number 6
  pub need : (geometry : Geometry) → IsNeed words geometry.sectors geometry.block_sectors → EndsWith number 0

-- The numbers that a tool's run may end with where no count rises: its text was given; a line of a text that it reads was refused, or else a check found a damage; memory was refused; or what it read or was told is refused.
abbrev pub IsQuiet : Job → ℕ → Type 0
IsQuiet (job.Restore meta) number = (number ≡ 0) ⊎ ((number ≡ 3) ⊎ ((number ≡ 5) ⊎ (number ≡ 6)))
IsQuiet other number = (number ≡ 0) ⊎ ((number ≡ 1) ⊎ ((number ≡ 5) ⊎ (number ≡ 6)))

-- A tool that is served ends quietly, where no count rises.
pub record EndsQuiet (words : List (List ℕ)) (number : ℕ) : Type 0 where
  pub quiet : (job : Job) → IsTool job → (IsUnserved job → ⊥) → IsJob words job → IsQuiet job number
