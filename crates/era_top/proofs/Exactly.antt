-- The number of a call, by what its words and the origin's size say.
use Rattle.std.proofs.Common.{◌≡◌, ◌⊎◌, inl, inr, ℕ, ◌<◌, List, refl, ap, sym, ◌∙◌, subst, arith}
use Rattle.std.specs.Prelude.{Some}
use Rattle.era_base.specs.declared.disk.Disk.{Ghosts}
use Rattle.era_base.specs.declared.geometry.Geometry.{Geometry}
use Rattle.era_base.specs.declared.geometry.GeomError.{GeomError}
use Rattle.era_line.specs.declared.table_line.TableLine.{TableLine}
use Rattle.era_words.specs.declared.job.Job.{Job}
use Rattle.era_words.specs.declared.job.Job.TheVariants as job
use Rattle.era_words.specs.Words.{IsJob, IsNoJob}
use Rattle.era_tools.specs.Around.{BayAround}
use Rattle.era_tools.specs.Needs.{AreGeometry, IsNoGeometry}
use Rattle.era_tools.specs.Printing.{number_of}
use Rattle.era_tools.specs.Refusals.{refusal_status}
use Rattle.era_tools.specs.declared.refusal.Refusal.{Refusal}
use Rattle.era_tools.specs.declared.refusal.Refusal.TheVariants.{NoGeometry, SameDevice, OriginSmall, Metadata, NoSnap, BayFault, DataFault, NoRoom}
use Rattle.era_tools.specs.declared.status.Status.{Status}
use Rattle.era_tools.specs.declared.status.Status.TheVariants.{Done, Usage, Fault, Memory, Refused, Sink}
use Rattle.era_tools.proofs.Geometries.{are-geometry}
use Rattle.era_top.specs.declared.refusal.WordsRefusal.TheVariants.{NotYet}
use Rattle.era_top.specs.Around.{StreamsAround}
use Rattle.era_top.specs.Exactly.{EndsExactly}
use Rattle.era_top.specs.Reports.{Report, Refuses, Serves, Reports, ReportsSession, RunsJob, HasGeometry, IsCauseOf, IsReported, report_text}
use Rattle.era_top.specs.Tools.{EndsToolExactly, EndsWith, ReportsTool, RunsTool}
use Rattle.era_top.specs.Words.{GiveNumbers, IsNeed, IsNotYet, IsNoTool, IsServe, IsTool, IsUnserved}
use Rattle.era_top.proofs.Faultless.{session-ran}
use Rattle.era_top.proofs.JobEnds.{Ends, ends-number, ends-printed, geometry-never, job-ran, need-done, need-refused, no_tool-ends, unread-ends, unread-lacks, unserved-ends, usage-ends}
use Rattle.era_top.proofs.ToolEnds.{printed-ends}

-- The status that a session's cause wants. That of refused memory may come in its place.
abbrev StatusIs : Status → Status → Type 0
StatusIs status wanted = (status ≡ wanted) ⊎ (status ≡ Memory)

-- a geometry of a table line
line-geometry : (line : TableLine) (geometry : Geometry) → HasGeometry line geometry → AreGeometry line.length line.block_sectors
line-geometry line geometry has = are-geometry geometry line.length line.block_sectors has.sectors has.block_sectors

module _ (D : Type 0) (words : List (List ℕ)) (contents : List ℕ) (disks : Ghosts D) (bay : BayAround D) (streams : StreamsAround) (status : Status) where
  -- a session whose numbers are no geometry
  none-refusal : (line : TableLine) (error : GeomError) → IsNoGeometry error line.length line.block_sectors → (refusal : Refusal) → IsCauseOf line bay refusal → StatusIs (refusal_status refusal) Refused
  none-refusal line error none NoRoom cause = inr refl
  none-refusal line error none (NoGeometry other size) cause = inl refl
  none-refusal line error none (BayFault count) cause = absurd (geometry-never error line.length line.block_sectors cause.0 none)
  none-refusal line error none (OriginSmall have need) cause = inl refl
  none-refusal line error none SameDevice cause = absurd cause
  none-refusal line error none (Metadata refused) cause = absurd cause
  none-refusal line error none NoSnap cause = absurd cause
  none-refusal line error none (DataFault count) cause = absurd cause

  none-status : (line : TableLine) (error : GeomError) → IsNoGeometry error line.length line.block_sectors → (report : Report) (ended : Status)
      → IsReported line contents disks bay streams report ended → StatusIs ended Refused
  none-status line error none (Refuses refusal) ended right = subst (λ s. StatusIs s Refused) (sym right.0) (none-refusal line error none refusal right.1)
  none-status line error none (Serves session) ended right =
      absurd (geometry-never error line.length line.block_sectors (line-geometry line right.geometry right.asked) none)

  -- a session over an origin that is too small
  small-refusal : (line : TableLine) (refusal : Refusal) → IsCauseOf line bay refusal → StatusIs (refusal_status refusal) Refused ⊎ (refusal_status refusal ≡ Fault)
  small-refusal line NoRoom cause = inl (inr refl)
  small-refusal line (NoGeometry error size) cause = inl (inl refl)
  small-refusal line (BayFault count) cause = inr refl
  small-refusal line (OriginSmall have need) cause = inl (inl refl)
  small-refusal line SameDevice cause = absurd cause
  small-refusal line (Metadata refused) cause = absurd cause
  small-refusal line NoSnap cause = absurd cause
  small-refusal line (DataFault count) cause = absurd cause

  small-status : (line : TableLine) (have : ℕ) → bay.sizes line.origin ≡ Some have → have < line.length → (report : Report) (ended : Status)
      → IsReported line contents disks bay streams report ended → StatusIs ended Refused ⊎ (ended ≡ Fault)
  small-status line have told small (Refuses refusal) ended right =
      subst (λ s. StatusIs s Refused ⊎ (s ≡ Fault)) (sym right.0) (small-refusal line refusal right.1)
  small-status line have told small (Serves session) ended right =
      let known : Some have ≡ Some right.origin.have = sym told ∙ right.origin.size in
      let is : have ≡ right.origin.have = cc in
      absurd (omega (arith, is, small, right.origin.enough))

  -- how its run ends
  session-printed : (line : TableLine) (session : ReportsSession line contents disks bay streams status) → (status ≡ session.ended) ⊎ (status ≡ Sink)
  session-printed line session = printed-ends streams.given streams.given' (report_text session.report) session.ended status session.printed

  none-session : (line : TableLine) (error : GeomError) → IsNoGeometry error line.length line.block_sectors → ReportsSession line contents disks bay streams status → Ends status Refused
  none-session line error none session =
      ends-printed status session.ended Refused (session-printed line session) (none-status line error none session.report session.ended session.right)

  small-ends : (ended : Status) → (status ≡ ended) ⊎ (status ≡ Sink) → StatusIs ended Refused ⊎ (ended ≡ Fault) → EndsWith (number_of status) 6 ⊎ (number_of status ≡ 4)
  small-ends ended printed (inl is) = inl (ends-number status Refused (ends-printed status ended Refused printed is))
  small-ends ended (inl same) (inr fault) = inr (ap number_of (same ∙ fault))
  small-ends ended (inr failed) (inr fault) = inl (inr (inr (ap number_of failed)))

  -- words that are no command
  no_command-ends : IsNoJob words → Reports words contents disks bay streams status → Ends status Usage
  no_command-ends none (inl unread) = unread-ends D bay streams status words unread
  no_command-ends none (inr ran) = absurd (none ran.job ran.asked)

  -- a command that isn't served yet
  not_yet-runs : (job : Job) → IsUnserved job → RunsJob contents disks bay streams job status → Ends status Usage
  not_yet-runs (job.Serve line stripes digest) unserved (inl session) = absurd (unserved session.0)
  not_yet-runs (job.Serve line stripes digest) unserved (inr other) = usage-ends D bay streams status NotYet refl other.1
  not_yet-runs (job.Load line seed stripes) unserved ran = usage-ends D bay streams status NotYet refl ran
  not_yet-runs (job.Restore meta) unserved ran = absurd unserved
  not_yet-runs (job.Backup meta origin since) unserved ran = absurd unserved
  not_yet-runs (job.Apply origin) unserved ran = unserved-ends D bay streams status disks (job.Apply origin) tt unserved ran
  not_yet-runs (job.Need sectors size) unserved ran = absurd unserved
  not_yet-runs (job.Check meta) unserved ran = absurd unserved
  not_yet-runs (job.Invalidate meta since snap) unserved ran = absurd unserved
  not_yet-runs (job.Dump meta logical) unserved ran = absurd unserved

  not_yet-ends : IsNotYet words → Reports words contents disks bay streams status → Ends status Usage
  not_yet-ends (other, asked, unserved) (inl unread) = inr (unread-lacks D bay streams status words other asked unread)
  not_yet-ends (other, asked, unserved) (inr ran) = not_yet-runs other unserved (job-ran words (λ job. RunsJob contents disks bay streams job status) other asked ran)

  -- a need
  need-ran : (sectors size : ℕ) → IsNeed words sectors size → Reports words contents disks bay streams status
      → ((status ≡ Memory) ⊎ (status ≡ Sink)) ⊎ RunsTool disks bay streams (job.Need sectors size) status
  need-ran sectors size asked (inl unread) = inl (unread-lacks D bay streams status words (job.Need sectors size) asked unread)
  need-ran sectors size asked (inr ran) = inr (job-ran words (λ job. RunsJob contents disks bay streams job status) (job.Need sectors size) asked ran)

  tool_need-ran : (sectors size : ℕ) → IsNeed words sectors size → ReportsTool words disks bay streams status
      → ((status ≡ Memory) ⊎ (status ≡ Sink)) ⊎ RunsTool disks bay streams (job.Need sectors size) status
  tool_need-ran sectors size asked (inl unread) = inl (unread-lacks D bay streams status words (job.Need sectors size) asked unread)
  tool_need-ran sectors size asked (inr ran) = inr (job-ran words (λ job. RunsTool disks bay streams job status) (job.Need sectors size) asked ran)

  need-none : (error : GeomError) (sectors size : ℕ) → IsNoGeometry error sectors size
      → ((status ≡ Memory) ⊎ (status ≡ Sink)) ⊎ RunsTool disks bay streams (job.Need sectors size) status → Ends status Refused
  need-none error sectors size none (inl before) = inr before
  need-none error sectors size none (inr ran) = need-refused sectors size error streams.given streams.given' status none ran.1

  need-told : (geometry : Geometry)
      → ((status ≡ Memory) ⊎ (status ≡ Sink)) ⊎ RunsTool disks bay streams (job.Need geometry.sectors geometry.block_sectors) status → Ends status Done
  need-told geometry (inl before) = inr before
  need-told geometry (inr ran) = need-done geometry.sectors geometry.block_sectors streams.given streams.given' status
      (record { block_size = geometry.block_size; some = geometry.some; limited = geometry.limited }) ran.1

  -- numbers that are no geometry
  no_geometry-ends : (error : GeomError) (sectors size : ℕ) → GiveNumbers words sectors size → IsNoGeometry error sectors size → Reports words contents disks bay streams status
      → Ends status Refused
  no_geometry-ends error sectors size (inl (line, serve, length, block)) none reports =
      elim (session-ran D words contents disks bay streams line status serve reports) [
        | inl before ↦ inr before
        | inr session ↦ none-session line error (subst (λ n. IsNoGeometry error n line.block_sectors) length (subst (λ n. IsNoGeometry error sectors n) block none)) session
      ]
  no_geometry-ends error sectors size (inr need) none reports = need-none error sectors size none (need-ran sectors size need reports)

  -- an origin that is too small
  too_small-ends : (line : TableLine) (have : ℕ) → IsServe words line → bay.sizes line.origin ≡ Some have → have < line.length → Reports words contents disks bay streams status
      → EndsWith (number_of status) 6 ⊎ (number_of status ≡ 4)
  too_small-ends line have serve told small reports = elim (session-ran D words contents disks bay streams line status serve reports) [
    | inl before ↦ inl (ends-number status Refused (inr before))
    | inr session ↦ small-ends session.ended (session-printed line session) (small-status line have told small session.report session.ended session.right)
  ]

  -- and so the call ends with the number that its words ask for
  pub ends-exactly : (number : ℕ) → number ≡ number_of status → Reports words contents disks bay streams status → EndsExactly words bay.sizes number
  ends-exactly number is reports = record {
    no_command = λ none. subst (λ n. EndsWith n 2) (sym is) (ends-number status Usage (no_command-ends none reports));
    not_yet = λ not_yet. subst (λ n. EndsWith n 2) (sym is) (ends-number status Usage (not_yet-ends not_yet reports));
    no_geometry = λ error sectors size numbers none.
        subst (λ n. EndsWith n 6) (sym is) (ends-number status Refused (no_geometry-ends error sectors size numbers none reports));
    too_small = λ line have serve are told small. subst (λ n. EndsWith n 6 ⊎ (n ≡ 4)) (sym is) (too_small-ends line have serve told small reports);
    need = λ geometry asked.
        subst (λ n. EndsWith n 0) (sym is) (ends-number status Done (need-told geometry (need-ran geometry.sectors geometry.block_sectors asked reports)));
  }

  -- words that are no tool's
  cases_tool : (job : Job) → IsTool job ⊎ (IsTool job → ⊥)
  cases_tool (job.Serve line stripes digest) = inr (λ no. no)
  cases_tool (job.Load line seed stripes) = inr (λ no. no)
  cases_tool (job.Need sectors size) = inl tt
  cases_tool (job.Check meta) = inl tt
  cases_tool (job.Invalidate meta since snap) = inl tt
  cases_tool (job.Dump meta logical) = inl tt
  cases_tool (job.Restore meta) = inl tt
  cases_tool (job.Backup meta origin since) = inl tt
  cases_tool (job.Apply origin) = inl tt

  no_tool-words : IsNoTool words → ReportsTool words disks bay streams status → Ends status Usage
  no_tool-words none (inl unread) = unread-ends D bay streams status words unread
  no_tool-words none (inr ran) = elim (cases_tool ran.job) [
    | inl tool ↦ absurd (none ran.job tool ran.asked)
    | inr other ↦ no_tool-ends D bay streams status disks ran.job other ran.ran
  ]

  -- a tool that isn't served yet
  unserved-tool : (job : Job) → IsTool job → IsUnserved job → IsJob words job → ReportsTool words disks bay streams status → Ends status Usage
  unserved-tool job tool unserved asked (inl unread) = inr (unread-lacks D bay streams status words job asked unread)
  unserved-tool job tool unserved asked (inr ran) =
      unserved-ends D bay streams status disks job tool unserved (job-ran words (λ job. RunsTool disks bay streams job status) job asked ran)

  -- and so a call of a tool does
  pub tool-exactly : (number : ℕ) → number ≡ number_of status → ReportsTool words disks bay streams status → EndsToolExactly words number
  tool-exactly number is reports = record {
    no_tool = λ none. subst (λ n. EndsWith n 2) (sym is) (ends-number status Usage (no_tool-words none reports));
    not_yet = λ job tool unserved asked. subst (λ n. EndsWith n 2) (sym is) (ends-number status Usage (unserved-tool job tool unserved asked reports));
    no_geometry = λ error sectors size asked none.
        subst (λ n. EndsWith n 6) (sym is) (ends-number status Refused (need-none error sectors size none (tool_need-ran sectors size asked reports)));
    need = λ geometry asked.
        subst (λ n. EndsWith n 0) (sym is) (ends-number status Done (need-told geometry (tool_need-ran geometry.sectors geometry.block_sectors asked reports)));
  }
