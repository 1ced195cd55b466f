-- What a call ends with where nothing is refused and no count rises.
use Rattle.std.proofs.Common.{◌≡◌, ◌⊎◌, inl, inr, ℕ, List, [], ◌∷◌, ◌++◌, All, refl, ap, sym, suc, ◌∙◌, subst, arith}
use Rattle.std.specs.Prelude.{Option}
use Rattle.era_base.specs.declared.disk.Disk.{Ghosts}
use Rattle.era_base.specs.declared.geometry.Geometry.{Geometry}
use Rattle.era_base.specs.Faults.{Rose, NoneRose}
use Rattle.era_line.specs.declared.table_line.TableLine.{TableLine}
use Rattle.era_model.specs.declared.command.Command.{Command}
use Rattle.era_plan.specs.declared.round.LineKind.{LineKind}
use Rattle.era_plan.specs.Stream.{AtEnd, RefusedAt, Stream, stream_rounds}
use Rattle.era_words.specs.declared.job.Job.{Job}
use Rattle.era_words.specs.declared.job.Job.TheVariants as job
use Rattle.era_words.specs.Words.{IsJob}
use Rattle.era_tools.specs.Around.{BayAround}
use Rattle.era_tools.specs.Printing.{number_of}
use Rattle.era_tools.specs.Refusals.{refusal_status}
use Rattle.era_tools.specs.declared.refusal.Refusal.{Refusal}
use Rattle.era_tools.specs.declared.refusal.Refusal.TheVariants.{NoGeometry, SameDevice, OriginSmall, Metadata, NoSnap, BayFault, DataFault, NoRoom}
use Rattle.era_tools.specs.declared.status.Status.{Status}
use Rattle.era_tools.specs.declared.status.Status.TheVariants.{Done, Damage, Usage, Line, Fault, Memory, Refused, Source, Sink}
use Rattle.era_top.specs.Around.{StreamsAround, SomeCountRose, IsFaultless}
use Rattle.era_top.specs.Reports.{Report, Refuses, Serves, Reports, ReportsSession, RunsJob, IsReported, IsCauseOf}
use Rattle.era_top.specs.Runs.{IsServedCommand}
use Rattle.era_top.specs.Endings.{EndsBy, RefusesLine}
use Rattle.era_top.specs.Sessions.{Session, Around}
use Rattle.era_top.specs.Tools.{EndsQuiet, IsQuiet, ReportsTool, RunsTool}
use Rattle.era_top.specs.Top.{IsServable}
use Rattle.era_top.specs.Words.{IsServe, IsTool, IsUnserved}
use Rattle.era_top.proofs.JobEnds.{geometry-never, job-ran, unread-lacks}
use Rattle.era_top.proofs.ToolEnds.{IsNeverOf, never-memory, never-sink, tool-so}

-- a count that didn't rise
pub not-rose : (before now : ℕ) → NoneRose before now → Rose before now → ⊥
not-rose before now none rose = omega (arith, none.same, none.below, rose)

-- a status that something was refused, or that a damage was found
abbrev pub IsRefusing : Status → Type 0
IsRefusing Damage = Unit {0}
IsRefusing Usage = Unit {0}
IsRefusing Line = Unit {0}
IsRefusing Refused = Unit {0}
IsRefusing status = ⊥

-- what can be served isn't refused
pub refusal-never : (D : Type 0) (words : List (List ℕ)) (bay : BayAround D) (left : Option (List ℕ)) (servable : IsServable words bay.sizes left) (refusal : Refusal)
    → IsRefusing (refusal_status refusal) → IsCauseOf servable.line bay refusal → ⊥
refusal-never D words bay left servable NoRoom refusing cause = refusing
refusal-never D words bay left servable (NoGeometry error size) refusing cause =
    geometry-never error servable.line.length servable.line.block_sectors
    (record { block_size = servable.block_size; some = servable.some; limited = servable.limited }) cause.1
refusal-never D words bay left servable (BayFault count) refusing cause = refusing
refusal-never D words bay left servable (OriginSmall have need) refusing cause =
    let enough = servable.large_enough have cause.1 in
    omega (arith, enough, cause.2, cause.3)
refusal-never D words bay left servable SameDevice refusing cause = cause
refusal-never D words bay left servable (Metadata error) refusing cause = cause
refusal-never D words bay left servable NoSnap refusing cause = cause
refusal-never D words bay left servable (DataFault count) refusing cause = cause

-- what holds of all holds of one of them
all-middle : {X : Type 0} (P : X → Type 0) (before : List X) (at : X) (after : List X) → All P (before ++ at ∷ after) → P at
all-middle P [] at after all = all 0 at (omega arith)
all-middle P (first ∷ before) at after all = all-middle P before at after (λ k d kept. all (suc k) d (omega arith))

-- no line is refused of a stream that was read to its end and whose commands are all served
line-never : (rounds : List (List Command)) (line : ℕ) (kind : LineKind) (stream : Stream) → stream.end ≡ AtEnd → All (All IsServedCommand) stream.rounds
    → RefusesLine rounds line kind stream → ⊥
line-never rounds line kind stream ends served (inl refused) = let e : RefusedAt line kind ≡ AtEnd = sym (ap (λ s. s.end) refused) ∙ ends in absurd (cc)
line-never rounds line kind stream ends served (inr (is, (round, unserved, goes))) =
    let all = subst (All (All IsServedCommand)) (goes.joined ∙ ap (λ more. rounds ++ more) goes.rest.1) served in
    let commands = subst (All IsServedCommand) unserved.split (all-middle (All IsServedCommand) rounds round goes.rest.0 all) in
    unserved.unserved (all-middle IsServedCommand unserved.before unserved.command unserved.after commands)

-- a stream whose rounds are all served isn't refused
pub session-never : (words : List (List ℕ)) (sizes : List ℕ → Option ℕ) (left : Option (List ℕ)) (g : Geometry) (around : Around) (session : Session) (ended : Status)
    → around.left ≡ left → IsServable words sizes left → IsRefusing ended → EndsBy g around session ended → ⊥
session-never words sizes left g around session Done is servable refusing cause = refusing
session-never words sizes left g around session Damage is servable refusing cause = cause
session-never words sizes left g around session Usage is servable refusing cause = cause
session-never words sizes left g around session Line is servable refusing cause =
    line-never session.rounds cause.1.line cause.1.kind (stream_rounds servable.text) servable.ends servable.served (cause.1.stream servable.text (is ∙ servable.stream))
session-never words sizes left g around session Fault is servable refusing cause = refusing
session-never words sizes left g around session Memory is servable refusing cause = refusing
session-never words sizes left g around session Refused is servable refusing cause = cause
session-never words sizes left g around session Source is servable refusing cause = refusing
session-never words sizes left g around session Sink is servable refusing cause = refusing

-- no right report refuses it
pub report-never : (D : Type 0) (words : List (List ℕ)) (contents : List ℕ) (disks : Ghosts D) (bay : BayAround D) (streams : StreamsAround)
    (servable : IsServable words bay.sizes streams.left) (report : Report) (ended : Status) → IsRefusing ended
    → IsReported servable.line contents disks bay streams report ended → ⊥
report-never D words contents disks bay streams servable (Refuses refusal) ended refusing right =
    refusal-never D words bay streams.left servable refusal (subst IsRefusing right.0 refusing) right.1
report-never D words contents disks bay streams servable (Serves session) ended refusing right =
    session-never words bay.sizes streams.left right.geometry _ session ended refl servable refusing right.cause

-- a session that words ask for was served or refused, or memory or the sink failed before
pub session-ran : (D : Type 0) (words : List (List ℕ)) (contents : List ℕ) (disks : Ghosts D) (bay : BayAround D) (streams : StreamsAround) (line : TableLine)
    (result : Status) → IsServe words line → Reports words contents disks bay streams result
    → ((result ≡ Memory) ⊎ (result ≡ Sink)) ⊎ ReportsSession line contents disks bay streams result
session-ran D words contents disks bay streams line result serve (inl unread) = inl (unread-lacks D bay streams result words (job.Serve line 4 0) serve unread)
session-ran D words contents disks bay streams line result serve (inr ran) =
    elim (job-ran words (λ job. RunsJob contents disks bay streams job result) (job.Serve line 4 0) serve ran) [
      | inl session ↦ inr session.1
      | inr other ↦ absurd (other.0 (refl, refl))
    ]

-- so no call that reports is refusing
pub status-never : (D : Type 0) (words : List (List ℕ)) (contents : List ℕ) (disks : Ghosts D) (bay : BayAround D) (streams : StreamsAround)
    (status : Status) → IsServable words bay.sizes streams.left → IsRefusing status → (status ≡ Sink → ⊥)
    → Reports words contents disks bay streams status → ⊥
status-never D words contents disks bay streams status servable refusing other reports =
    elim (session-ran D words contents disks bay streams servable.line status servable.serve reports) [
      | inl before ↦ elim before [
        | inl lacked ↦ subst IsRefusing lacked refusing
        | inr failed ↦ other failed
      ]
      | inr session ↦ elim session.printed [
        | inl whole ↦ report-never D words contents disks bay streams servable session.report session.ended (subst IsRefusing whole.0 refusing) session.right
        | inr front ↦ other front.0
      ]
    ]

-- no count rose
pub some_count-never : (D : Type 0) (disks : Ghosts D) (bay : BayAround D) (streams : StreamsAround) → IsFaultless disks bay streams → SomeCountRose disks bay → ⊥
some_count-never D disks bay streams faultless (inl rose) = not-rose bay.faults bay.faults' faultless.quiet_bay rose
some_count-never D disks bay streams faultless (inr some) =
    not-rose (disks.faults some.loan.lent) (disks.faults some.back) (faultless.quiet_disks some.loan some.back some.came_back) some.rose

-- the status then: the stream was served, or memory was refused
pub faultless-status : (D : Type 0) (words : List (List ℕ)) (disks : Ghosts D) (bay : BayAround D) (streams : StreamsAround) (status : Status) (number : ℕ)
    → number ≡ number_of status
    → ((contents : List ℕ) → Reports words contents disks bay streams status)
    → (status ≡ Fault → SomeCountRose disks bay)
    → (status ≡ Source → Rose streams.source_faults streams.source_faults')
    → (status ≡ Sink → Rose streams.sink_faults streams.sink_faults')
    → IsServable words bay.sizes streams.left → IsFaultless disks bay streams → (number ≡ 0) ⊎ (number ≡ 5)
faultless-status D words disks bay streams Done number is reports fault source sink servable faultless = inl is
faultless-status D words disks bay streams Damage number is reports fault source sink servable faultless =
    absurd (status-never D words [] disks bay streams Damage servable tt (λ e. cc) (reports []))
faultless-status D words disks bay streams Usage number is reports fault source sink servable faultless =
    absurd (status-never D words [] disks bay streams Usage servable tt (λ e. cc) (reports []))
faultless-status D words disks bay streams Line number is reports fault source sink servable faultless =
    absurd (status-never D words [] disks bay streams Line servable tt (λ e. cc) (reports []))
faultless-status D words disks bay streams Fault number is reports fault source sink servable faultless =
    absurd (some_count-never D disks bay streams faultless (fault refl))
faultless-status D words disks bay streams Memory number is reports fault source sink servable faultless = inr is
faultless-status D words disks bay streams Refused number is reports fault source sink servable faultless =
    absurd (status-never D words [] disks bay streams Refused servable tt (λ e. cc) (reports []))
faultless-status D words disks bay streams Source number is reports fault source sink servable faultless =
    absurd (not-rose streams.source_faults streams.source_faults' faultless.quiet_source (source refl))
faultless-status D words disks bay streams Sink number is reports fault source sink servable faultless =
    absurd (not-rose streams.sink_faults streams.sink_faults' faultless.quiet_sink (sink refl))

-- a tool that is served ends quietly
module _ (D : Type 0) (words : List (List ℕ)) (disks : Ghosts D) (bay : BayAround D) (streams : StreamsAround) where
  tool-never : (status : Status) (job : Job) → IsTool job → (IsUnserved job → ⊥) → IsJob words job → ReportsTool words disks bay streams status → IsNeverOf job status → ⊥
  tool-never status job tool served asked (inl unread) is = elim (unread-lacks D bay streams status words job asked unread) [
    | inl lacked ↦ never-memory job (subst (IsNeverOf job) lacked is)
    | inr failed ↦ never-sink job (subst (IsNeverOf job) failed is)
  ]
  tool-never status job tool served asked (inr ran) is =
      tool-so D disks bay streams status job tool served (job-ran words (λ job. RunsTool disks bay streams job status) job asked ran) is

  -- a number of a tool, by its job
  quiet-done : (job : Job) (number : ℕ) → number ≡ 0 → IsQuiet job number
  quiet-done (job.Restore meta) number is = inl is
  quiet-done (job.Need sectors size) number is = inl is
  quiet-done (job.Check meta) number is = inl is
  quiet-done (job.Invalidate meta since snap) number is = inl is
  quiet-done (job.Dump meta logical) number is = inl is
  quiet-done (job.Backup meta origin since) number is = inl is
  quiet-done (job.Apply origin) number is = inl is
  quiet-done (job.Serve line stripes digest) number is = inl is
  quiet-done (job.Load line seed stripes) number is = inl is

  quiet-damage : (job : Job) (number : ℕ) → number ≡ 1 → (IsNeverOf job Damage → ⊥) → IsQuiet job number
  quiet-damage (job.Restore meta) number is never = absurd (never tt)
  quiet-damage (job.Need sectors size) number is never = inr (inl is)
  quiet-damage (job.Check meta) number is never = inr (inl is)
  quiet-damage (job.Invalidate meta since snap) number is never = inr (inl is)
  quiet-damage (job.Dump meta logical) number is never = inr (inl is)
  quiet-damage (job.Backup meta origin since) number is never = inr (inl is)
  quiet-damage (job.Apply origin) number is never = inr (inl is)
  quiet-damage (job.Serve line stripes digest) number is never = inr (inl is)
  quiet-damage (job.Load line seed stripes) number is never = inr (inl is)

  quiet-line : (job : Job) (number : ℕ) → number ≡ 3 → (IsNeverOf job Line → ⊥) → IsQuiet job number
  quiet-line (job.Restore meta) number is never = inr (inl is)
  quiet-line (job.Need sectors size) number is never = absurd (never tt)
  quiet-line (job.Check meta) number is never = absurd (never tt)
  quiet-line (job.Invalidate meta since snap) number is never = absurd (never tt)
  quiet-line (job.Dump meta logical) number is never = absurd (never tt)
  quiet-line (job.Backup meta origin since) number is never = absurd (never tt)
  quiet-line (job.Apply origin) number is never = absurd (never tt)
  quiet-line (job.Serve line stripes digest) number is never = absurd (never tt)
  quiet-line (job.Load line seed stripes) number is never = absurd (never tt)

  quiet-rest : (job : Job) (number : ℕ) → (number ≡ 5) ⊎ (number ≡ 6) → IsQuiet job number
  quiet-rest (job.Restore meta) number is = inr (inr is)
  quiet-rest (job.Need sectors size) number is = inr (inr is)
  quiet-rest (job.Check meta) number is = inr (inr is)
  quiet-rest (job.Invalidate meta since snap) number is = inr (inr is)
  quiet-rest (job.Dump meta logical) number is = inr (inr is)
  quiet-rest (job.Backup meta origin since) number is = inr (inr is)
  quiet-rest (job.Apply origin) number is = inr (inr is)
  quiet-rest (job.Serve line stripes digest) number is = inr (inr is)
  quiet-rest (job.Load line seed stripes) number is = inr (inr is)

  never-usage : (job : Job) → IsNeverOf job Usage
  never-usage (job.Restore meta) = tt
  never-usage (job.Need sectors size) = tt
  never-usage (job.Check meta) = tt
  never-usage (job.Invalidate meta since snap) = tt
  never-usage (job.Dump meta logical) = tt
  never-usage (job.Backup meta origin since) = tt
  never-usage (job.Apply origin) = tt
  never-usage (job.Serve line stripes digest) = tt
  never-usage (job.Load line seed stripes) = tt

  pub quiet-status : (status : Status) (number : ℕ) → number ≡ number_of status → ReportsTool words disks bay streams status
      → (status ≡ Fault → SomeCountRose disks bay) → (status ≡ Source → Rose streams.source_faults streams.source_faults')
      → (status ≡ Sink → Rose streams.sink_faults streams.sink_faults')
      → IsFaultless disks bay streams → EndsQuiet words number
  quiet-status Done number is reports fault source sink faultless = record { quiet = λ job tool served asked. quiet-done job number is }
  quiet-status Damage number is reports fault source sink faultless =
      record { quiet = λ job tool served asked. quiet-damage job number is (tool-never Damage job tool served asked reports) }
  quiet-status Usage number is reports fault source sink faultless =
      record { quiet = λ job tool served asked. absurd (tool-never Usage job tool served asked reports (never-usage job)) }
  quiet-status Line number is reports fault source sink faultless =
      record { quiet = λ job tool served asked. quiet-line job number is (tool-never Line job tool served asked reports) }
  quiet-status Fault number is reports fault source sink faultless = absurd (some_count-never D disks bay streams faultless (fault refl))
  quiet-status Memory number is reports fault source sink faultless = record { quiet = λ job tool served asked. quiet-rest job number (inl is) }
  quiet-status Refused number is reports fault source sink faultless = record { quiet = λ job tool served asked. quiet-rest job number (inr is) }
  quiet-status Source number is reports fault source sink faultless =
      absurd (not-rose streams.source_faults streams.source_faults' faultless.quiet_source (source refl))
  quiet-status Sink number is reports fault source sink faultless =
      absurd (not-rose streams.sink_faults streams.sink_faults' faultless.quiet_sink (sink refl))
