-- How calls end, by the job that their words ask for.
use Rattle.std.proofs.Common.{◌≡◌, ◌⊎◌, inl, inr, ℕ, List, refl, ap, ◌∙◌, subst, arith}
use Rattle.std.specs.Prelude.{Option}
use Rattle.era_base.specs.declared.disk.Disk.{Ghosts}
use Rattle.era_base.specs.declared.geometry.GeomError.{GeomError}
use Rattle.era_base.specs.declared.geometry.GeomError.TheVariants.{BadBlockSize, NoBlocks, TooManyBlocks}
use Rattle.era_words.specs.declared.job.Job.{Job}
use Rattle.era_words.specs.declared.job.Job.TheVariants as job
use Rattle.era_words.specs.Words.{IsJob}
use Rattle.era_words.proofs.OneJob.{one_job}
use Rattle.era_tools.specs.Around.{BayAround}
use Rattle.era_tools.specs.Needs.{AreGeometry, Blocks, IsNeeded, IsNoGeometry, Needed, NoGeometry, TellsNeed, needed_status, needed_text}
use Rattle.era_tools.specs.Printing.{number_of}
use Rattle.era_tools.specs.declared.status.Status.{Status}
use Rattle.era_tools.specs.declared.status.Status.TheVariants.{Done, Usage, Memory, Refused, Sink}
use Rattle.era_top.specs.declared.refusal.WordsRefusal.{WordsRefusal}
use Rattle.era_top.specs.declared.refusal.WordsRefusal.TheVariants.{NoCommand, NotYet, NoRoom}
use Rattle.era_top.specs.Around.{StreamsAround}
use Rattle.era_top.specs.Refusals.{words_status, words_text}
use Rattle.era_top.specs.Tools.{EndsWith, RefusesWords, ReportsJob, ReportsUnread, RunsTool}
use Rattle.era_top.specs.Words.{IsTool, IsUnserved}
use Rattle.era_top.proofs.ToolEnds.{printed-ends}

-- the job that words ask for was done
pub job-ran : (words : List (List ℕ)) (Runs : Job → Type 0) (job : Job) → IsJob words job → ReportsJob words Runs → Runs job
job-ran words Runs job asked reports = subst Runs (one_job words reports.job job reports.asked asked) reports.ran

-- A run ends by the status that is wanted. That of refused memory or of a failed sink may come in its place.
abbrev pub Ends : Status → Status → Type 0
Ends result wanted = (result ≡ wanted) ⊎ ((result ≡ Memory) ⊎ (result ≡ Sink))

-- and the program with its number
pub ends-number : (result wanted : Status) → Ends result wanted → EndsWith (number_of result) (number_of wanted)
ends-number result wanted (inl is) = inl (ap number_of is)
ends-number result wanted (inr (inl lacked)) = inr (inl (ap number_of lacked))
ends-number result wanted (inr (inr failed)) = inr (inr (ap number_of failed))

pub ends-printed : (result ended wanted : Status) → (result ≡ ended) ⊎ (result ≡ Sink) → (ended ≡ wanted) ⊎ (ended ≡ Memory) → Ends result wanted
ends-printed result ended wanted (inl same) (inl is) = inl (same ∙ is)
ends-printed result ended wanted (inl same) (inr lacked) = inr (inl (same ∙ lacked))
ends-printed result ended wanted (inr failed) is = inr (inr failed)

-- numbers of a geometry aren't refused as none
pub geometry-never : (error : GeomError) (sectors size : ℕ) → AreGeometry sectors size → IsNoGeometry error sectors size → ⊥
geometry-never BadBlockSize sectors size are none = none are.block_size
geometry-never NoBlocks sectors size are none = let some = are.some in omega (arith, some, none.1)
geometry-never (TooManyBlocks count) sectors size are none = let limited = are.limited in omega (arith, limited, none.1, none.2)

-- what a need tells ends by its status
needed-done : (sectors size : ℕ) (told : Needed) → IsNeeded sectors size told → AreGeometry sectors size → needed_status told ≡ Done
needed-done sectors size (Blocks count) right are = refl
needed-done sectors size (NoGeometry error) right are = absurd (geometry-never error sectors size are right)

needed-refused : (sectors size : ℕ) (told : Needed) (error : GeomError) → IsNeeded sectors size told → IsNoGeometry error sectors size → needed_status told ≡ Refused
needed-refused sectors size (Blocks count) error right none = absurd (geometry-never error sectors size right.0 none)
needed-refused sectors size (NoGeometry other) error right none = refl

pub need-done : (sectors size : ℕ) (given given' : Option (List ℕ)) (result : Status) → AreGeometry sectors size → TellsNeed sectors size given given' result → Ends result Done
need-done sectors size given given' result are tells =
    ends-printed result (needed_status tells.told) Done (printed-ends given given' (needed_text size tells.told) (needed_status tells.told) result tells.printed)
    (inl (needed-done sectors size tells.told tells.right are))

pub need-refused : (sectors size : ℕ) (error : GeomError) (given given' : Option (List ℕ)) (result : Status) → IsNoGeometry error sectors size → TellsNeed sectors size given given' result → Ends result Refused
need-refused sectors size error given given' result none tells =
    ends-printed result (needed_status tells.told) Refused (printed-ends given given' (needed_text size tells.told) (needed_status tells.told) result tells.printed)
    (inl (needed-refused sectors size tells.told error tells.right none))

module _ (D : Type 0) (bay : BayAround D) (streams : StreamsAround) (result : Status) where
  -- words that are refused
  pub words-ends : (refusal : WordsRefusal) → RefusesWords bay streams refusal result → (result ≡ words_status refusal) ⊎ (result ≡ Sink)
  words-ends refusal refuses = printed-ends streams.given streams.given' (words_text refusal) (words_status refusal) result refuses.printed

  pub usage-ends : (refusal : WordsRefusal) → words_status refusal ≡ Usage → RefusesWords bay streams refusal result → Ends result Usage
  usage-ends refusal is refuses = ends-printed result (words_status refusal) Usage (words-ends refusal refuses) (inl is)

  pub unread-ends : (words : List (List ℕ)) → ReportsUnread words bay streams result → Ends result Usage
  unread-ends words (inl none) = usage-ends NoCommand refl none.1
  unread-ends words (inr lacked) = ends-printed result Memory Usage (words-ends NoRoom lacked) (inr refl)

  -- words that ask for a job weren't read for want of memory alone
  pub unread-lacks : (words : List (List ℕ)) (job : Job) → IsJob words job → ReportsUnread words bay streams result → (result ≡ Memory) ⊎ (result ≡ Sink)
  unread-lacks words job asked (inl none) = absurd (none.0 job asked)
  unread-lacks words job asked (inr lacked) = words-ends NoRoom lacked

  -- a tool that isn't served, and no tool
  pub unserved-ends : (disk : Ghosts D) (job : Job) → IsTool job → IsUnserved job → RunsTool disk bay streams job result → Ends result Usage
  unserved-ends disk (job.Restore meta) tool unserved ran = absurd unserved
  unserved-ends disk (job.Backup meta origin since) tool unserved ran = absurd unserved
  unserved-ends disk (job.Apply origin) tool unserved ran = usage-ends NotYet refl ran
  unserved-ends disk (job.Need sectors size) tool unserved ran = absurd unserved
  unserved-ends disk (job.Check meta) tool unserved ran = absurd unserved
  unserved-ends disk (job.Invalidate meta since snap) tool unserved ran = absurd unserved
  unserved-ends disk (job.Dump meta logical) tool unserved ran = absurd unserved
  unserved-ends disk (job.Serve line stripes digest) tool unserved ran = absurd tool
  unserved-ends disk (job.Load line seed stripes) tool unserved ran = absurd tool

  pub no_tool-ends : (disk : Ghosts D) (job : Job) → (IsTool job → ⊥) → RunsTool disk bay streams job result → Ends result Usage
  no_tool-ends disk (job.Serve line stripes digest) none ran = usage-ends NoCommand refl ran
  no_tool-ends disk (job.Load line seed stripes) none ran = usage-ends NoCommand refl ran
  no_tool-ends disk (job.Need sectors size) none ran = absurd (none tt)
  no_tool-ends disk (job.Check meta) none ran = absurd (none tt)
  no_tool-ends disk (job.Invalidate meta since snap) none ran = absurd (none tt)
  no_tool-ends disk (job.Dump meta logical) none ran = absurd (none tt)
  no_tool-ends disk (job.Restore meta) none ran = absurd (none tt)
  no_tool-ends disk (job.Backup meta origin since) none ran = absurd (none tt)
  no_tool-ends disk (job.Apply origin) none ran = absurd (none tt)
