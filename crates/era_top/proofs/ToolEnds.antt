-- How calls of tools end: by a fault with a count that rose, with their disks put back, and by the statuses of their jobs.
use Rattle.std.proofs.Common.{◌≡◌, ◌⊎◌, inl, inr, ℕ, zero, suc, ◌≤◌, max, length-append, Bool, List, [], ◌∷◌, ◌++◌, length, refl, ap, sym, ◌∙◌, subst, arith}
use Rattle.std.specs.Prelude.{Option, Some, None, Result, Ok, Err, slice_get}
use Rattle.std.proofs.lemmas.Option.{slice_get_within}
use Rattle.era_base.specs.Bay.{Loan, new_loan, ended_loan}
use Rattle.era_base.specs.Faults.{Rose}
use Rattle.era_base.specs.declared.disk.Disk.{Ghosts}
use Rattle.era_check.specs.Checks.{refusal_in}
use Rattle.era_check.specs.declared.checked.Checked.{Checked}
use Rattle.era_check.specs.declared.checked.Checked.TheVariants as found
use Rattle.era_meta.specs.declared.refusal.MetaError.{MetaError}
use Rattle.era_meta.specs.declared.refusal.MetaError.TheVariants as error
use Rattle.era_meta.specs.Meaning.{Meaning}
use Rattle.era_text.specs.ReadDumps.{HasFaultCause as HasTextFault}
use Rattle.era_text.specs.declared.text_end.TextEnd.{TextEnd}
use Rattle.era_text.specs.declared.text_end.TextEnd.TheVariants as end
use Rattle.era_model.specs.Marks.{BlockMarks}
use Rattle.era_tools.specs.Around.{BayAround, Between, behind}
use Rattle.era_tools.specs.BackupText.{backup_status}
use Rattle.era_tools.specs.BackupTool.{HasCopyCause, IsOriginCause, IsUncopied, IsUnlisted, RunsBackup, RunsCopy, TellsCopies}
use Rattle.era_tools.specs.declared.copy_error.CopyError.{CopyError}
use Rattle.era_tools.specs.declared.copy_error.CopyError.TheVariants.{Origin, Output}
use Rattle.era_tools.specs.declared.listing.Listing.{Listing}
use Rattle.era_tools.specs.CheckTool.{RunsCheck, checked_status}
use Rattle.era_tools.specs.ClosedImages.{HasTried, IsNotLent, IsUnopened, RunsOver}
use Rattle.era_tools.specs.DumpTool.{EndsDump}
use Rattle.era_tools.specs.ListTool.{Listed, Blocks, NoSnapshot, NoMemory, TellsList, listed_status, listed_text}
use Rattle.era_tools.specs.Needs.{Needed, Blocks as NeededBlocks, NoGeometry as NoneNeeded, needed_status}
use Rattle.era_tools.specs.Printing.{Prints}
use Rattle.era_tools.specs.Refusals.{refusal_status, refusal_text}
use Rattle.era_tools.specs.ReadTexts.{SourceAround, end_status}
use Rattle.era_tools.specs.RestoreTool.{HasRestored, IsUnrestored, RunsRestore}
use Rattle.era_tools.specs.declared.refusal.Refusal.{Refusal}
use Rattle.era_tools.specs.declared.refusal.Refusal.TheVariants.{NoGeometry, SameDevice, OriginSmall, Metadata, NoSnap, BayFault, DataFault, NoRoom}
use Rattle.era_tools.specs.declared.status.Status.{Status}
use Rattle.era_tools.specs.declared.status.Status.TheVariants.{Done, Damage, Usage, Line, Fault, Memory, Source, Sink}
use Rattle.era_tools.proofs.LastLoan.{slice_get-last, slice_get-from_last}
use Rattle.era_words.specs.declared.job.Job.{Job}
use Rattle.era_words.specs.declared.job.Job.TheVariants as job
use Rattle.era_top.specs.declared.refusal.WordsRefusal.{WordsRefusal}
use Rattle.era_top.specs.declared.refusal.WordsRefusal.TheVariants.{NoCommand, NotYet, NoRoom as NoWordsRoom}
use Rattle.era_top.proofs.Causes.{printed-fault}
use Rattle.era_top.specs.Around.{AllReturned, HasFaultCause, HasSourceCause, SomeCountRose, StreamsAround, source_of}
use Rattle.era_top.specs.Refusals.{words_status, words_text}
use Rattle.era_top.specs.Tools.{RefusesWords, RunsTool}
use Rattle.era_top.specs.Words.{IsTool, IsUnserved}

-- a run ended as its text says, or the sink failed
pub printed-ends : (given given' : Option (List ℕ)) (text : List ℕ) (ended result : Status) → Prints given given' text ended result → (result ≡ ended) ⊎ (result ≡ Sink)
printed-ends given given' text ended result (inl all) = inl all.0
printed-ends given given' text ended result (inr some) = inr some.0

-- no disk was lent
pub none-returned : (D : Type 0) (bay : BayAround D) → bay.loans' ≡ bay.loans → AllReturned bay
none-returned D bay same = λ index loan began found.
    let within = slice_get_within bay.loans index loan (subst (λ (loans : List (Loan D)). slice_get loans index ≡ Some loan) same found) in
    absurd (omega arith)

-- the one disk that was lent was put back
pub one-returned : (D : Type 0) (bay : BayAround D) (lent back : D) → bay.loans' ≡ bay.loans ++ ended_loan (new_loan lent) back ∷ [] → AllReturned bay
one-returned D bay lent back loans = λ index loan began found.
    let ended : Loan D = ended_loan (new_loan lent) back in
    let same : loan ≡ ended = slice_get-from_last bay.loans ended index loan began
    (subst (λ (loans : List (Loan D)). slice_get loans index ≡ Some loan) loans found) in
    (back, ap (λ (loan : Loan D). loan.back) same)

-- and its count rose
pub one-rose : (D : Type 0) (disk : Ghosts D) (bay : BayAround D) (lent back : D) → bay.loans' ≡ bay.loans ++ ended_loan (new_loan lent) back ∷ []
    → Rose (disk.faults lent) (disk.faults back) → SomeCountRose disk bay
one-rose D disk bay lent back loans rose = inr (record {
  loan = ended_loan (new_loan lent) back;
  back = back;
  came_back = record {
    index = length bay.loans;
    began = omega arith;
    found = subst (λ (loans : List (Loan D)). slice_get loans (length bay.loans) ≡ Some (ended_loan (new_loan lent) back)) (sym loans)
        (slice_get-last bay.loans (ended_loan (new_loan lent) back));
    ended = refl;
  };
  rose = rose;
})

-- A status of a run that reads words or a text that is refused, or a source that failed.
abbrev pub IsOfInput : Status → Type 0
IsOfInput Usage = Unit {0}
IsOfInput Line = Unit {0}
IsOfInput Source = Unit {0}
IsOfInput status = ⊥

-- A status by which a tool that does a job never ends: one of what it doesn't read, or of what it doesn't test.
abbrev pub IsNeverOf : Job → Status → Type 0
IsNeverOf (job.Restore meta) Damage = Unit {0}
IsNeverOf (job.Restore meta) Usage = Unit {0}
IsNeverOf (job.Restore meta) status = ⊥
IsNeverOf other status = IsOfInput status

-- no tool's job excludes want of memory or a failed sink
pub never-memory : (job : Job) → IsNeverOf job Memory → ⊥
never-memory (job.Need sectors size) is = is
never-memory (job.Check meta) is = is
never-memory (job.Invalidate meta since snap) is = is
never-memory (job.Dump meta logical) is = is
never-memory (job.Restore meta) is = is
never-memory (job.Backup meta origin since) is = is
never-memory (job.Apply origin) is = is
never-memory (job.Serve line stripes digest) is = is
never-memory (job.Load line seed stripes) is = is

pub never-sink : (job : Job) → IsNeverOf job Sink → ⊥
never-sink (job.Need sectors size) is = is
never-sink (job.Check meta) is = is
never-sink (job.Invalidate meta since snap) is = is
never-sink (job.Dump meta logical) is = is
never-sink (job.Restore meta) is = is
never-sink (job.Backup meta origin since) is = is
never-sink (job.Apply origin) is = is
never-sink (job.Serve line stripes digest) is = is
never-sink (job.Load line seed stripes) is = is

-- what is so of the status of a text is so of that of its run, but for the sink's failure
ends-so : (given given' : Option (List ℕ)) (text : List ℕ) (ended result : Status) → Prints given given' text ended result → (IsOfInput ended → ⊥) → IsOfInput result → ⊥
ends-so given given' text ended result printed never is = elim (printed-ends given given' text ended result printed) [
  | inl same ↦ never (subst IsOfInput same is)
  | inr failed ↦ subst IsOfInput failed is
]

needed-so : (told : Needed) → IsOfInput (needed_status told) → ⊥
needed-so (NeededBlocks count) is = is
needed-so (NoneNeeded error) is = is

listed-so : (told : Listed) → IsOfInput (listed_status told) → ⊥
listed-so (Blocks runs) is = is
listed-so NoSnapshot is = is
listed-so NoMemory is = is

checked-so : (finding : Checked) → IsOfInput (checked_status finding) → ⊥
checked-so (found.Clean era used) is = is
checked-so (found.Damage kind block) is = is
checked-so found.Unformatted is = is
checked-so (found.MetaSmall have need) is = is
checked-so (found.Fault count) is = is
checked-so found.Memory is = is

metadata-so : (refused : MetaError) → IsOfInput (refusal_status (Metadata refused)) → ⊥
metadata-so (error.MetaSmall have need) is = is
metadata-so (error.Fault count) is = is
metadata-so error.Unformatted is = is
metadata-so (error.Damaged kind block) is = is
metadata-so (error.WrongGeometry kept asked) is = is
metadata-so error.EraEnd is = is
metadata-so (error.SequenceEnd number) is = is
metadata-so error.Memory is = is

refusal-so : (refusal : Refusal) → IsOfInput (refusal_status refusal) → ⊥
refusal-so (NoGeometry error size) is = is
refusal-so SameDevice is = is
refusal-so (OriginSmall have need) is = is
refusal-so (Metadata refused) is = metadata-so refused is
refusal-so NoSnap is = is
refusal-so (BayFault count) is = is
refusal-so (DataFault count) is = is
refusal-so NoRoom is = is

-- why a text wasn't read to its end is no fault, and it is the source's failure where that rose
unread-fault : (ended : TextEnd) → end_status ended ≡ Fault → ⊥
unread-fault (end.Line number kind) is = cc
unread-fault (end.Source count) is = cc
unread-fault (end.Sink count) is = cc
unread-fault end.Memory is = cc

unread-source : (ended : TextEnd) (before now : ℕ) → HasTextFault before now ended → end_status ended ≡ Source → Rose before now
unread-source (end.Line number kind) before now cause is = cc
unread-source (end.Source count) before now cause is = cause.1
unread-source (end.Sink count) before now cause is = absurd cause
unread-source end.Memory before now cause is = cc

-- a restoring ends neither by a damage nor by its words
ends-never : (Never : Status → Type 0) → (Never Sink → ⊥) → (given given' : Option (List ℕ)) (text : List ℕ) (ended result : Status)
    → Prints given given' text ended result → (Never ended → ⊥) → Never result → ⊥
ends-never Never sink given given' text ended result printed never is = elim (printed-ends given given' text ended result printed) [
  | inl same ↦ never (subst Never same is)
  | inr failed ↦ sink (subst Never failed is)
]

unread-never : (name : List ℕ) (ended : TextEnd) → IsNeverOf (job.Restore name) (end_status ended) → ⊥
unread-never name (end.Line number kind) is = is
unread-never name (end.Source count) is = is
unread-never name (end.Sink count) is = is
unread-never name end.Memory is = is

metadata-never : (name : List ℕ) (refused : MetaError) → IsNeverOf (job.Restore name) (refusal_status (Metadata refused)) → ⊥
metadata-never name (error.MetaSmall have need) is = is
metadata-never name (error.Fault count) is = is
metadata-never name error.Unformatted is = is
metadata-never name (error.Damaged kind block) is = is
metadata-never name (error.WrongGeometry kept asked) is = is
metadata-never name error.EraEnd is = is
metadata-never name (error.SequenceEnd number) is = is
metadata-never name error.Memory is = is

refusal-never : (name : List ℕ) (refusal : Refusal) → IsNeverOf (job.Restore name) (refusal_status refusal) → ⊥
refusal-never name (NoGeometry error size) is = is
refusal-never name SameDevice is = is
refusal-never name (OriginSmall have need) is = is
refusal-never name (Metadata refused) is = metadata-never name refused is
refusal-never name NoSnap is = is
refusal-never name (BayFault count) is = is
refusal-never name (DataFault count) is = is
refusal-never name NoRoom is = is

-- a refusal isn't the source's
pub refused-no_source : (streams : StreamsAround) (result : Status) (refusal : Refusal) → Prints streams.given streams.given' (refusal_text refusal) (refusal_status refusal) result
    → HasSourceCause streams result
refused-no_source streams result refusal printed = λ is.
    absurd (ends-so streams.given streams.given' (refusal_text refusal) (refusal_status refusal) result printed (refusal-so refusal) (subst IsOfInput (sym is) tt))

-- the last two loans
two-last : {D : Type 0} (before : List (Loan D)) (one other found : Loan D) (index : ℕ) → length before ≤ index
    → slice_get ((before ++ one ∷ []) ++ other ∷ []) index ≡ Some found → (found ≡ one) ⊎ (found ≡ other)
two-last [] one other found zero from is = inl (cc)
two-last [] one other found (suc zero) from is = inr (cc)
two-last [] one other found (suc (suc index)) from is = absurd (cc)
two-last (loan ∷ before) one other found zero from is = absurd (omega arith)
two-last (loan ∷ before) one other found (suc index) from is = two-last before one other found index (omega arith) is

-- how a copying ended
ended-fault : {T : Type 0} (before now : ℕ) (ended : Result T CopyError) → HasCopyCause before now ended → backup_status ended ≡ Fault → Rose before now
ended-fault before now (Ok value) cause is = cc
ended-fault before now (Err (Origin count)) cause is = cause.1
ended-fault before now (Err Output) cause is = cc

ended-so : {T : Type 0} (ended : Result T CopyError) → IsOfInput (backup_status ended) → ⊥
ended-so (Ok value) is = is
ended-so (Err (Origin count)) is = is
ended-so (Err Output) is = is

-- an origin that wasn't lent
origin-fault : (D : Type 0) (bay : BayAround D) (name : List ℕ) (sectors : ℕ) (refusal : Refusal) → IsOriginCause bay name sectors refusal → refusal_status refusal ≡ Fault → Rose bay.faults bay.faults'
origin-fault D bay name sectors (BayFault count) cause is = cause.1
origin-fault D bay name sectors NoRoom cause is = cc
origin-fault D bay name sectors (OriginSmall have need) cause is = cc
origin-fault D bay name sectors (NoGeometry error size) cause is = absurd cause
origin-fault D bay name sectors SameDevice cause is = absurd cause
origin-fault D bay name sectors (Metadata refused) cause is = absurd cause
origin-fault D bay name sectors NoSnap cause is = absurd cause
origin-fault D bay name sectors (DataFault count) cause is = absurd cause

module _ (D : Type 0) (disk : Ghosts D) (bay : BayAround D) where
  -- a device that was lent and tried
  tried-returned : (name : List ℕ) (lent : D) (ended : Option MetaError) → HasTried disk bay name lent ended → AllReturned bay
  tried-returned name lent ended tried = one-returned D bay lent tried.back tried.loans

  tried-fault : (name : List ℕ) (lent : D) (count : ℕ) → HasTried disk bay name lent (Some (error.Fault count)) → SomeCountRose disk bay
  tried-fault name lent count tried = one-rose D disk bay lent tried.back tried.loans tried.tried.cause.1

  not_lent-returned : (refusal : Refusal) → IsNotLent bay refusal → AllReturned bay
  not_lent-returned (BayFault count) cause = none-returned D bay cause.0.loans
  not_lent-returned NoRoom cause = none-returned D bay cause.0.loans
  not_lent-returned (NoGeometry error size) cause = absurd cause
  not_lent-returned SameDevice cause = absurd cause
  not_lent-returned (OriginSmall have need) cause = absurd cause
  not_lent-returned (Metadata refused) cause = absurd cause
  not_lent-returned NoSnap cause = absurd cause
  not_lent-returned (DataFault count) cause = absurd cause

  not_lent-fault : (refusal : Refusal) → IsNotLent bay refusal → refusal_status refusal ≡ Fault → SomeCountRose disk bay
  not_lent-fault (BayFault count) cause is = inl cause.2
  not_lent-fault NoRoom cause is = cc
  not_lent-fault (NoGeometry error size) cause is = absurd cause
  not_lent-fault SameDevice cause is = absurd cause
  not_lent-fault (OriginSmall have need) cause is = absurd cause
  not_lent-fault (Metadata refused) cause is = absurd cause
  not_lent-fault NoSnap cause is = absurd cause
  not_lent-fault (DataFault count) cause is = absurd cause

  unopened-returned : (name : List ℕ) (refusal : Refusal) → IsUnopened disk bay name refusal → AllReturned bay
  unopened-returned name (Metadata refused) cause = tried-returned name cause.0 (Some refused) cause.1
  unopened-returned name (BayFault count) cause = not_lent-returned (BayFault count) cause
  unopened-returned name NoRoom cause = not_lent-returned NoRoom cause
  unopened-returned name (NoGeometry error size) cause = absurd cause
  unopened-returned name SameDevice cause = absurd cause
  unopened-returned name (OriginSmall have need) cause = absurd cause
  unopened-returned name NoSnap cause = absurd cause
  unopened-returned name (DataFault count) cause = absurd cause

  refused-fault : (name : List ℕ) (lent : D) (refused : MetaError) → HasTried disk bay name lent (Some refused) → refusal_status (Metadata refused) ≡ Fault → SomeCountRose disk bay
  refused-fault name lent (error.Fault count) tried is = tried-fault name lent count tried
  refused-fault name lent (error.MetaSmall have need) tried is = cc
  refused-fault name lent error.Unformatted tried is = cc
  refused-fault name lent (error.Damaged kind block) tried is = cc
  refused-fault name lent (error.WrongGeometry kept asked) tried is = cc
  refused-fault name lent error.EraEnd tried is = cc
  refused-fault name lent (error.SequenceEnd number) tried is = cc
  refused-fault name lent error.Memory tried is = cc

  unopened-fault : (name : List ℕ) (refusal : Refusal) → IsUnopened disk bay name refusal → refusal_status refusal ≡ Fault → SomeCountRose disk bay
  unopened-fault name (Metadata refused) cause is = refused-fault name cause.0 refused cause.1 is
  unopened-fault name (BayFault count) cause is = not_lent-fault (BayFault count) cause is
  unopened-fault name NoRoom cause is = cc
  unopened-fault name (NoGeometry error size) cause is = absurd cause
  unopened-fault name SameDevice cause is = absurd cause
  unopened-fault name (OriginSmall have need) cause is = absurd cause
  unopened-fault name NoSnap cause is = absurd cause
  unopened-fault name (DataFault count) cause is = absurd cause

  checked-fault : (name : List ℕ) (lent : D) (finding : Checked) → HasTried disk bay name lent (refusal_in finding) → checked_status finding ≡ Fault → SomeCountRose disk bay
  checked-fault name lent (found.Fault count) tried is = tried-fault name lent count tried
  checked-fault name lent (found.Clean era used) tried is = cc
  checked-fault name lent (found.Damage kind block) tried is = cc
  checked-fault name lent found.Unformatted tried is = cc
  checked-fault name lent (found.MetaSmall have need) tried is = cc
  checked-fault name lent found.Memory tried is = cc

  -- a check
  check-returned : (name : List ℕ) (given given' : Option (List ℕ)) (result : Status) → RunsCheck disk bay name given given' result → AllReturned bay
  check-returned name given given' result (inl checks) = tried-returned name checks.lent (refusal_in checks.finding) checks.tried
  check-returned name given given' result (inr tells) = not_lent-returned tells.refusal tells.cause

  check-fault : (name : List ℕ) (given given' : Option (List ℕ)) (result : Status) → RunsCheck disk bay name given given' result → HasFaultCause disk bay result
  check-fault name given given' result (inl checks) = λ is.
      checked-fault name checks.lent checks.finding checks.tried (printed-fault given given' _ (checked_status checks.finding) result checks.printed is)
  check-fault name given given' result (inr tells) = λ is.
      not_lent-fault tells.refusal tells.cause (printed-fault given given' _ (refusal_status tells.refusal) result tells.printed is)

  check-so : (name : List ℕ) (given given' : Option (List ℕ)) (result : Status) → RunsCheck disk bay name given given' result → IsOfInput result → ⊥
  check-so name given given' result (inl checks) is = ends-so given given' _ (checked_status checks.finding) result checks.printed (checked-so checks.finding) is
  check-so name given given' result (inr tells) is = ends-so given given' _ (refusal_status tells.refusal) result tells.printed (refusal-so tells.refusal) is

  -- a tool over what an image stands for
  over-returned : (name : List ℕ) (given given' : Option (List ℕ)) (result : Status) (Tells : Meaning → Type 0) → RunsOver disk bay name given given' result Tells → AllReturned bay
  over-returned name given given' result Tells (inl tells) = tried-returned name tells.lent None tells.tried
  over-returned name given given' result Tells (inr tells) = unopened-returned name tells.refusal tells.cause

  over-fault : (name : List ℕ) (given given' : Option (List ℕ)) (result : Status) (Tells : Meaning → Type 0) → ((meaning : Meaning) → Tells meaning → result ≡ Fault → ⊥)
      → RunsOver disk bay name given given' result Tells → HasFaultCause disk bay result
  over-fault name given given' result Tells never (inl tells) = λ is. absurd (never tells.meaning tells.told is)
  over-fault name given given' result Tells never (inr tells) = λ is.
      unopened-fault name tells.refusal tells.cause (printed-fault given given' _ (refusal_status tells.refusal) result tells.printed is)

  over-so : (name : List ℕ) (given given' : Option (List ℕ)) (result : Status) (Tells : Meaning → Type 0) → ((meaning : Meaning) → Tells meaning → IsOfInput result → ⊥)
      → RunsOver disk bay name given given' result Tells → IsOfInput result → ⊥
  over-so name given given' result Tells never (inl tells) is = never tells.meaning tells.told is
  over-so name given given' result Tells never (inr tells) is = ends-so given given' _ (refusal_status tells.refusal) result tells.printed (refusal-so tells.refusal) is

  -- a restoring
  unrestored-returned : (name : List ℕ) (m : BlockMarks) (refusal : Refusal) → IsUnrestored disk bay name m refusal → AllReturned bay
  unrestored-returned name m (Metadata refused) cause = one-returned D bay cause.0 cause.1.back cause.1.loans
  unrestored-returned name m (BayFault count) cause = not_lent-returned (BayFault count) cause
  unrestored-returned name m NoRoom cause = not_lent-returned NoRoom cause
  unrestored-returned name m (NoGeometry error size) cause = absurd cause
  unrestored-returned name m SameDevice cause = absurd cause
  unrestored-returned name m (OriginSmall have need) cause = absurd cause
  unrestored-returned name m NoSnap cause = absurd cause
  unrestored-returned name m (DataFault count) cause = absurd cause

  restored-fault : (name : List ℕ) (m : BlockMarks) (lent : D) (refused : MetaError) → HasRestored disk bay name m lent (Some refused) → refusal_status (Metadata refused) ≡ Fault → SomeCountRose disk bay
  restored-fault name m lent (error.Fault count) restored is = one-rose D disk bay lent restored.back restored.loans restored.cause.1
  restored-fault name m lent (error.MetaSmall have need) restored is = cc
  restored-fault name m lent error.Unformatted restored is = cc
  restored-fault name m lent (error.Damaged kind block) restored is = cc
  restored-fault name m lent (error.WrongGeometry kept asked) restored is = cc
  restored-fault name m lent error.EraEnd restored is = cc
  restored-fault name m lent (error.SequenceEnd number) restored is = cc
  restored-fault name m lent error.Memory restored is = cc

  unrestored-fault : (name : List ℕ) (m : BlockMarks) (refusal : Refusal) → IsUnrestored disk bay name m refusal → refusal_status refusal ≡ Fault → SomeCountRose disk bay
  unrestored-fault name m (Metadata refused) cause is = restored-fault name m cause.0 refused cause.1 is
  unrestored-fault name m (BayFault count) cause is = not_lent-fault (BayFault count) cause is
  unrestored-fault name m NoRoom cause is = cc
  unrestored-fault name m (NoGeometry error size) cause is = absurd cause
  unrestored-fault name m SameDevice cause is = absurd cause
  unrestored-fault name m (OriginSmall have need) cause is = absurd cause
  unrestored-fault name m NoSnap cause is = absurd cause
  unrestored-fault name m (DataFault count) cause is = absurd cause

  restore-returned : (source : SourceAround) (name : List ℕ) (given given' : Option (List ℕ)) (result : Status) → RunsRestore disk bay source name given given' result → AllReturned bay
  restore-returned source name given given' result (inl tells) = one-returned D bay tells.lent tells.restored.back tells.restored.loans
  restore-returned source name given given' result (inr (inl tells)) = unrestored-returned name tells.marks tells.refusal tells.cause
  restore-returned source name given given' result (inr (inr tells)) = none-returned D bay tells.left.loans

  restore-fault : (source : SourceAround) (name : List ℕ) (given given' : Option (List ℕ)) (result : Status) → RunsRestore disk bay source name given given' result → HasFaultCause disk bay result
  restore-fault source name given given' result (inl tells) = λ is.
      let e : Done ≡ Fault = printed-fault given given' _ Done result tells.printed is in absurd (cc)
  restore-fault source name given given' result (inr (inl tells)) = λ is.
      unrestored-fault name tells.marks tells.refusal tells.cause (printed-fault given given' _ (refusal_status tells.refusal) result tells.printed is)
  restore-fault source name given given' result (inr (inr tells)) = λ is.
      absurd (unread-fault tells.ended (printed-fault given given' _ (end_status tells.ended) result tells.printed is))

  restore-so : (source : SourceAround) (name : List ℕ) (given given' : Option (List ℕ)) (result : Status) → RunsRestore disk bay source name given given' result
      → IsNeverOf (job.Restore name) result → ⊥
  restore-so source name given given' result (inl tells) is =
      ends-never (IsNeverOf (job.Restore name)) (λ no. no) given given' _ Done result tells.printed (λ no. no) is
  restore-so source name given given' result (inr (inl tells)) is =
      ends-never (IsNeverOf (job.Restore name)) (λ no. no) given given' _ (refusal_status tells.refusal) result tells.printed (refusal-never name tells.refusal) is
  restore-so source name given given' result (inr (inr tells)) is =
      ends-never (IsNeverOf (job.Restore name)) (λ no. no) given given' _ (end_status tells.ended) result tells.printed (unread-never name tells.ended) is

  restore-source : (source : SourceAround) (name : List ℕ) (given given' : Option (List ℕ)) (result : Status) → RunsRestore disk bay source name given given' result
      → result ≡ Source → Rose source.faults source.faults'
  restore-source source name given given' result (inl tells) is = elim (printed-ends given given' _ Done result tells.printed) [
    | inl same ↦ let e : Done ≡ Source = sym same ∙ is in absurd (cc)
    | inr failed ↦ let e : Sink ≡ Source = sym failed ∙ is in absurd (cc)
  ]
  restore-source source name given given' result (inr (inl tells)) is =
      absurd (ends-so given given' _ (refusal_status tells.refusal) result tells.printed (refusal-so tells.refusal) (subst IsOfInput (sym is) tt))
  restore-source source name given given' result (inr (inr tells)) is = elim (printed-ends given given' _ (end_status tells.ended) result tells.printed) [
    | inl same ↦ unread-source tells.ended source.faults source.faults' tells.cause.cause (sym same ∙ is)
    | inr failed ↦ let e : Sink ≡ Source = sym failed ∙ is in absurd (cc)
  ]

  -- a backup: the metadata device was put back, and then the origin
  both-returned : (between : Between D) (one back other other_back : D) → between.loans ≡ bay.loans ++ ended_loan (new_loan one) back ∷ []
      → bay.loans' ≡ between.loans ++ ended_loan (new_loan other) other_back ∷ [] → AllReturned bay
  both-returned between one back other other_back first second = λ index loan began found.
      let before : Loan D = ended_loan (new_loan one) back in
      let last : Loan D = ended_loan (new_loan other) other_back in
      elim (two-last bay.loans before last loan index began
      (subst (λ (loans : List (Loan D)). slice_get loans index ≡ Some loan) (second ∙ ap (λ (loans : List (Loan D)). loans ++ last ∷ []) first) found)) [
        | inl same ↦ (back, ap (λ (loan : Loan D). loan.back) same)
        | inr same ↦ (other_back, ap (λ (loan : Loan D). loan.back) same)
      ]

  copy-returned : (between : Between D) (one back : D) (origin : List ℕ) (listing : Listing) (since : ℕ) (given given' : Option (List ℕ)) (result : Status)
      → between.loans ≡ bay.loans ++ ended_loan (new_loan one) back ∷ [] → RunsCopy disk (behind bay between) origin listing since given given' result → AllReturned bay
  copy-returned between one back origin listing since given given' result first (inl tells) = both-returned between one back tells.lent tells.back first tells.read.loans
  copy-returned between one back origin listing since given given' result first (inr tells) = one-returned D bay one back (tells.left.loans ∙ first)

  unlisted-returned : (name : List ℕ) (refusal : Refusal) → IsUnlisted disk bay name refusal → AllReturned bay
  unlisted-returned name refusal (inl cause) = unopened-returned name refusal cause
  unlisted-returned name refusal (inr lacked) = tried-returned name lacked.2.lent None lacked.2.tried

  backup-returned : (meta origin : List ℕ) (since : ℕ) (given given' : Option (List ℕ)) (result : Status) → RunsBackup disk bay meta origin since given given' result → AllReturned bay
  backup-returned meta origin since given given' result (inl same) = none-returned D bay same.1.left.loans
  backup-returned meta origin since given given' result (inr (differ, inl tells)) =
      copy-returned tells.between tells.looked.lent tells.looked.tried.back origin tells.listing since given given' result tells.looked.tried.loans tells.copied
  backup-returned meta origin since given given' result (inr (differ, inr tells)) = unlisted-returned meta tells.refusal tells.cause

  -- a count that rose behind a moment rose in the call
  rose-behind : (between : Between D) (one back : D) → between.loans ≡ bay.loans ++ ended_loan (new_loan one) back ∷ [] → between.faults ≡ bay.faults
      → SomeCountRose disk (behind bay between) → SomeCountRose disk bay
  rose-behind between one back first same (inl rose) = inl (subst (λ n. Rose n bay.faults') same rose)
  rose-behind between one back first same (inr some) = inr (record {
    loan = some.loan;
    back = some.back;
    came_back = record {
      index = some.came_back.index;
      began =
          let later = some.came_back.began in
          let more = length-append bay.loans (ended_loan (new_loan one) back ∷ []) in
          omega (arith, later, more, ap length first);
      found = some.came_back.found;
      ended = some.came_back.ended;
    };
    rose = some.rose;
  })

  uncopied-fault : (old new : D) (refusal : Refusal) → IsUncopied disk old new refusal → refusal_status refusal ≡ Fault → Rose (disk.faults old) (disk.faults new)
  uncopied-fault old new (DataFault count) cause is = cause.1
  uncopied-fault old new NoRoom cause is = cc
  uncopied-fault old new (NoGeometry error size) cause is = absurd cause
  uncopied-fault old new SameDevice cause is = absurd cause
  uncopied-fault old new (OriginSmall have need) cause is = absurd cause
  uncopied-fault old new (Metadata refused) cause is = absurd cause
  uncopied-fault old new NoSnap cause is = absurd cause
  uncopied-fault old new (BayFault count) cause is = absurd cause

  copies-fault : (old new : D) (listing : Listing) (since : ℕ) (given given' : Option (List ℕ)) (result : Status)
      → TellsCopies disk listing since old new given given' result → result ≡ Fault → Rose (disk.faults old) (disk.faults new)
  copies-fault old new listing since given given' result (inl (clean, prints)) is =
      ended-fault (disk.faults old) (disk.faults new) prints.ended prints.cause (printed-fault given given' _ (backup_status prints.ended) result prints.printed is)
  copies-fault old new listing since given given' result (inr tells) is =
      uncopied-fault old new tells.refusal tells.cause (printed-fault given given' _ (refusal_status tells.refusal) result tells.printed is)

  copy-fault : (origin : List ℕ) (listing : Listing) (since : ℕ) (given given' : Option (List ℕ)) (result : Status)
      → RunsCopy disk bay origin listing since given given' result → HasFaultCause disk bay result
  copy-fault origin listing since given given' result (inl tells) = λ is.
      one-rose D disk bay tells.lent tells.back tells.read.loans (copies-fault tells.lent tells.back listing since given given' result tells.told is)
  copy-fault origin listing since given given' result (inr tells) = λ is.
      inl (origin-fault D bay origin listing.geometry.sectors tells.refusal tells.cause (printed-fault given given' _ (refusal_status tells.refusal) result tells.printed is))

  unlisted-fault : (name : List ℕ) (refusal : Refusal) → IsUnlisted disk bay name refusal → refusal_status refusal ≡ Fault → SomeCountRose disk bay
  unlisted-fault name refusal (inl cause) is = unopened-fault name refusal cause is
  unlisted-fault name refusal (inr lacked) is = let e : refusal_status NoRoom ≡ Fault = subst (λ (r : Refusal). refusal_status r ≡ Fault) lacked.0 is in absurd (cc)

  copies-so : (old new : D) (listing : Listing) (since : ℕ) (given given' : Option (List ℕ)) (result : Status) → TellsCopies disk listing since old new given given' result → IsOfInput result → ⊥
  copies-so old new listing since given given' result (inl (clean, prints)) is = ends-so given given' _ (backup_status prints.ended) result prints.printed (ended-so prints.ended) is
  copies-so old new listing since given given' result (inr tells) is = ends-so given given' _ (refusal_status tells.refusal) result tells.printed (refusal-so tells.refusal) is

  copy-so : (origin : List ℕ) (listing : Listing) (since : ℕ) (given given' : Option (List ℕ)) (result : Status) → RunsCopy disk bay origin listing since given given' result → IsOfInput result → ⊥
  copy-so origin listing since given given' result (inl tells) is = copies-so tells.lent tells.back listing since given given' result tells.told is
  copy-so origin listing since given given' result (inr tells) is = ends-so given given' _ (refusal_status tells.refusal) result tells.printed (refusal-so tells.refusal) is

module _ (D : Type 0) (disk : Ghosts D) (bay : BayAround D) where
  backup-fault : (meta origin : List ℕ) (since : ℕ) (given given' : Option (List ℕ)) (result : Status) → RunsBackup disk bay meta origin since given given' result → HasFaultCause disk bay result
  backup-fault meta origin since given given' result (inl same) = λ is.
      let e : refusal_status SameDevice ≡ Fault = printed-fault given given' _ (refusal_status SameDevice) result same.1.printed is in absurd (cc)
  backup-fault meta origin since given given' result (inr (differ, inl tells)) = λ is.
      rose-behind D disk bay tells.between tells.looked.lent tells.looked.tried.back tells.looked.tried.loans tells.looked.tried.faults
      (copy-fault D disk (behind bay tells.between) origin tells.listing since given given' result tells.copied is)
  backup-fault meta origin since given given' result (inr (differ, inr tells)) = λ is.
      unlisted-fault D disk bay meta tells.refusal tells.cause (printed-fault given given' _ (refusal_status tells.refusal) result tells.printed is)

  backup-so : (meta origin : List ℕ) (since : ℕ) (given given' : Option (List ℕ)) (result : Status) → RunsBackup disk bay meta origin since given given' result → IsOfInput result → ⊥
  backup-so meta origin since given given' result (inl same) is = ends-so given given' _ (refusal_status SameDevice) result same.1.printed (refusal-so SameDevice) is
  backup-so meta origin since given given' result (inr (differ, inl tells)) is = copy-so D disk (behind bay tells.between) origin tells.listing since given given' result tells.copied is
  backup-so meta origin since given given' result (inr (differ, inr tells)) is = ends-so given given' _ (refusal_status tells.refusal) result tells.printed (refusal-so tells.refusal) is

-- what a list, a dump and a need tell is no fault
listed-fault : (told : Listed) → listed_status told ≡ Fault → ⊥
listed-fault (Blocks runs) is = cc
listed-fault NoSnapshot is = cc
listed-fault NoMemory is = cc

needed-fault : (told : Needed) → needed_status told ≡ Fault → ⊥
needed-fault (NeededBlocks count) is = cc
needed-fault (NoneNeeded error) is = cc

words-fault : (refusal : WordsRefusal) → words_status refusal ≡ Fault → ⊥
words-fault NoCommand is = cc
words-fault NotYet is = cc
words-fault NoWordsRoom is = cc

words-source : (refusal : WordsRefusal) → words_status refusal ≡ Source → ⊥
words-source NoCommand is = cc
words-source NotYet is = cc
words-source NoWordsRoom is = cc

list-fault : (m : BlockMarks) (held : Option BlockMarks) (since : ℕ) (snap : Bool) (given given' : Option (List ℕ)) (result : Status)
    → TellsList m held since snap given given' result → result ≡ Fault → ⊥
list-fault m held since snap given given' result tells is =
    listed-fault tells.told (printed-fault given given' (listed_text tells.told) (listed_status tells.told) result tells.printed is)

list-so : (m : BlockMarks) (held : Option BlockMarks) (since : ℕ) (snap : Bool) (given given' : Option (List ℕ)) (result : Status)
    → TellsList m held since snap given given' result → IsOfInput result → ⊥
list-so m held since snap given given' result tells is = ends-so given given' (listed_text tells.told) (listed_status tells.told) result tells.printed (listed-so tells.told) is

dump-fault : (result : Status) → EndsDump result → result ≡ Fault → ⊥
dump-fault result (inl done) is = let e : Done ≡ Fault = sym done ∙ is in cc
dump-fault result (inr (inl lacked)) is = let e : Memory ≡ Fault = sym lacked ∙ is in cc
dump-fault result (inr (inr failed)) is = let e : Sink ≡ Fault = sym failed ∙ is in cc

dump-so : (result : Status) → EndsDump result → IsOfInput result → ⊥
dump-so result (inl done) is = subst IsOfInput done is
dump-so result (inr (inl lacked)) is = subst IsOfInput lacked is
dump-so result (inr (inr failed)) is = subst IsOfInput failed is

module _ (D : Type 0) (disk : Ghosts D) (bay : BayAround D) (streams : StreamsAround) (result : Status) where
  -- words that are refused
  pub words-no_fault : (refusal : WordsRefusal) → RefusesWords bay streams refusal result → HasFaultCause disk bay result
  words-no_fault refusal refuses = λ is.
      absurd (words-fault refusal (printed-fault streams.given streams.given' (words_text refusal) (words_status refusal) result refuses.printed is))

  pub words-no_source : (refusal : WordsRefusal) → RefusesWords bay streams refusal result → HasSourceCause streams result
  words-no_source refusal refuses = λ is. elim (printed-ends streams.given streams.given' (words_text refusal) (words_status refusal) result refuses.printed) [
    | inl same ↦ absurd (words-source refusal (sym same ∙ is))
    | inr failed ↦ let e : Sink ≡ Source = sym failed ∙ is in absurd (cc)
  ]

  pub words-returned : (refusal : WordsRefusal) → RefusesWords bay streams refusal result → AllReturned bay
  words-returned refusal refuses = none-returned D bay refuses.left.bay_left.loans

  -- a tool's fault is of the bay, or of the disk that was lent
  pub tool-fault : (job : Job) → RunsTool disk bay streams job result → HasFaultCause disk bay result
  tool-fault (job.Need sectors size) ran = λ is.
      absurd (needed-fault ran.1.told (printed-fault streams.given streams.given' _ (needed_status ran.1.told) result ran.1.printed is))
  tool-fault (job.Check meta) ran = check-fault D disk bay meta streams.given streams.given' result ran.1
  tool-fault (job.Invalidate meta since snap) ran =
      over-fault D disk bay meta streams.given streams.given' result _ (λ meaning. list-fault meaning.marks meaning.held since snap streams.given streams.given' result) ran.1
  tool-fault (job.Dump meta logical) ran = over-fault D disk bay meta streams.given streams.given' result _ (λ meaning prints. dump-fault result prints.ends) ran.1
  tool-fault (job.Restore meta) ran = restore-fault D disk bay (source_of streams) meta streams.given streams.given' result ran
  tool-fault (job.Backup meta origin since) ran = backup-fault D disk bay meta origin (max since 1) streams.given streams.given' result ran.1
  tool-fault (job.Apply origin) ran = words-no_fault NotYet ran
  tool-fault (job.Serve line stripes digest) ran = words-no_fault NoCommand ran
  tool-fault (job.Load line seed stripes) ran = words-no_fault NoCommand ran

  -- each disk was put back
  pub tool-returned : (job : Job) → RunsTool disk bay streams job result → AllReturned bay
  tool-returned (job.Need sectors size) ran = none-returned D bay ran.0.bay_left.loans
  tool-returned (job.Check meta) ran = check-returned D disk bay meta streams.given streams.given' result ran.1
  tool-returned (job.Invalidate meta since snap) ran = over-returned D disk bay meta streams.given streams.given' result _ ran.1
  tool-returned (job.Dump meta logical) ran = over-returned D disk bay meta streams.given streams.given' result _ ran.1
  tool-returned (job.Restore meta) ran = restore-returned D disk bay (source_of streams) meta streams.given streams.given' result ran
  tool-returned (job.Backup meta origin since) ran = backup-returned D disk bay meta origin (max since 1) streams.given streams.given' result ran.1
  tool-returned (job.Apply origin) ran = words-returned NotYet ran
  tool-returned (job.Serve line stripes digest) ran = words-returned NoCommand ran
  tool-returned (job.Load line seed stripes) ran = words-returned NoCommand ran

  -- a tool that is served ends by no status of what it doesn't read or test
  pub tool-so : (job : Job) → IsTool job → (IsUnserved job → ⊥) → RunsTool disk bay streams job result → IsNeverOf job result → ⊥
  tool-so (job.Need sectors size) tool served ran is = ends-so streams.given streams.given' _ (needed_status ran.1.told) result ran.1.printed (needed-so ran.1.told) is
  tool-so (job.Check meta) tool served ran is = check-so D disk bay meta streams.given streams.given' result ran.1 is
  tool-so (job.Invalidate meta since snap) tool served ran is =
      over-so D disk bay meta streams.given streams.given' result _ (λ meaning. list-so meaning.marks meaning.held since snap streams.given streams.given' result) ran.1 is
  tool-so (job.Dump meta logical) tool served ran is = over-so D disk bay meta streams.given streams.given' result _ (λ meaning prints. dump-so result prints.ends) ran.1 is
  tool-so (job.Restore meta) tool served ran is = restore-so D disk bay (source_of streams) meta streams.given streams.given' result ran is
  tool-so (job.Backup meta origin since) tool served ran is = backup-so D disk bay meta origin (max since 1) streams.given streams.given' result ran.1 is
  tool-so (job.Apply origin) tool served ran is = served tt
  tool-so (job.Serve line stripes digest) tool served ran is = tool
  tool-so (job.Load line seed stripes) tool served ran is = tool

  -- so the source is never the cause but where it is read
  of-source : result ≡ Source → IsOfInput result
  of-source is = subst IsOfInput (sym is) tt

  pub tool-source : (job : Job) → RunsTool disk bay streams job result → HasSourceCause streams result
  tool-source (job.Need sectors size) ran = λ is. absurd (tool-so (job.Need sectors size) tt (λ no. no) ran (of-source is))
  tool-source (job.Check meta) ran = λ is. absurd (tool-so (job.Check meta) tt (λ no. no) ran (of-source is))
  tool-source (job.Invalidate meta since snap) ran = λ is. absurd (tool-so (job.Invalidate meta since snap) tt (λ no. no) ran (of-source is))
  tool-source (job.Dump meta logical) ran = λ is. absurd (tool-so (job.Dump meta logical) tt (λ no. no) ran (of-source is))
  tool-source (job.Restore meta) ran = restore-source D disk bay (source_of streams) meta streams.given streams.given' result ran
  tool-source (job.Backup meta origin since) ran = λ is. absurd (tool-so (job.Backup meta origin since) tt (λ no. no) ran (of-source is))
  tool-source (job.Apply origin) ran = words-no_source NotYet ran
  tool-source (job.Serve line stripes digest) ran = words-no_source NoCommand ran
  tool-source (job.Load line seed stripes) ran = words-no_source NoCommand ran
