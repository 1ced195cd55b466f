-- A metadata device that was lent, restored, and put back.
use Rattle.std.proofs.Common.{◌≡◌, ℕ, List, true, ap, ◌∙◌, subst}
use Rattle.std.specs.Prelude.{Option, Some, None}
use Rattle.era_base.specs.Bay.{EndsLoan, NowReadsAs, SameReadsBut}
use Rattle.era_base.specs.Calls.{EachMoment, Now, SameDisk}
use Rattle.era_base.specs.CrashModel.{State}
use Rattle.era_base.specs.Disk.{Place}
use Rattle.era_base.specs.declared.disk.Disk.{Ghosts}
use Rattle.era_base.proofs.CrashImages.{as-it-reads}
use Rattle.era_model.specs.Marks.{BlockMarks}
use Rattle.era_meta.specs.declared.metadata.Meta.{Meta}
use Rattle.era_meta.specs.declared.refusal.MetaError.{MetaError}
use Rattle.era_meta.specs.declared.refusal.MetaError.TheVariants.{MetaSmall, Fault, Unformatted, Damaged, WrongGeometry, EraEnd, SequenceEnd, Memory}
use Rattle.era_meta.specs.Formatting.{marks_alone}
use Rattle.era_meta.specs.Openings.{HasOpeningCause}
use Rattle.era_meta.specs.Restoring.{LeavesRestoring, RestoresDisk}
use Rattle.era_text.specs.ReadDumps.{HasFaultCause}
use Rattle.era_text.specs.declared.text_end.TextEnd.{TextEnd}
use Rattle.era_text.specs.declared.text_end.TextEnd.TheVariants as end
use Rattle.era_tools.specs.Around.{BayAround}
use Rattle.era_tools.specs.ClosedImages.{HasLent}
use Rattle.era_tools.specs.ReadTexts.{IsOfReading}
use Rattle.era_tools.specs.RestoreTool.{EndsRestoring, HasRestored, IsUntouched, StandsForMarks}
use Rattle.era_tools.proofs.KeptReads.{keeps-reads, others-kept}
use Rattle.era_tools.proofs.LastLoan.{ends_last}
use Rattle.era_tools.proofs.PutBack.{Between, PutsBack, lending}

-- a sink has no part in a reading
pub of-reading : (before now : ℕ) (ended : TextEnd) → HasFaultCause before now ended → IsOfReading ended
of-reading before now (end.Line number kind) cause = tt
of-reading before now (end.Source count) cause = tt
of-reading before now (end.Sink count) cause = cause
of-reading before now end.Memory cause = tt

-- a disk that was formatted with marks stands for them
pub stands-formatted : (D : Type 0) (disk : Ghosts D) (m : BlockMarks) (lent : D) (meta : Meta D) → RestoresDisk disk m lent meta → Now disk (StandsForMarks m) meta.slots.disk
stands-formatted D disk m lent meta restores = λ tells.
    let now : State = (disk.history meta.slots.disk).now in
    let images = (restores.formatted.stored tells).images in
    record { reads = images now.seen (as-it-reads now); images = images }

-- a disk that wasn't touched is the one that was lent
untouched-same : (D : Type 0) (disk : Ghosts D) (m : BlockMarks) (lent back : D) (ended : Option MetaError) → EndsRestoring disk m lent back ended → IsUntouched ended → back ≡ lent
untouched-same D disk m lent back None ends is = absurd is
untouched-same D disk m lent back (Some (MetaSmall have need)) ends is = ends.3
untouched-same D disk m lent back (Some (Fault count)) ends is = absurd is
untouched-same D disk m lent back (Some Unformatted) ends is = absurd is
untouched-same D disk m lent back (Some (Damaged kind block)) ends is = absurd is
untouched-same D disk m lent back (Some (WrongGeometry kept asked)) ends is = absurd is
untouched-same D disk m lent back (Some EraEnd) ends is = absurd is
untouched-same D disk m lent back (Some (SequenceEnd number)) ends is = absurd is
untouched-same D disk m lent back (Some Memory) ends is = ends.1

-- it was restored and put back
module _ (D : Type 0) (disk : Ghosts D) (bay : BayAround D) (between : Between D) (name : List ℕ) (m : BlockMarks) (lent back : D) (ended : Option MetaError) where
  pub has-restored : HasLent disk (lending bay between) name lent → EachMoment disk (LeavesRestoring (marks_alone m)) lent back → EndsRestoring disk m lent back ended
      → SameDisk disk lent back → HasOpeningCause (disk.faults lent) (disk.faults back) ended → PutsBack disk between bay back → HasRestored disk bay name m lent ended
  has-restored has moments ends same cause puts =
      let taken = has.taken in
      let loans = has.loans in
      let reads = has.reads in
      let faults = has.faults in
      let place : disk.place back ≡ record { device = name; first = 0 } = same.place ∙ taken.place in
      let size = same.size in
      let others : SameReadsBut name 0 (disk.sectors lent) between.reads bay.reads' =
      subst (λ n. SameReadsBut name 0 n between.reads bay.reads') size
      (subst (λ (p : Place). SameReadsBut p.device p.first (disk.sectors back) between.reads bay.reads') place puts.others) in
      let content : disk.tells ≡ true → NowReadsAs bay.reads' name 0 (disk.sectors lent) (disk.history back).now = λ tells.
      subst (λ n. NowReadsAs bay.reads' name 0 n (disk.history back).now) size
      (subst (λ (p : Place). NowReadsAs bay.reads' p.device p.first (disk.sectors back) (disk.history back).now) place (puts.content tells)) in
      record {
        back = back;
        taken = record {
          place = taken.place;
          size = puts.sizes name (disk.sectors lent) taken.size;
          content = taken.content;
        };
        loans = ends_last disk.place disk.sectors bay.loans bay.loans' lent back same.place size (subst (λ l. EndsLoan disk.place disk.sectors back l bay.loans') loans puts.loans);
        moments = moments;
        ends = ends;
        cause = cause;
        content = content;
        kept = λ is tells.
            keeps-reads name (disk.sectors lent) bay.reads between.reads bay.reads' (disk.history lent).now (disk.history back).now
            reads (taken.content tells) (ap (λ (d : D). (disk.history d).now.seen) (untouched-same D disk m lent back ended ends is)) (content tells) others;
        others = others-kept name (disk.sectors lent) bay.reads between.reads bay.reads' reads others;
        faults = puts.faults ∙ faults;
      }
