-- A metadata device that was lent is put back.
use Rattle.std.proofs.Common.{◌≡◌, ℕ, List, [], ◌∷◌, ◌++◌, length, true, ◌∙◌, subst}
use Rattle.std.specs.Prelude.{Option}
use Rattle.era_base.specs.Bay.{Loan, new_loan, EndsLoan, IsOut, KeepsSizes, NowReadsAs, SameReadsBut}
use Rattle.era_base.specs.Calls.{SameDisk}
use Rattle.era_base.specs.Disk.{Place}
use Rattle.era_base.specs.declared.disk.Disk.{Ghosts}
use Rattle.era_meta.specs.declared.refusal.MetaError.{MetaError}
use Rattle.era_meta.specs.Openings.{Tried}
use Rattle.era_meta.specs.Trials.{look_trials}
pub use Rattle.era_tools.specs.Around.{BayAround, Between, lending}
use Rattle.era_tools.specs.ClosedImages.{HasLent, HasTried}
use Rattle.era_tools.proofs.KeptReads.{keeps-reads, others-kept, seen-went}
use Rattle.era_tools.proofs.LastLoan.{ends_last, is_out-last}

-- The call that put a disk back.
pub record PutsBack {D : Type 0} (disk : Ghosts D) (between : Between D) (bay : BayAround D) (back : D) : Type 0 where
  pub loans : EndsLoan disk.place disk.sectors back between.loans bay.loans'
  pub content : disk.tells ≡ true → NowReadsAs bay.reads' (disk.place back).device (disk.place back).first (disk.sectors back) (disk.history back).now
  pub others : SameReadsBut (disk.place back).device (disk.place back).first (disk.sectors back) between.reads bay.reads'
  pub sizes : KeepsSizes between.sizes bay.sizes
  pub faults : bay.faults' ≡ between.faults

-- a disk that was lent last is out
pub out : (D : Type 0) (disk : Ghosts D) (before loans : List (Loan D)) (lent back : D) → loans ≡ before ++ new_loan lent ∷ [] → SameDisk disk lent back
    → (index : ℕ) × IsOut disk.place disk.sectors loans (disk.place back) (disk.sectors back) index
out D disk before loans lent back last same = (length before, rw last (is_out-last disk.place disk.sectors before lent back same.place same.size))

-- it was tried and put back
module _ (D : Type 0) (disk : Ghosts D) (bay : BayAround D) (between : Between D) (name : List ℕ) (lent back : D) (ended : Option MetaError) where
  pub has-tried : HasLent disk (lending bay between) name lent → Tried disk look_trials lent back ended → PutsBack disk between bay back → HasTried disk bay name lent ended
  has-tried has tried puts =
      let taken = has.taken in
      let loans = has.loans in
      let reads = has.reads in
      let faults = has.faults in
      let same = tried.same in
      let place : disk.place back ≡ record { device = name; first = 0 } = same.place ∙ taken.place in
      let size = same.size in
      let others : SameReadsBut name 0 (disk.sectors lent) between.reads bay.reads' =
      subst (λ n. SameReadsBut name 0 n between.reads bay.reads') size
      (subst (λ (p : Place). SameReadsBut p.device p.first (disk.sectors back) between.reads bay.reads') place puts.others) in
      record {
        back = back;
        taken = record {
          place = taken.place;
          size = puts.sizes name (disk.sectors lent) taken.size;
          content = taken.content;
        };
        loans = ends_last disk.place disk.sectors bay.loans bay.loans' lent back same.place size (subst (λ l. EndsLoan disk.place disk.sectors back l bay.loans') loans puts.loans);
        tried = tried;
        reads = λ tells.
            keeps-reads name (disk.sectors lent) bay.reads between.reads bay.reads' (disk.history lent).now (disk.history back).now
            reads (taken.content tells) (seen-went (disk.history lent) (disk.history back) (tried.told tells).went)
            (subst (λ n. NowReadsAs bay.reads' name 0 n (disk.history back).now) size
            (subst (λ (p : Place). NowReadsAs bay.reads' p.device p.first (disk.sectors back) (disk.history back).now) place (puts.content tells)))
            others;
        others = others-kept name (disk.sectors lent) bay.reads between.reads bay.reads' reads others;
        faults = puts.faults ∙ faults;
      }
