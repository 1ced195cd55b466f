-- An origin that was lent, only read, and put back.
use Rattle.std.proofs.Common.{◌≡◌, ℕ, List, ◌∙◌, subst}
use Rattle.era_base.specs.Bay.{EndsLoan, NowReadsAs, SameReadsBut}
use Rattle.era_base.specs.Disk.{Place}
use Rattle.era_base.specs.declared.disk.Disk.{Ghosts}
use Rattle.era_tools.specs.Around.{BayAround, Between, lending}
use Rattle.era_tools.specs.BackupTool.{HasLentOrigin, HasReadOrigin, OnlyReads}
use Rattle.era_tools.proofs.KeptReads.{keeps-reads, others-kept, seen-went}
use Rattle.era_tools.proofs.LastLoan.{ends_last}
use Rattle.era_tools.proofs.PutBack.{PutsBack}

module _ (D : Type 0) (disk : Ghosts D) (bay : BayAround D) (between : Between D) (name : List ℕ) (sectors : ℕ) (lent back : D) where
  pub has-read : HasLentOrigin disk (lending bay between) name sectors lent → OnlyReads disk lent back → PutsBack disk between bay back → HasReadOrigin disk bay name sectors lent back
  has-read has only puts =
      let taken = has.taken in
      let loans = has.loans in
      let reads = has.reads in
      let faults = has.faults in
      let place : disk.place back ≡ record { device = name; first = 0 } = only.same.place ∙ taken.place in
      let size : disk.sectors back ≡ sectors = only.same.size ∙ taken.size in
      let others : SameReadsBut name 0 sectors between.reads bay.reads' =
      subst (λ n. SameReadsBut name 0 n between.reads bay.reads') size
      (subst (λ (p : Place). SameReadsBut p.device p.first (disk.sectors back) between.reads bay.reads') place puts.others) in
      record {
        taken = record { place = taken.place; size = taken.size; content = taken.content };
        loans = ends_last disk.place disk.sectors bay.loans bay.loans' lent back only.same.place only.same.size
            (subst (λ l. EndsLoan disk.place disk.sectors back l bay.loans') loans puts.loans);
        only = only;
        reads = λ tells.
            keeps-reads name sectors bay.reads between.reads bay.reads' (disk.history lent).now (disk.history back).now
            reads (taken.content tells) (seen-went (disk.history lent) (disk.history back) (only.moments tells))
            (subst (λ n. NowReadsAs bay.reads' name 0 n (disk.history back).now) size
            (subst (λ (p : Place). NowReadsAs bay.reads' p.device p.first (disk.sectors back) (disk.history back).now) place (puts.content tells)))
            others;
        others = others-kept name sectors bay.reads between.reads bay.reads' reads others;
        faults = puts.faults ∙ faults;
      }
