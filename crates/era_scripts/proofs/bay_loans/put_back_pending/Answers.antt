use Rattle.std.proofs.Common.{List, [], ◌∷◌, ◌++◌, refl, ◌∙◌, ap, subst}
use Rattle.std.specs.Prelude.{codes}
use Rattle.era_base.specs.Bay.{Loan, new_loan, EndsLoan}
use Rattle.era_disks.specs.MemBay.{bay_loans}
use Rattle.era_disks.specs.MemDisk.{place_of, sectors_of}
use Rattle.era_disks.specs.declared.mem_disk.MemDisk.{MemDisk}
use Rattle.era_scripts.proofs.LoanLists.{none-out}
use Rattle.era_scripts.proofs.bay_loans.put_back_pending.Goals as goal

-- the one loan is that of the disk, whose calls kept its place
pub put_back-requires : goal.put_back-requires
put_back-requires c = (
  0,
  record {
    loan = new_loan c.in_ok-disk.disk;
    found = rw c.in_ok-disk.ensures.loans (rw c.requires.loans refl);
    out = refl;
    same_place = rw (c.write-2.ensures.same.1, c.sync.ensures.same.1, c.write.ensures.same.1) refl;
    same_size = rw (c.write-2.ensures.same.0, c.sync.ensures.same.0, c.write.ensures.same.0) refl;
  },
)

-- it has ended
pub returns-clause-idle : goal.returns-clause-idle
returns-clause-idle c = λ size told index loan at out named over.
    none-out place_of sectors_of c.write-2.new.self (new_loan c.in_ok-disk.disk) (bay_loans c.put_back.new.self)
    (subst (λ (loans : List (Loan MemDisk)). EndsLoan place_of sectors_of c.write-2.new.self loans (bay_loans c.put_back.new.self))
    (c.in_ok-disk.ensures.loans ∙ ap (λ (loans : List (Loan MemDisk)). loans ++ new_loan c.in_ok-disk.disk ∷ []) c.requires.loans)
    c.put_back.ensures.loans) index loan at out

-- an opening and a putting back keep what was told of sizes
pub returns-clause-size : goal.returns-clause-size
returns-clause-size c = c.put_back.ensures.same.0 (codes "meta") 4 (c.in_ok-disk.ensures.same.0 (codes "meta") 4 c.requires.size)
