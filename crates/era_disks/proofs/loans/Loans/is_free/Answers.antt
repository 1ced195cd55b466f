use Rattle.std.proofs.Common.{List, slice_get, sym, ◌∙◌, ap}
use Rattle.era_disks.specs.declared.loan_entry.LoanEntry.{LoanEntry}
use Rattle.era_disks.proofs.Entries.{free-none, free-some}
use Rattle.era_disks.proofs.loans.Loans.is_free.Goals as goal

pub returns-in-Some-clause-lent : goal.returns-in-Some-clause-lent
returns-in-Some-clause-lent g c =
    let found = c.in-Some.ensures.some in
    free-some g.D.Disk.place g.D.Disk.sectors c.args.self.now.entries.items c.args.device.now c.args.first c.args.count c.in-Some.field-0
    found.0 c.args.self.now.placed
    (ap (λ (xs : List (LoanEntry g.row.D.Denot)). slice_get xs c.in-Some.field-0) (sym c.as_slice.ensures.value) ∙ found.1) found.2

pub returns-in-None-clause-free : goal.returns-in-None-clause-free
returns-in-None-clause-free g c =
    free-none g.D.Disk.place g.D.Disk.sectors c.args.self.now.entries.items c.args.device.now c.args.first c.args.count c.args.self.now.placed
    (λ index entry found blocks. c.in-None.ensures.none index entry
    (ap (λ (xs : List (LoanEntry g.row.D.Denot)). slice_get xs index) c.as_slice.ensures.value ∙ found) blocks)
