use Rattle.std.proofs.Common.{◌≡◌, ◌<◌, ℕ, slice_get, Some}
use Rattle.era_disks.specs.declared.loan_entry.LoanEntry.{LoanEntry}
use Rattle.era_disks.specs.Loans.{Blocks}
use Rattle.era_disks.proofs.loans.first_blocking.Given as goal

abbrev pub invariant-loop-index : goal.invariant-loop-index
invariant-loop-index g l =
    (before : ℕ) (entry : LoanEntry g.row.D.Denot) → before < l.index → slice_get l.entries before ≡ Some entry
    → Blocks l.device l.first l.count entry → ⊥
