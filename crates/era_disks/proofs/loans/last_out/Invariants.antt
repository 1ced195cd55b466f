use Rattle.std.proofs.Common.{◌≡◌, ◌≤◌, ℕ, slice_get, Some}
use Rattle.era_disks.specs.declared.loan_entry.LoanEntry.{LoanEntry}
use Rattle.era_disks.specs.Loans.{IsOutAt}
use Rattle.era_disks.proofs.loans.last_out.Given as goal

abbrev pub invariant-loop-index : goal.invariant-loop-index
invariant-loop-index g l =
    (later : ℕ) (entry : LoanEntry g.row.D.Denot) → l.index ≤ later → slice_get l.entries later ≡ Some entry
    → IsOutAt l.device l.first l.sectors entry → ⊥
