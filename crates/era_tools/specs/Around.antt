-- A bay around a call, when it began and when it returned.
use Rattle.std.specs.Prelude.{◌≡◌, ℕ, List, Option, Some}
use Rattle.era_base.specs.Bay.{Loan, SameReads}
use Rattle.era_base.specs.declared.bay.Bay.{Ghosts as BayMembers}

-- A bay around a call: the sizes that are told in the end, what sectors read as, the loans, and the count of faults.
pub record BayAround (D : Type 0) : Type 0 where
  pub sizes : List ℕ → Option ℕ
  pub reads : List ℕ → ℕ → Option (List ℕ)
  pub reads' : List ℕ → ℕ → Option (List ℕ)
  pub loans : List (Loan D)
  pub loans' : List (Loan D)
  pub faults : ℕ
  pub faults' : ℕ

-- A bay around a call, by what it was when the call began and when it returned.
abbrev pub bay_around : {B D : Type 0} → BayMembers B D → B → B → BayAround D
bay_around bay old new = record {
  sizes = bay.sizes new;
  reads = bay.reads old;
  reads' = bay.reads new;
  loans = bay.loans old;
  loans' = bay.loans new;
  faults = bay.faults old;
  faults' = bay.faults new;
}

-- The bay has its loans as before, and its sectors read as before.
pub record LeavesBay {D : Type 0} (bay : BayAround D) : Type 0 where
  pub loans : bay.loans' ≡ bay.loans
  pub reads : SameReads bay.reads bay.reads'

-- What was told of sectors is told again.
abbrev pub KeepsReads : (List ℕ → ℕ → Option (List ℕ)) → (List ℕ → ℕ → Option (List ℕ)) → Type 0
KeepsReads old new = (device : List ℕ) (sector : ℕ) (bytes : List ℕ) → old device sector ≡ Some bytes → new device sector ≡ Some bytes

-- A bay between two calls.
pub record Between (D : Type 0) : Type 0 where
  pub sizes : List ℕ → Option ℕ
  pub reads : List ℕ → ℕ → Option (List ℕ)
  pub loans : List (Loan D)
  pub faults : ℕ

-- The bay around what was done before that, as a whole call.
abbrev pub lending : {D : Type 0} → BayAround D → Between D → BayAround D
lending bay between = record {
  sizes = between.sizes;
  reads = bay.reads;
  reads' = between.reads;
  loans = bay.loans;
  loans' = between.loans;
  faults = bay.faults;
  faults' = between.faults;
}

-- The bay around what was done behind that, as a whole call.
abbrev pub behind : {D : Type 0} → BayAround D → Between D → BayAround D
behind bay between = record {
  sizes = bay.sizes;
  reads = between.reads;
  reads' = bay.reads';
  loans = between.loans;
  loans' = bay.loans';
  faults = between.faults;
  faults' = bay.faults';
}
