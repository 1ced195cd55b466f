-- Why no round was read.
use Rattle.std.specs.Prelude.{◌≡◌, ℕ, Result, Ok, Err}
use Rattle.era_base.specs.Faults.{Rose}
use Rattle.era_line.specs.declared.next.ReadError.{ReadError}
use Rattle.era_line.specs.declared.next.ReadError.TheVariants.{Source as SourceFailed, Memory as NoMemory}
use Rattle.era_plan.specs.declared.round.PlanError.{PlanError}
use Rattle.era_plan.specs.declared.round.PlanError.TheVariants.{Line, Source, Memory}

-- The error of a round where no line could be read: the source's count of failures, or that memory was refused.
abbrev pub plan_error : ReadError → PlanError
plan_error (SourceFailed count) = Source count
plan_error NoMemory = Memory

-- What an error says of the source's count of failures: it rose where the source failed, and is as it was otherwise.
abbrev pub HasErrorCause : ℕ → ℕ → PlanError → Type 0
HasErrorCause before now (Line error) = now ≡ before
HasErrorCause before now (Source count) = (count ≡ now) × Rose before now
HasErrorCause before now Memory = now ≡ before

-- The source's count of failures rose exactly where the answer says so, and the answer tells it.
abbrev pub HasPlanCause : {T : Type 0} → ℕ → ℕ → Result T PlanError → Type 0
HasPlanCause before now (Ok value) = now ≡ before
HasPlanCause before now (Err error) = HasErrorCause before now error
