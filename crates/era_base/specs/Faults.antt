-- Why a call on something outside may fail: its count of faults rose. The counts of all traits are `u64`s that stay at their greatest value.
use Rattle.std.specs.Prelude.{◌≡◌, ℕ, ◌+◌, ◌-◌, ◌<◌, ◌≤◌, ◌^◌, min, Result, OnOk, OnErr, IfErr}

-- The count of faults rose, or stands at the greatest value of a `u64`.
abbrev pub Rose : ℕ → ℕ → Type 0
Rose before now = min (before + 1) (2 ^ 64 - 1) ≤ now

-- No fault came: the count is as it was, and doesn't stand at the greatest value of a `u64`.
pub record NoneRose (before now : ℕ) : Type 0 where
  pub same : now ≡ before
  pub below : before < 2 ^ 64 - 1

-- The count never falls; it rose where the call failed, and is as it was where it didn't.
pub record HasCause {T E : Type 0} (before now : ℕ) (result : Result T E) : Type 0 where
  pub later : before ≤ now
  pub failed : OnErr result (Rose before now)
  pub kept : OnOk result (now ≡ before)

-- An error is the count of faults, which rose; without an error none came.
pub record HasCount {T : Type 0} (before now : ℕ) (result : Result T ℕ) : Type 0 where
  pub cause : HasCause before now result
  pub count : IfErr result (λ count. count ≡ now)
