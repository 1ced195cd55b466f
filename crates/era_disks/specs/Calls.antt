-- Calls that are counted from 0, and the numbers of those that fail.
use Rattle.std.specs.Prelude.{◌≡◌, ℕ, ◌+◌, ◌-◌, ◌^◌, min, List, [], ◌∷◌, ◌++◌, Contains, Result, MatchResult}

-- The calls of one kind: the numbers of those that fail, and how many were begun, up to the greatest value of a `u64`.
pub record Calls : Type 0 where
  pub failing : List ℕ
  pub begun : ℕ

-- A count that is one higher, up to the greatest value of a `u64`.
abbrev pub one_more : ℕ → ℕ
one_more count = min (count + 1) (2 ^ 64 - 1)

-- No call fails, and none was begun.
abbrev pub no_calls : Calls
no_calls = record { failing = []; begun = 0 }

-- The next call is one of those that fail.
abbrev pub NextFails : Calls → Type 0
NextFails calls = Contains calls.failing calls.begun

-- The same calls fail, and one more was begun.
abbrev pub one_begun : Calls → Calls
one_begun calls = record { failing = calls.failing; begun = one_more calls.begun }

-- The call with this number fails too.
abbrev pub also_failing : ℕ → Calls → Calls
also_failing number calls = record { failing = calls.failing ++ number ∷ []; begun = calls.begun }

-- The same calls fail, and none was begun.
abbrev pub restarted : Calls → Calls
restarted calls = record { failing = calls.failing; begun = 0 }

-- A count of faults is one higher where the call failed, up to the greatest value of a `u64`, and is as it was where it answered.
abbrev pub CountsFailure : {T E : Type 0} → ℕ → ℕ → Result T E → Type 0
CountsFailure before now result = MatchResult result (λ _. now ≡ before) (λ _. now ≡ one_more before)
