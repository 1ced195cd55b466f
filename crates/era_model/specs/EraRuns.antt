-- Runs of blocks with an era, as the era array has them.
use Rattle.std.specs.Prelude.{◌≡◌, ◌≢◌, ℕ, ◌+◌, ◌<◌, ◌≤◌, List, [], ◌∷◌}

-- A run stands behind another one: it begins after the other's last block, and where it begins right there its era is another one.
pub record StandsBehind (before run : ℕ × ℕ × ℕ) : Type 0 where
  pub later : before.1 < run.0
  pub maximal : before.1 + 1 ≡ run.0 → before.2 ≢ run.2

-- The next run, if there is one, stands behind the run.
abbrev pub NextStandsBehind : ℕ × ℕ × ℕ → List (ℕ × ℕ × ℕ) → Type 0
NextStandsBehind before [] = Unit {0}
NextStandsBehind before (run ∷ runs) = StandsBehind before run

-- Runs ascend and are maximal, each has a block, and none has era 0.
abbrev pub AreEraRuns : List (ℕ × ℕ × ℕ) → Type 0
AreEraRuns [] = Unit {0}
AreEraRuns (run ∷ runs) = (run.0 ≤ run.1) × (0 < run.2) × NextStandsBehind run runs × AreEraRuns runs

-- The run stands behind each of the others.
abbrev pub StandsBehindAll : List (ℕ × ℕ × ℕ) → ℕ × ℕ × ℕ → Type 0
StandsBehindAll [] run = Unit {0}
StandsBehindAll (before ∷ runs) run = StandsBehind before run × StandsBehindAll runs run

-- All runs end below so many blocks.
abbrev pub EndWithin : ℕ → List (ℕ × ℕ × ℕ) → Type 0
EndWithin blocks [] = Unit {0}
EndWithin blocks (run ∷ runs) = (run.1 < blocks) × EndWithin blocks runs
