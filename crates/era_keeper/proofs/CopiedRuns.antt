-- Runs that are copied one after another.
use Rattle.std.proofs.Common.{◌≡◌, ℕ, zero, suc, ◌+◌, ◌<◌, ◌≤◌, List, [], ◌∷◌, length, get_or, take, arith}
use Rattle.era_base.specs.Runs.{AreRuns, BeginsAfter, EndsBefore}

-- a run of a list stands behind those before it
pub ends-before : (runs : List (ℕ × ℕ)) (i : ℕ) (run d : ℕ × ℕ) → AreRuns runs → i < length runs → run ≡ get_or runs i d → EndsBefore (take i runs) run.0
ends-before [] i run d are lt is = absurd (omega arith)
ends-before (first ∷ runs) zero run d are lt is = tt
ends-before (first ∷ runs) (suc i) run d are lt is =
    (first-before first runs i run d are.1 are.2 (omega arith) is, ends-before runs i run d are.2 (omega arith) is)
  where
    first-before : (first : ℕ × ℕ) (runs : List (ℕ × ℕ)) (i : ℕ) (run d : ℕ × ℕ) → BeginsAfter first runs → AreRuns runs → i < length runs → run ≡ get_or runs i d → first.1 + 1 < run.0
    first-before first [] i run d begins are lt is = absurd (omega arith)
    first-before first (next ∷ runs) zero run d begins are lt is = rw is begins
    first-before first (next ∷ runs) (suc i) run d begins are lt is =
        let later = first-before next runs i run d are.1 are.2 (omega arith) is in let some = are.0 in let gap = begins in omega arith

-- a run of a list isn't empty
pub some-block : (runs : List (ℕ × ℕ)) (i : ℕ) (run d : ℕ × ℕ) → AreRuns runs → i < length runs → run ≡ get_or runs i d → run.0 ≤ run.1
some-block [] i run d are lt is = absurd (omega arith)
some-block (first ∷ runs) zero run d are lt is = rw is are.0
some-block (first ∷ runs) (suc i) run d are lt is = some-block runs i run d are.2 (omega arith) is
