-- Runs with one more run behind them.
use Rattle.std.proofs.Common.{ℕ, ◌≤◌, List, [], ◌∷◌, ◌++◌}
use Rattle.era_base.specs.Runs.{AreRuns, BeginsAfter, EndsBefore}

-- what stands behind a run still begins after a gap once a run that touches none of them was added
begins_after-push : (before run : ℕ × ℕ) (runs : List (ℕ × ℕ)) → BeginsAfter before runs → EndsBefore (before ∷ runs) run.0 → BeginsAfter before (runs ++ run ∷ [])
begins_after-push before run [] begins ends = ends.0
begins_after-push before run (next ∷ runs) begins ends = begins

-- a run that begins behind all the others, and doesn't touch the last one, may be added
pub are_runs-push : (runs : List (ℕ × ℕ)) (run : ℕ × ℕ) → AreRuns runs → EndsBefore runs run.0 → run.0 ≤ run.1 → AreRuns (runs ++ run ∷ [])
are_runs-push [] run are ends some = (some, tt, tt)
are_runs-push (first ∷ runs) run are ends some =
    (are.0, begins_after-push first run runs are.1 ends, are_runs-push runs run are.2 ends.1 some)
