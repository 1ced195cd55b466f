-- Runs with one more run behind them.
use Rattle.std.proofs.Common.{ℕ, ◌<◌, ◌≤◌, List, [], ◌∷◌, ◌++◌}
use Rattle.era_model.specs.EraRuns.{AreEraRuns, NextStandsBehind, StandsBehindAll}

next_stands_behind-push : (before run : ℕ × ℕ × ℕ) (runs : List (ℕ × ℕ × ℕ)) → NextStandsBehind before runs → StandsBehindAll (before ∷ runs) run → NextStandsBehind before (runs ++ run ∷ [])
next_stands_behind-push before run [] next behind = behind.0
next_stands_behind-push before run (first ∷ runs) next behind = next

-- a run that stands behind all the others may be added
pub are_era_runs-push : (runs : List (ℕ × ℕ × ℕ)) (run : ℕ × ℕ × ℕ) → AreEraRuns runs → StandsBehindAll runs run → run.0 ≤ run.1 → 0 < run.2 → AreEraRuns (runs ++ run ∷ [])
are_era_runs-push [] run are behind some era = (some, era, tt, tt)
are_era_runs-push (first ∷ runs) run are behind some era =
    (are.0, are.1, next_stands_behind-push first run runs are.2 behind, are_era_runs-push runs run are.3 behind.1 some era)
