use Rattle.std.proofs.Common.{ℕ, ◌<◌, ◌≤◌}
use Rattle.era_model.specs.MarkRuns.{era_in_runs}
use Rattle.era_core.proofs.validity.are_within.Given as goal

abbrev pub invariant-loop-block : goal.invariant-loop-block
invariant-loop-block l = (block : ℕ) → block < l.block → era_in_runs l.runs block ≤ l.limit
