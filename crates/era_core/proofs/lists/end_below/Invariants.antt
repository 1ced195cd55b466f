use Rattle.std.proofs.Common.{◌≡◌, ℕ, ◌≤◌, false, take}
use Rattle.era_base.specs.Runs.{runs_cover}
use Rattle.era_core.proofs.lists.end_below.Given as goal

abbrev pub invariant-loop-run : goal.invariant-loop-run
invariant-loop-run l = (block : ℕ) → l.blocks ≤ block → runs_cover (take l.run-index l.runs) block ≡ false
