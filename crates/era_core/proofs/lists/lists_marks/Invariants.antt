use Rattle.std.proofs.Common.{◌≡◌, ℕ, ◌<◌}
use Rattle.era_base.specs.Runs.{runs_cover}
use Rattle.era_model.specs.Marks.{written_since}
use Rattle.era_core.proofs.lists.lists_marks.Given as goal

abbrev pub invariant-loop-block : goal.invariant-loop-block
invariant-loop-block l = (block : ℕ) → block < l.block → runs_cover l.listed block ≡ written_since l.held l.since block
