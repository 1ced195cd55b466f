use Rattle.std.proofs.Common.{ℕ, drop}
use Rattle.std.specs.Prelude.{◌↔◌}
use Rattle.era_model.specs.MarkRuns.{sets_of_runs}
use Rattle.era_model.specs.Validity.{AreArchivedBetween}
use Rattle.era_core.proofs.validity.do_ascend.Given as goal

abbrev pub invariant-loop-set : goal.invariant-loop-set
invariant-loop-set l = (blocks : ℕ)
    → AreArchivedBetween blocks 0 l.below (sets_of_runs blocks l.sets) ↔ AreArchivedBetween blocks l.above l.below (sets_of_runs blocks (drop l.set-index l.sets))
