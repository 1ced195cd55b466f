use Rattle.std.proofs.Common.{◌≡◌, ℕ, ◌<◌, max, drop}
use Rattle.era_model.specs.MarkRuns.{sets_of_runs}
use Rattle.era_model.specs.Marks.{last_archived}
use Rattle.era_model.proofs.last_eras.last_set_era.Given as goal

abbrev pub invariant-loop-set : goal.invariant-loop-set
invariant-loop-set l = (blocks : ℕ) → l.block < blocks
    → max l.last (last_archived (sets_of_runs blocks (drop l.set-index l.sets)) l.block) ≡ last_archived (sets_of_runs blocks l.sets) l.block
