use Rattle.std.proofs.Common.{◌≡◌, take}
use Rattle.era_model.specs.MarkRuns.{sets_of_runs}
use Rattle.era_core.proofs.block_lists.sets_of.Given as goal

abbrev pub invariant-loop-set : goal.invariant-loop-set
invariant-loop-set l = l.tables.items ≡ sets_of_runs l.blocks (take l.set-index l.sets)
