use Rattle.std.proofs.Common.{◌≡◌, take}
use Rattle.era_model.specs.MarkRuns.{sets_of_runs}
use Rattle.era_core.proofs.block_lists.are_sets.Given as goal

abbrev pub invariant-loop-index : goal.invariant-loop-index
invariant-loop-index l = take l.index l.sets ≡ sets_of_runs l.blocks (take l.index l.marked)
