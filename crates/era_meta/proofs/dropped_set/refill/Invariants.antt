use Rattle.std.proofs.Common.{length}
use Rattle.era_meta.proofs.DroppedSets.{IsRefilled}
use Rattle.era_meta.proofs.dropped_set.refill.Given as goal

-- the blocks so far are in the set as the words say
abbrev pub invariant-loop-block : goal.invariant-loop-block
invariant-loop-block l = IsRefilled l.words (length l.fn.set) l.set l.block
