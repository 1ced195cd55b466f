use Rattle.std.proofs.Common.{◌≡◌, take}
use Rattle.era_core.proofs.block_lists.copies_of.Given as goal

abbrev pub invariant-loop-set : goal.invariant-loop-set
invariant-loop-set l = l.tables.items ≡ take l.set-index l.sets
