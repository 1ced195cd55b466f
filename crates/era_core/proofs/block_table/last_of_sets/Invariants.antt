use Rattle.std.proofs.Common.{◌≡◌, max, drop}
use Rattle.era_model.specs.Marks.{last_archived}
use Rattle.era_core.proofs.block_table.last_of_sets.Given as goal

abbrev pub invariant-loop-set : goal.invariant-loop-set
invariant-loop-set l = max l.last (last_archived (drop l.set-index l.sets) l.block) ≡ last_archived l.sets l.block
