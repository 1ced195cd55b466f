use Rattle.std.proofs.Common.{◌≡◌, take}
use Rattle.era_model.specs.Marks.{last_archived}
use Rattle.era_meta.proofs.last_marked.last_set_era.Given as goal

-- the greatest era of the sets so far
abbrev pub invariant-loop-set : goal.invariant-loop-set
invariant-loop-set l = l.last ≡ last_archived (take l.set-index l.sets) l.block
