use Rattle.std.proofs.Common.{◌≡◌, take}
use Rattle.std.specs.Prelude.{reverse}
use Rattle.era_core.specs.Present.{disk_of}
use Rattle.era_model.specs.Counts.{last_count}
use Rattle.era_core.proofs.counts.last_count_of.Given as goal

abbrev pub invariant-loop-index : goal.invariant-loop-index
invariant-loop-index l = l.found ≡ last_count (reverse (take l.index l.h)) (disk_of l.disk)
