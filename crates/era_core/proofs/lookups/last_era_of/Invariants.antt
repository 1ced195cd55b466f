use Rattle.std.proofs.Common.{◌≡◌, take}
use Rattle.std.specs.Prelude.{reverse}
use Rattle.era_model.specs.Marking.{journal_last_era}
use Rattle.era_core.proofs.lookups.last_era_of.Given as goal

abbrev pub invariant-loop-happening : goal.invariant-loop-happening
invariant-loop-happening l = l.found ≡ journal_last_era (reverse (take l.happening-index l.h)) l.block
