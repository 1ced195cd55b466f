use Rattle.std.proofs.Common.{◌≡◌, take}
use Rattle.std.specs.Prelude.{reverse}
use Rattle.era_model.specs.History.{era_of}
use Rattle.era_core.proofs.lookups.present_era.Given as goal

abbrev pub invariant-loop-happening : goal.invariant-loop-happening
invariant-loop-happening l = l.found ≡ era_of (reverse (take l.happening-index l.h))
