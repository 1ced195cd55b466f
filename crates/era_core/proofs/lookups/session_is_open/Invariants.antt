use Rattle.std.proofs.Common.{◌≡◌, take}
use Rattle.std.specs.Prelude.{reverse}
use Rattle.era_model.specs.History.{is_open}
use Rattle.era_core.proofs.lookups.session_is_open.Given as goal

abbrev pub invariant-loop-happening : goal.invariant-loop-happening
invariant-loop-happening l = l.found ≡ is_open (reverse (take l.happening-index l.h))
