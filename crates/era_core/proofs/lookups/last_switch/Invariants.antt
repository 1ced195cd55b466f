use Rattle.std.proofs.Common.{◌≡◌, take}
use Rattle.std.specs.Prelude.{reverse}
use Rattle.era_model.specs.Marking.{switch_before_refusals}
use Rattle.era_core.proofs.lookups.last_switch.Given as goal

abbrev pub invariant-loop-happening : goal.invariant-loop-happening
invariant-loop-happening l = l.found ≡ switch_before_refusals (reverse (take l.happening-index l.h))
