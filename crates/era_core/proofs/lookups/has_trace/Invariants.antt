use Rattle.std.proofs.Common.{◌≡◌, take}
use Rattle.std.specs.Prelude.{reverse}
use Rattle.era_core.specs.Present.{leaves_trace}
use Rattle.era_model.specs.Marking.{some_event}
use Rattle.era_core.proofs.lookups.has_trace.Given as goal

abbrev pub invariant-loop-happening : goal.invariant-loop-happening
invariant-loop-happening l = l.found ≡ some_event (reverse (take l.happening-index l.h)) (leaves_trace l.trace l.id)
