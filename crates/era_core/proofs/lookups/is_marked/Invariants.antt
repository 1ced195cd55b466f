use Rattle.std.proofs.Common.{◌≡◌, take}
use Rattle.std.specs.Prelude.{reverse}
use Rattle.era_model.specs.Marking.{is_marked_in}
use Rattle.era_core.proofs.lookups.is_marked.Given as goal

abbrev pub invariant-loop-happening : goal.invariant-loop-happening
invariant-loop-happening l = l.found ≡ is_marked_in (reverse (take l.happening-index l.h)) l.block l.era
