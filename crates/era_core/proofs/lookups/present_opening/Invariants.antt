use Rattle.std.proofs.Common.{◌≡◌, take}
use Rattle.std.specs.Prelude.{reverse, option_copied}
use Rattle.era_core.specs.Present.{opening_in}
use Rattle.era_core.proofs.lookups.present_opening.Given as goal

abbrev pub invariant-loop-happening : goal.invariant-loop-happening
invariant-loop-happening l = option_copied l.found ≡ opening_in (reverse (take l.happening-index l.h))
