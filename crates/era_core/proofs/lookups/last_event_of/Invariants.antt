use Rattle.std.proofs.Common.{◌≡◌, take}
use Rattle.std.specs.Prelude.{reverse, option_copied}
use Rattle.era_model.specs.Marking.{last_drawn}
use Rattle.era_core.proofs.lookups.last_event_of.Given as goal

abbrev pub invariant-loop-happening : goal.invariant-loop-happening
invariant-loop-happening l = option_copied l.found ≡ last_drawn (reverse (take l.happening-index l.h)) l.id
