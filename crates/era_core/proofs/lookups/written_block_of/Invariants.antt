use Rattle.std.proofs.Common.{◌≡◌, take}
use Rattle.std.specs.Prelude.{reverse}
use Rattle.era_model.specs.CommandEvents.{written_block}
use Rattle.era_core.proofs.lookups.written_block_of.Given as goal

abbrev pub invariant-loop-happening : goal.invariant-loop-happening
invariant-loop-happening l = l.found ≡ written_block (reverse (take l.happening-index l.h)) l.id
