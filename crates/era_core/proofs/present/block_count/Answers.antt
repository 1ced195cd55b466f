use Rattle.std.proofs.Common.{sym}
use Rattle.std.specs.Prelude.{reverse}
use Rattle.era_core.proofs.AtOpening.{at_opening-none, at_opening-some}
use Rattle.era_model.specs.History.{blocks_at}
use Rattle.era_core.proofs.present.block_count.Goals as goal

-- the opening tells it
pub returns-in-Some : goal.returns-in-Some
returns-in-Some c =
    rw (at_opening-some 0 blocks_at (reverse c.args.h.now) c.in-Some.opening.now c.in-Some.ensures) c.blocks-in-Some.ensures.value

-- no session has opened
pub returns-in-None : goal.returns-in-None
returns-in-None c = sym (at_opening-none 0 blocks_at (reverse c.args.h.now) c.in-None.ensures)
