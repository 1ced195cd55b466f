use Rattle.std.proofs.Common.{sym, None}
use Rattle.std.specs.Prelude.{reverse}
use Rattle.era_core.proofs.AtOpening.{at_opening-none, at_opening-some}
use Rattle.era_base.specs.Geometry.{place_at}
use Rattle.era_model.specs.History.{blocks_at}
use Rattle.era_core.proofs.present.place_of.Goals as goal

-- the opening tells it
pub returns-in-Some-clause-value : goal.returns-in-Some-clause-value
returns-in-Some-clause-value c =
    rw (at_opening-some None (λ opening. place_at opening.geometry.sectors opening.geometry.block_sectors c.args.sector c.args.count) (reverse c.args.h.now) c.in-Some.opening.now c.in-Some.ensures) c.place_of.ensures.value

-- no session has opened
pub returns-in-None-clause-value : goal.returns-in-None-clause-value
returns-in-None-clause-value c = sym (at_opening-none None (λ opening. place_at opening.geometry.sectors opening.geometry.block_sectors c.args.sector c.args.count) (reverse c.args.h.now) c.in-None.ensures)

-- its block is one of the origin's
pub returns-in-Some-clause-block : goal.returns-in-Some-clause-block
returns-in-Some-clause-block c =
    rw (at_opening-some 0 blocks_at (reverse c.args.h.now) c.in-Some.opening.now c.in-Some.ensures) c.place_of.ensures.block
