use Rattle.std.proofs.Common.{rules, sym}
use Rattle.std.specs.Prelude.{reverse}
use Rattle.era_core.proofs.AtOpening.{at_opening-none, at_opening-some}
use Rattle.era_base.specs.Geometry.{stripe_of as stripe_in}
use Rattle.era_model.specs.History.{blocks_at}
use Rattle.era_core.proofs.Stripes.{some_stripe}
use Rattle.era_core.proofs.present.stripe_of.Goals as goal

-- a session has a stripe
pub div_ceil-requires : goal.div_ceil-requires
div_ceil-requires c =
    rw (at_opening-some 1 (λ opening. opening.stripes) (reverse c.args.h.now) c.in-Some.opening.now c.in-Some.ensures) at (some_stripe (reverse c.args.h.now) c.requires)

-- the opening tells it
pub returns-in-Some : goal.returns-in-Some
returns-in-Some c =
    rw (at_opening-some 0 (λ opening. stripe_in (blocks_at opening) opening.stripes c.args.block) (reverse c.args.h.now) c.in-Some.opening.now c.in-Some.ensures) (search rules)

-- no session has opened
pub returns-in-None : goal.returns-in-None
returns-in-None c = sym (at_opening-none 0 (λ opening. stripe_in (blocks_at opening) opening.stripes c.args.block) (reverse c.args.h.now) c.in-None.ensures)
