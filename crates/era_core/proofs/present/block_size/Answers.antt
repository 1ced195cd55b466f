use Rattle.std.proofs.Common.{rules, sym}
use Rattle.std.specs.Prelude.{reverse}
use Rattle.era_core.proofs.AtOpening.{at_opening-none, at_opening-some}
use Rattle.era_core.proofs.present.block_size.Goals as goal

-- the opening tells it
pub returns-in-Some-clause-value : goal.returns-in-Some-clause-value
returns-in-Some-clause-value c =
    rw (at_opening-some 0 (λ opening. opening.geometry.block_sectors) (reverse c.args.h.now) c.in-Some.opening.now c.in-Some.ensures) (search rules)

-- no session has opened
pub returns-in-None-clause-value : goal.returns-in-None-clause-value
returns-in-None-clause-value c = sym (at_opening-none 0 (λ opening. opening.geometry.block_sectors) (reverse c.args.h.now) c.in-None.ensures)
