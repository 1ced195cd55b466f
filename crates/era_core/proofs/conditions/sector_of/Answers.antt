use Rattle.std.proofs.Common.{ℕ, ◌+◌, ◌*◌, rules, sym}
use Rattle.std.specs.Prelude.{reverse}
use Rattle.era_core.proofs.AtOpening.{at_opening-none, at_opening-some}
use Rattle.era_model.specs.declared.opening.Opening.{Opening}
use Rattle.era_core.proofs.conditions.sector_of.Goals as goal

-- the opening tells it
pub returns-in-Some : goal.returns-in-Some
returns-in-Some c =
    let of : Opening → ℕ = λ opening. c.args.block * opening.geometry.block_sectors + c.args.first in
    rw (at_opening-some 0 of (reverse c.args.h.now) c.in-Some.opening.now c.in-Some.ensures) (search rules)

-- no session has opened
pub returns-in-None : goal.returns-in-None
returns-in-None c =
    let of : Opening → ℕ = λ opening. c.args.block * opening.geometry.block_sectors + c.args.first in
    sym (at_opening-none 0 of (reverse c.args.h.now) c.in-None.ensures)
