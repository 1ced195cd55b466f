use Rattle.std.proofs.Common.{rules, sym, false}
use Rattle.std.specs.Prelude.{is_some, reverse}
use Rattle.era_core.proofs.AtOpening.{at_opening-none, at_opening-some}
use Rattle.era_core.proofs.present.knows_contents.Goals as goal

-- the opening tells it
pub returns-in-Some : goal.returns-in-Some
returns-in-Some c =
    rw (at_opening-some false (λ opening. is_some opening.contents.bytes) (reverse c.args.h.now) c.in-Some.opening.now c.in-Some.ensures) (search rules)

-- no session has opened
pub returns-in-None : goal.returns-in-None
returns-in-None c = sym (at_opening-none false (λ opening. is_some opening.contents.bytes) (reverse c.args.h.now) c.in-None.ensures)
