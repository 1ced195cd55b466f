use Rattle.std.proofs.Common.{List, ℕ, [], length, ap, rules, sym}
use Rattle.std.specs.Prelude.{reverse}
use Rattle.era_core.proofs.AtOpening.{at_opening-none, at_opening-some}
use Rattle.era_model.specs.History.{contents_of}
use Rattle.era_core.proofs.images.opening_len.Goals as goal

-- the opening tells it
pub returns-in-Some : goal.returns-in-Some
returns-in-Some c =
    rw (at_opening-some [] contents_of (reverse c.args.h.now) c.in-Some.opening.now c.in-Some.ensures) (search rules)

-- no session has opened
pub returns-in-None : goal.returns-in-None
returns-in-None c = sym (ap (λ (l : List ℕ). length l) (at_opening-none [] contents_of (reverse c.args.h.now) c.in-None.ensures))
