use Rattle.std.proofs.Common.{◌≡◌, ◌-◌, Some, length, ap, ◌∙◌}
use Rattle.std.specs.Prelude.{slice_get}
use Rattle.era_model.specs.declared.history.Happening.TheVariants.{Crashed}
use Rattle.era_core.proofs.NextSession.{next-made, next-none}
use Rattle.era_core.proofs.reopening.next_opening.Goals as goal

-- it opens on the images of the crash
pub returns-in_ok-opening_on-in-Some : goal.returns-in_ok-opening_on-in-Some
returns-in_ok-opening_on-in-Some c =
    let value = c.in-Some-Crashed.ensures.value in
    let images = c.in-Some-Crashed.images-is in
    let item = c.in-Some-Crashed.field-0-is in
    let last : Some (Crashed c.in-Some-Crashed.images) ≡ slice_get c.args.h.now (length c.args.h.now - 1) = cc in
    ap (λ o. Some o) c.in_ok-opening_on-in-Some.ensures ∙ next-made c.args.h.now c.in-Some-Crashed.images c.in-Some.before.now c.args.stripes c.requires last c.in-Some.ensures

-- no session was opened
pub returns-in-None : goal.returns-in-None
returns-in-None c = next-none c.args.h.now c.args.stripes c.in-None.ensures
