-- What is of the session's opening.
use Rattle.std.proofs.Common.{◌≡◌, List, [], ◌∷◌, Some, None, refl}
use Rattle.era_core.specs.Present.{opening_in}
use Rattle.era_model.specs.declared.history.Happening.{Happening}
use Rattle.era_model.specs.declared.history.Happening.TheVariants.{Opened, Happened, Crashed}
use Rattle.era_model.specs.declared.opening.Opening.{Opening}
use Rattle.era_model.specs.History.{at_opening}

-- where the opening is known
pub at_opening-some : {T : Type 0} (none : T) (of : Opening → T) (h : List Happening) (opening : Opening) → Some opening ≡ opening_in h → at_opening none of h ≡ of opening
at_opening-some none of [] opening is = absurd (cc)
at_opening-some none of (Opened other ∷ earlier) opening is = let same : opening ≡ other = cc in rw same refl
at_opening-some none of (Happened event ∷ earlier) opening is = at_opening-some none of earlier opening is
at_opening-some none of (Crashed images ∷ earlier) opening is = at_opening-some none of earlier opening is

-- where there is none
pub at_opening-none : {T : Type 0} (none : T) (of : Opening → T) (h : List Happening) → None ≡ opening_in h → at_opening none of h ≡ none
at_opening-none none of [] is = refl
at_opening-none none of (Opened other ∷ earlier) is = absurd (cc)
at_opening-none none of (Happened event ∷ earlier) is = at_opening-none none of earlier is
at_opening-none none of (Crashed images ∷ earlier) is = at_opening-none none of earlier is
