-- Each session has a stripe.
use Rattle.std.proofs.Common.{◌≡◌, ℕ, ◌<◌, List, [], ◌∷◌, ◌++◌, take, drop, lit<, ap, ◌∙◌, sym}
use Rattle.std.specs.Prelude.{reverse}
use Rattle.std.proofs.lemmas.List.{reverse-append, take-append-drop}
use Rattle.era_core.specs.Present.{HaveStripes}
use Rattle.era_model.specs.declared.history.Happening.{Happening}
use Rattle.era_model.specs.declared.history.Happening.TheVariants.{Opened, Happened, Crashed}
use Rattle.era_model.specs.History.{at_opening}

-- the present one has
pub some_stripe : (h : List Happening) → HaveStripes h → 0 < at_opening 1 (λ opening. opening.stripes) h
some_stripe [] have = lit< tt
some_stripe (Opened opening ∷ earlier) have = have.0
some_stripe (Happened event ∷ earlier) have = some_stripe earlier have
some_stripe (Crashed images ∷ earlier) have = some_stripe earlier have

-- the earlier ones have
have_stripes-earlier : (later earlier : List Happening) → HaveStripes (later ++ earlier) → HaveStripes earlier
have_stripes-earlier [] earlier have = have
have_stripes-earlier (Opened opening ∷ later) earlier have = have_stripes-earlier later earlier have.1
have_stripes-earlier (Happened event ∷ later) earlier have = have_stripes-earlier later earlier have
have_stripes-earlier (Crashed images ∷ later) earlier have = have_stripes-earlier later earlier have

-- so have those of fewer happenings
pub have_stripes-take : (happenings : List Happening) (i : ℕ) → HaveStripes (reverse happenings) → HaveStripes (reverse (take i happenings))
have_stripes-take happenings i have =
    let parts : reverse happenings ≡ reverse (drop i happenings) ++ reverse (take i happenings) =
    ap (λ l. reverse l) (sym (take-append-drop i happenings)) ∙ reverse-append (take i happenings) (drop i happenings) in
    have_stripes-earlier (reverse (drop i happenings)) (reverse (take i happenings)) (rw parts at have)
