-- What an account has as entries of a stripe and of the keeper is what the acts drew.
use Rattle.std.proofs.Common.{◌≡◌, ℕ, ◌+◌, ◌==◌, List, [], ◌∷◌, ◌++◌, append_assoc, length, refl, sym, ◌∙◌, arith}
use Rattle.std.proofs.lemmas.List.{append-nil}
use Rattle.std.proofs.lemmas.Bool.{cond_both}
use Rattle.era_gate.specs.declared.states.StripeState.{StripeState}
use Rattle.era_gate.specs.Acts.{Act, Account, stripe_drew, keeper_drew, stay_began, stay_ended, era_moved, exchange_failed, after, reach, entry, stripe_with, stripe_in, stripe_out}
use Rattle.era_gate.specs.Drawn.{drawn, drawn_by_stripe, drawn_by_keeper}

-- a stripe's entries after acts
pub stripe-drawn : (d : ℕ) (a : Account) (acts : List Act) → ((reach a acts).stripe d).entries ≡ (a.stripe d).entries ++ drawn_by_stripe d a.places acts
stripe-drawn d a [] = sym (append-nil (a.stripe d).entries)
stripe-drawn d a (stripe_drew k event ∷ acts) =
    stripe-drawn d (after a (stripe_drew k event)) acts
    ∙ cond_both (d == k) (stripe_with event a.places (a.stripe d)) (a.stripe d) (λ (s : StripeState). s.entries ++ drawn_by_stripe d (a.places + 1) acts ≡ (a.stripe d).entries ++ drawn_by_stripe d a.places (stripe_drew k event ∷ acts))
    (λ on. rw on (append_assoc (a.stripe d).entries (entry a.places event ∷ []) (drawn_by_stripe d (a.places + 1) acts)))
    (λ off. rw off refl)
stripe-drawn d a (keeper_drew event ∷ acts) = stripe-drawn d (after a (keeper_drew event)) acts
stripe-drawn d a (stay_began stay ∷ acts) =
    stripe-drawn d (after a (stay_began stay)) acts
    ∙ cond_both (d == stay.stripe) (stripe_in stay (a.stripe d)) (a.stripe d) (λ (s : StripeState). s.entries ++ drawn_by_stripe d a.places acts ≡ (a.stripe d).entries ++ drawn_by_stripe d a.places acts) (λ on. refl) (λ off. refl)
stripe-drawn d a (stay_ended k begun ∷ acts) =
    stripe-drawn d (after a (stay_ended k begun)) acts
    ∙ cond_both (d == k) (stripe_out (a.stripe d)) (a.stripe d) (λ (s : StripeState). s.entries ++ drawn_by_stripe d a.places acts ≡ (a.stripe d).entries ++ drawn_by_stripe d a.places acts) (λ on. refl) (λ off. refl)
stripe-drawn d a (era_moved ∷ acts) = stripe-drawn d (after a era_moved) acts
stripe-drawn d a (exchange_failed miss ∷ acts) = stripe-drawn d (after a (exchange_failed miss)) acts

-- the keeper's entries after acts
pub keeper-drawn : (a : Account) (acts : List Act) → (reach a acts).keeper.entries ≡ a.keeper.entries ++ drawn_by_keeper a.places acts
keeper-drawn a [] = sym (append-nil a.keeper.entries)
keeper-drawn a (stripe_drew k event ∷ acts) = keeper-drawn (after a (stripe_drew k event)) acts
keeper-drawn a (keeper_drew event ∷ acts) =
    keeper-drawn (after a (keeper_drew event)) acts ∙ append_assoc a.keeper.entries (entry a.places event ∷ []) (drawn_by_keeper (a.places + 1) acts)
keeper-drawn a (stay_began stay ∷ acts) = keeper-drawn (after a (stay_began stay)) acts
keeper-drawn a (stay_ended k begun ∷ acts) = keeper-drawn (after a (stay_ended k begun)) acts
keeper-drawn a (era_moved ∷ acts) = keeper-drawn (after a era_moved) acts
keeper-drawn a (exchange_failed miss ∷ acts) = keeper-drawn (after a (exchange_failed miss)) acts

-- so many places are drawn as there are entries
pub places-drawn : (a : Account) (acts : List Act) → (reach a acts).places ≡ a.places + length (drawn a.places acts)
places-drawn a [] = omega arith
places-drawn a (stripe_drew k event ∷ acts) = let rest = places-drawn (after a (stripe_drew k event)) acts in omega (arith, rest)
places-drawn a (keeper_drew event ∷ acts) = let rest = places-drawn (after a (keeper_drew event)) acts in omega (arith, rest)
places-drawn a (stay_began stay ∷ acts) = places-drawn (after a (stay_began stay)) acts
places-drawn a (stay_ended k begun ∷ acts) = places-drawn (after a (stay_ended k begun)) acts
places-drawn a (era_moved ∷ acts) = places-drawn (after a era_moved) acts
places-drawn a (exchange_failed miss ∷ acts) = places-drawn (after a (exchange_failed miss)) acts
