-- A stripe inside may be shown a block that the keeper marked, while their parts are in one view.
use Rattle.std.proofs.Common.{◌≡◌, ℕ, true, List, [], ◌∷◌, ◌++◌, set, refl, sym, ap, ◌∙◌, subst}
use Rattle.atomic_table.specs.Table.{Splits, Joins}
use Rattle.era_gate.specs.declared.states.KeeperState.{KeeperState}
use Rattle.era_gate.specs.declared.parts.StripePart.{StripePart}
use Rattle.era_gate.specs.declared.parts.KeeperPart.{KeeperPart}
use Rattle.era_gate.specs.declared.parts.PassPart.{PassPart}
use Rattle.era_gate.specs.declared.parts.View.{View}
use Rattle.era_gate.specs.declared.plan.Plan.{Plan}
use Rattle.era_gate.specs.Parts.{no_pass, pass_view, stripe_view}
use Rattle.era_gate.specs.Rule.{Hidden, Standing, Ruled, Fits}
use Rattle.era_gate.specs.Calls.{has_mark, sees}
use Rattle.era_gate.specs.Plays.{Sat, part_of, keeper_of, with_stripe, without_stripe, IsKeeperWithStripe}
use Rattle.era_gate.proofs.Accounts.{IsSound}
use Rattle.era_gate.proofs.Bitmaps.{words_of}
use Rattle.era_gate.proofs.Closing.{stripe_in_at}
use Rattle.era_gate.proofs.Cuts.{cut_stripe}
use Rattle.era_gate.proofs.Frames.{sound_of, view_moves, set_there}
use Rattle.era_gate.proofs.Learning.{set_twice}
use Rattle.era_gate.proofs.Splitting.{splits}

-- a stripe's seat between calls joins another one
pub stripe_at : (plan : Plan) (id other : ℕ) (v : View) (me : Sat) → me ≡ (stripe_view (part_of me.0), []) → Joins (Ruled plan) id v other me.0 (with_stripe v me.0) (pass_view no_pass)
stripe_at plan id other v me is = stripe_in_at plan id other v me.0 (ap (λ (z : Sat). z.0) is)

-- a view of the keeper and one stripe
abbrev pub both : StripePart → KeeperPart → PassPart → View
both p k q = record { stripes = p ∷ []; keepers = k ∷ []; pass = q }

-- the stripe's era is the keeper's, whose marks are marked
shown_fits : (plan : Plan) (m : Hidden) (id : ℕ) (p : StripePart) (k : KeeperPart) (q : PassPart) (block : ℕ) → IsSound plan.stripes m.account → p.state.inside ≡ true → has_mark block k.state.era k.state.entries ≡ true
    → Fits plan m id (both p k q) → Fits plan m id (both (sees p true block) k q)
shown_fits plan m id p k q block sound inside mark fit =
    let h = fit.stripes.0 in
    let marked : m.account.marked block m.account.keeper.era ≡ true = sound.marks block m.account.keeper.era ∙ (ap (λ (j : KeeperState). has_mark block j.era j.entries) fit.keepers.0.state ∙ mark) in
    let here : m.account.marked block p.era ≡ true = subst (λ e. m.account.marked block e ≡ true) (sym (h.era inside)) marked in
    record {
      stripes = (record { own = h.own; low = h.low; state = h.state; era = h.era; seen = ((inside, here), h.seen) }, tt);
      keepers = fit.keepers;
      lanes = fit.lanes;
      floor = fit.floor;
      apart = fit.apart;
      begun = fit.begun;
      ended = fit.ended;
    }

show_splits : (plan : Plan) (id : ℕ) (p : StripePart) (k : KeeperPart) (q : PassPart) (block : ℕ) → p.state.inside ≡ true → has_mark block k.state.era k.state.entries ≡ true
    → Splits (Ruled plan) id (both p k q) (without_stripe (both p k q)) (stripe_view (sees p true block))
show_splits plan id p k q block inside mark s ruled at =
    let m : Hidden = ruled.0 in
    let st = ruled.1 in
    let v : View = both p k q in
    let w : View = both (sees p true block) k q in
    let fits = shown_fits plan m id p k q block (sound_of plan s.words s.views m st) inside mark (st.views_fit id v at) in
    let stands = view_moves plan s.words s.words s.views m m.cleared id v w st at (λ other. absurd (other refl)) fits refl (λ d. refl) refl (λ l. refl) (words_of plan s.words s.views m st) in
    let after = splits plan id w (without_stripe w) (stripe_view (sees p true block)) (cut_stripe (sees p true block) [] (k ∷ []) q) (record { words = s.words; homes = s.homes; views = set s.views id w }) (m, stands) (set_there s.views id v w at) in
    (after.0, subst (λ (vs : List View). Standing plan s.words (vs ++ stripe_view (sees p true block) ∷ []) after.0) (set_twice s.views id w (without_stripe w)) after.1)

pub show_at : (plan : Plan) (id : ℕ) (me : Sat) (block : ℕ) → IsKeeperWithStripe me → (part_of me.0).state.inside ≡ true → has_mark block (keeper_of me.0).state.era (keeper_of me.0).state.entries ≡ true
    → Splits (Ruled plan) id me.0 (without_stripe me.0) (stripe_view (sees (part_of me.0) true block))
show_at plan id me block is inside mark = subst (λ (v : View). Splits (Ruled plan) id v (without_stripe v) (stripe_view (sees (part_of v) true block))) (sym (ap (λ (z : Sat). z.0) is)) (show_splits plan id (part_of me.0) (keeper_of me.0) me.0.pass block inside mark)
