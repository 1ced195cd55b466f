-- A pass may learn of a stripe's stays while it is split off.
use Rattle.std.proofs.Common.{◌≡◌, ℕ, zero, suc, ◌-◌, ◌≤◌, List, [], ◌∷◌, ◌++◌, length, set, slice_index, refl, sym, ap, ◌∙◌, subst, ⊎_elim, arith}
use Rattle.std.proofs.lemmas.Bool.{cases_eq}
use Rattle.atomic_table.specs.Table.{Splits}
use Rattle.era_gate.specs.declared.states.StripeState.{StripeState}
use Rattle.era_gate.specs.declared.parts.StripePart.{StripePart}
use Rattle.era_gate.specs.declared.parts.PassPart.{PassPart}
use Rattle.era_gate.specs.declared.parts.View.{View}
use Rattle.era_gate.specs.declared.plan.Plan.{Plan}
use Rattle.era_gate.specs.Acts.{inside_of}
use Rattle.era_gate.specs.Parts.{most, only_at, stripe_with_pass, stripe_view, pass_view}
use Rattle.era_gate.specs.Rule.{Hidden, Standing, Ruled, Fits, weight}
use Rattle.era_gate.specs.Calls.{learns}
use Rattle.era_gate.specs.Plays.{Sat, part_of, IsStripeAt, without_pass}
use Rattle.era_gate.proofs.Choices.{most_at, only_here, only_else}
use Rattle.era_gate.proofs.Frames.{view_moves, set_there}
use Rattle.era_gate.proofs.Bitmaps.{words_of}
use Rattle.era_gate.proofs.Splitting.{splits}
use Rattle.era_gate.proofs.Cuts.{cut_pass}

-- a view that was written twice
pub set_twice : {A : Type 0} (xs : List A) (i : ℕ) (a b : A) → set (set xs i a) i b ≡ set xs i b
set_twice [] i a b = refl
set_twice (x ∷ xs) zero a b = refl
set_twice (x ∷ xs) (suc i) a b = ap (λ ys. x ∷ ys) (set_twice xs i a b)

-- what a list with one more bound says at an index
raised : (xs : List ℕ) (k n d most_ : ℕ) → slice_index xs d ≤ most_ → (d ≡ k → n ≤ most_) → slice_index (most xs (only_at k n)) d ≤ most_
raised xs k n d most_ low here = ⊎_elim
    (λ same. let at : slice_index (only_at k n) d ≡ n = subst (λ (j : ℕ). slice_index (only_at k n) j ≡ n) (sym same) (only_here k n) in let bound = here same in omega (arith, most_at xs (only_at k n) d))
    (λ other. let at : slice_index (only_at k n) d ≡ 0 = only_else k n d other in omega (arith, most_at xs (only_at k n) d))
    (cases_eq d k)

-- the view with the pass that learned fits
learned_fits : (plan : Plan) (m : Hidden) (id : ℕ) (p : StripePart) (q : PassPart) → Fits plan m id (stripe_with_pass p q) → Fits plan m id (stripe_with_pass p (learns q p))
learned_fits plan m id p q fit = record {
  stripes = fit.stripes;
  keepers = fit.keepers;
  lanes = fit.lanes;
  floor = fit.floor;
  apart = fit.apart;
  begun = λ d. raised q.begun p.stripe (length p.state.stays) d (length (m.account.stripe d).stays) (fit.begun d) (λ same. let is = own d same in omega (arith, is.0));
  ended = λ d.
      let before = fit.ended d in
      let c : ℕ = weight (inside_of m.account d) in
      let n : ℕ = length (m.account.stripe d).stays in
      let bound = raised q.ended p.stripe (length p.state.stays - weight p.state.inside) d (n - c) (omega arith) (λ same. let is = own d same in omega (arith, is.0, is.1)) in
      omega arith;
} where
  own : (d : ℕ) → d ≡ p.stripe → (length p.state.stays ≡ length (m.account.stripe d).stays) × (weight p.state.inside ≡ weight (inside_of m.account d))
  own d same =
      let state = ap m.account.stripe same ∙ fit.stripes.0.state in
      (ap (λ (s : StripeState). length s.stays) (sym state), ap (λ (s : StripeState). weight s.inside) (sym state))

learn_splits : (plan : Plan) (id : ℕ) (p : StripePart) (q : PassPart) → Splits (Ruled plan) id (stripe_with_pass p q) (stripe_view p) (pass_view (learns q p))
learn_splits plan id p q s ruled at =
    let m : Hidden = ruled.0 in
    let st = ruled.1 in
    let v : View = stripe_with_pass p q in
    let w : View = stripe_with_pass p (learns q p) in
    let stands = view_moves plan s.words s.words s.views m m.cleared id v w st at (λ other. absurd (other refl)) (learned_fits plan m id p q (st.views_fit id v at)) refl (λ d. refl) refl (λ l. refl) (words_of plan s.words s.views m st) in
    let after = splits plan id w (stripe_view p) (pass_view (learns q p)) (cut_pass w) (record { words = s.words; homes = s.homes; views = set s.views id w }) (m, stands) (set_there s.views id v w at) in
    (after.0, subst (λ (vs : List View). Standing plan s.words (vs ++ pass_view (learns q p) ∷ []) after.0) (set_twice s.views id w (stripe_view p)) after.1)

pub learn_at : (plan : Plan) (id : ℕ) (me : Sat) → IsStripeAt me → Splits (Ruled plan) id me.0 (without_pass me.0) (pass_view (learns me.0.pass (part_of me.0)))
learn_at plan id me is = subst (λ (v : View). Splits (Ruled plan) id v (without_pass v) (pass_view (learns v.pass (part_of v)))) (sym (ap (λ (z : Sat). z.0) is)) (learn_splits plan id (part_of me.0) me.0.pass)
