-- A stripe may enter, and leave.
use Rattle.std.proofs.Common.{◌≡◌, ℕ, ◌+◌, ◌-◌, ◌*◌, ◌/◌, ◌%◌, ◌^◌, ◌≢◌, ◌==◌, cond, true, false, None, List, [], ◌∷◌, map, length, set, slice_index, refl, sym, ap, ap₂, ◌∙◌, subst, arith, get_or-set_same, get_or-set_other, eqb-true}
use mathlib.Core.Option.{none}
use Rattle.atomic_table.specs.Table.{step, keeps, Allows}
use Rattle.era_base.specs.declared.ids.CmdId.{CmdId}
use Rattle.era_gate.specs.declared.states.StripeState.{StripeState}
use Rattle.era_gate.specs.declared.stays.Receipt.{Receipt}
use Rattle.era_gate.specs.declared.stays.Stay.{Stay}
use Rattle.era_gate.specs.declared.parts.StripePart.{StripePart}
use Rattle.era_gate.specs.declared.parts.LanePart.{LanePart}
use Rattle.era_gate.specs.declared.parts.PassPart.{PassPart}
use Rattle.era_gate.specs.declared.parts.View.{View}
use Rattle.era_gate.specs.declared.plan.Plan.{Plan}
use Rattle.era_gate.specs.Acts.{Act, stay_began, stay_ended, after, receipts_after, stripe_in, stripe_out, count, inside_of, MayAct}
use Rattle.era_gate.specs.Parts.{has_lane, stripe_with_pass, lane_part_after, view_after}
use Rattle.era_gate.specs.Rule.{Hidden, Standing, Ruled}
use Rattle.era_gate.specs.Calls.{stay_of}
use Rattle.era_gate.specs.Plays.{Enters, Leaves, entered, left}
use Rattle.era_gate.proofs.Choices.{at_cond, self_eq, clash, count_more, count_below}
use Rattle.era_gate.proofs.Touching.{Owns}
use Rattle.era_gate.proofs.Fitting.{hidden_after}
use Rattle.era_gate.proofs.Frames.{act_moves, low_words, lane_low, lane_owned}

-- lanes for which an act has no receipt
pub same_lanes : (x : Act) (place : ℕ) (parts : List LanePart) → ((l : ℕ) (rs : List Receipt) → receipts_after x place l rs ≡ rs) → map (lane_part_after x place) parts ≡ parts
same_lanes x place [] still = refl
same_lanes x place (part ∷ parts) still = ap₂ (λ (p : LanePart) (ps : List LanePart). p ∷ ps) (ap (λ (rs : List Receipt). record { lane = part.lane; receipts = rs }) (still part.lane part.receipts)) (same_lanes x place parts still)

-- the view of the stripe that entered, and left
enter_view : (p : StripePart) (q : PassPart) (cmd : CmdId) (place e n : ℕ) → e ≡ n / 4294967296 → view_after (stay_began (stay_of p q cmd)) place e (stripe_with_pass p q) ≡ entered cmd n (stripe_with_pass p q)
enter_view p q cmd place e n era = rw (self_eq p.stripe, era) refl

leave_view : (p : StripePart) (q : PassPart) (place e : ℕ) → view_after (stay_ended p.stripe (length p.state.stays)) place e (stripe_with_pass p q) ≡ left (stripe_with_pass p q)
leave_view p q place e = rw (self_eq p.stripe, same_lanes (stay_ended p.stripe (length p.state.stays)) place q.lanes (λ l rs. refl)) refl

pub enter_allows : (plan : Plan) (slots id : ℕ) (p : StripePart) (q : PassPart) (cmd : CmdId) → p.state.inside ≡ false → has_lane cmd.lane q.lanes ≡ true
    → Allows (Ruled plan) slots id (stripe_with_pass p q, []) 0 (λ n. (n + 1) % 2 ^ 64) (Enters cmd (step slots 0 1 0 none) (stripe_with_pass p q, []))
enter_allows plan slots id p q cmd out lane s ruled homes at small =
    let m : Hidden = ruled.0 in
    let st = ruled.1 in
    let v : View = stripe_with_pass p q in
    let n : ℕ = slice_index s.words 0 in
    let fit = st.views_fit id v at in
    let h = fit.stripes.0 in
    let stay : Stay = stay_of p q cmd in
    let x : Act = stay_began stay in
    let k : ℕ = p.stripe in
    let outside : (m.account.stripe k).inside ≡ false = ap (λ (t : StripeState). t.inside) h.state ∙ out in
    let may : MayAct plan.stripes m.account x = record { low = h.low; outside = outside; number = ap (λ (t : StripeState). length t.stays) (sym h.state); floor = fit.floor; lane = lane_low m id cmd.lane q.lanes lane fit.lanes } in
    let now : inside_of (after m.account x) k ≡ true = ap (λ b. (cond b (stripe_in stay (m.account.stripe k)) (m.account.stripe k)).inside) (self_eq k) in
    let others : (d : ℕ) → d ≢ k → inside_of (after m.account x) d ≡ inside_of m.account d = λ d other.
    at_cond (λ (t : StripeState). t.inside ≡ (m.account.stripe d).inside) (d == k) (stripe_in stay (m.account.stripe d)) (m.account.stripe d) (λ on. absurd (other (eqb-true d k on))) (λ off. refl) in
    let more : count plan.stripes (inside_of (after m.account x)) ≡ count plan.stripes (inside_of m.account) + 1 = count_more plan.stripes (inside_of m.account) (inside_of (after m.account x)) k h.low outside now others in
    let owns : Owns m id x = record {
      stripes = λ d is. ap m.stripe_owner (eqb-true d k is) ∙ h.own;
      keeper = λ never. absurd (clash never refl);
      lanes = λ l is. ap m.lane_owner (eqb-true l cmd.lane is) ∙ lane_owned m id cmd.lane q.lanes lane fit.lanes;
    } in
    let few = count_below plan.stripes (inside_of m.account) in
    let limit = st.plan_fits.stripes in
    let fits = st.era_fits in
    let gate = st.gate in
    let size = st.size in
    let c : ℕ = count plan.stripes (inside_of m.account) in
    let era : m.account.keeper.era ≡ n / 4294967296 = omega arith in
    let word : (n + 1) % 2 ^ 64 ≡ m.account.keeper.era * 4294967296 + count plan.stripes (inside_of (after m.account x)) = omega arith in
    let words' : List ℕ = set s.words 0 ((n + 1) % 2 ^ 64) in
    let shown = low_words plan s.words s.views m x 0 ((n + 1) % 2 ^ 64) st (omega arith) refl refl
    (get_or-set_same s.words 0 ((n + 1) % 2 ^ 64) 0 (omega arith) ∙ word) (get_or-set_other s.words 0 1 ((n + 1) % 2 ^ 64) 0 (λ same. absurd (omega arith)) ∙ st.order) in
    let stands = act_moves plan s.words words' s.views m id v x m.account.keeper.era st at may owns refl refl shown in
    (entered cmd n v, keeps, tt, (hidden_after m x, subst (λ (w : View). Standing plan words' (set s.views id w) (hidden_after m x)) (enter_view p q cmd m.account.places m.account.keeper.era n era) stands), refl)

pub leave_allows : (plan : Plan) (slots id : ℕ) (p : StripePart) (q : PassPart) → p.state.inside ≡ true → p.state.flight ≡ None
    → Allows (Ruled plan) slots id (stripe_with_pass p q, []) 0 (λ n. (n + (2 ^ 64 - 1)) % 2 ^ 64) (Leaves (step slots 0 1 0 none) (stripe_with_pass p q, []))
leave_allows plan slots id p q in_ idle s ruled homes at small =
    let m : Hidden = ruled.0 in
    let st = ruled.1 in
    let v : View = stripe_with_pass p q in
    let n : ℕ = slice_index s.words 0 in
    let fit = st.views_fit id v at in
    let h = fit.stripes.0 in
    let k : ℕ = p.stripe in
    let x : Act = stay_ended k (length p.state.stays) in
    let inside : (m.account.stripe k).inside ≡ true = ap (λ (t : StripeState). t.inside) h.state ∙ in_ in
    let may : MayAct plan.stripes m.account x = record { low = h.low; inside = inside; idle = ap (λ (t : StripeState). t.flight) h.state ∙ idle; number = ap (λ (t : StripeState). length t.stays) (sym h.state) } in
    let now : inside_of (after m.account x) k ≡ false = ap (λ b. (cond b (stripe_out (m.account.stripe k)) (m.account.stripe k)).inside) (self_eq k) in
    let others : (d : ℕ) → d ≢ k → inside_of m.account d ≡ inside_of (after m.account x) d = λ d other.
    at_cond (λ (t : StripeState). (m.account.stripe d).inside ≡ t.inside) (d == k) (stripe_out (m.account.stripe d)) (m.account.stripe d) (λ on. absurd (other (eqb-true d k on))) (λ off. refl) in
    let more : count plan.stripes (inside_of m.account) ≡ count plan.stripes (inside_of (after m.account x)) + 1 = count_more plan.stripes (inside_of (after m.account x)) (inside_of m.account) k h.low now inside others in
    let owns : Owns m id x = record {
      stripes = λ d is. ap m.stripe_owner (eqb-true d k is) ∙ h.own;
      keeper = λ never. absurd (clash never refl);
      lanes = λ l never. absurd (clash never refl);
    } in
    let few = count_below plan.stripes (inside_of m.account) in
    let limit = st.plan_fits.stripes in
    let fits = st.era_fits in
    let gate = st.gate in
    let size = st.size in
    let n' : ℕ = (n + (2 ^ 64 - 1)) % 2 ^ 64 in
    let word : (n + (2 ^ 64 - 1)) % 2 ^ 64 ≡ m.account.keeper.era * 4294967296 + count plan.stripes (inside_of (after m.account x)) = omega arith in
    let words' : List ℕ = set s.words 0 n' in
    let shown = low_words plan s.words s.views m x 0 n' st (omega arith) refl refl
    (get_or-set_same s.words 0 n' 0 (omega arith) ∙ word) (get_or-set_other s.words 0 1 n' 0 (λ same. absurd (omega arith)) ∙ st.order) in
    let stands = act_moves plan s.words words' s.views m id v x m.account.keeper.era st at may owns refl refl shown in
    (left v, keeps, tt, (hidden_after m x, subst (λ (w : View). Standing plan words' (set s.views id w) (hidden_after m x)) (leave_view p q m.account.places m.account.keeper.era) stands), refl)
