-- Two views may be made one.
use Rattle.std.proofs.Common.{◌≡◌, ℕ, ◌+◌, ◌-◌, ◌≤◌, ◌≢◌, ◌||◌, cond, Bool, true, false, List, length, set, slice_index, refl, sym, ap, ◌∙◌, subst, inl, inr, ⊎_elim, arith}
use Rattle.std.proofs.lemmas.Bool.{cases_eq}
use mathlib.Core.Option.{some, some-injective}
use lib.ListN.{get_elem?}
use Rattle.atomic_table.specs.Table.{Joins}
use Rattle.atomic_table.proofs.Lists.{at_set, set_else}
use Rattle.era_gate.specs.declared.parts.StripePart.{StripePart}
use Rattle.era_gate.specs.declared.parts.KeeperPart.{KeeperPart}
use Rattle.era_gate.specs.declared.parts.LanePart.{LanePart}
use Rattle.era_gate.specs.declared.parts.PassPart.{PassPart}
use Rattle.era_gate.specs.declared.parts.View.{View}
use Rattle.era_gate.specs.declared.plan.Plan.{Plan}
use Rattle.era_gate.specs.Acts.{inside_of}
use Rattle.era_gate.specs.Parts.{has_stripe, has_keeper, has_lane, no_pass, pass_view}
use Rattle.era_gate.specs.Rule.{Hidden, Ruled, Fits, StripeFits, KeeperFits, LaneFits, IsThere, Each, AreDistinct, weight}
use Rattle.era_gate.proofs.Choices.{clash}
use Rattle.era_gate.proofs.Fitting.{all_map}
use Rattle.era_gate.proofs.Frames.{budgets_set, lane_owned, set_there}
use Rattle.era_gate.proofs.Splitting.{among_stripes, among_keepers, among_lanes, both_of, stripe_owned, keeper_owned}

-- How two views become one: it has the parts of both, and knows no more than they.
pub record Merge (v w both : View) : Type 1 where
  pub stripes : (P : StripePart → Type 0) → Each P v.stripes → Each P w.stripes → Each P both.stripes
  pub keepers : (P : KeeperPart → Type 0) → Each P v.keepers → Each P w.keepers → Each P both.keepers
  pub lanes : (P : LanePart → Type 0) → Each P v.pass.lanes → Each P w.pass.lanes → Each P both.pass.lanes
  pub has_stripes : (d : ℕ) → (has_stripe d v.stripes || has_stripe d w.stripes) ≡ true → has_stripe d both.stripes ≡ true
  pub has_keepers : (has_keeper v.keepers || has_keeper w.keepers) ≡ true → has_keeper both.keepers ≡ true
  pub has_lanes : (l : ℕ) → (has_lane l v.pass.lanes || has_lane l w.pass.lanes) ≡ true → has_lane l both.pass.lanes ≡ true
  pub distinct : AreDistinct v.stripes → AreDistinct w.stripes → ((d : ℕ) → has_stripe d v.stripes ≡ true → has_stripe d w.stripes ≡ false) → AreDistinct both.stripes
  pub budget : both.pass.budget ≡ v.pass.budget + w.pass.budget
  pub floor : (n : ℕ) → v.pass.floor ≤ n → w.pass.floor ≤ n → both.pass.floor ≤ n
  pub begun : (d n : ℕ) → slice_index v.pass.begun d ≤ n → slice_index w.pass.begun d ≤ n → slice_index both.pass.begun d ≤ n
  pub ended : (d n : ℕ) → slice_index v.pass.ended d ≤ n → slice_index w.pass.ended d ≤ n → slice_index both.pass.ended d ≤ n

module _ (plan : Plan) (m : Hidden) (id other : ℕ) (w : View) where
  -- who has what after the join
  abbrev pub hidden_join : Hidden
  hidden_join = record {
    acts = m.acts;
    account = m.account;
    cleared = m.cleared;
    stripe_owner = λ d. cond (has_stripe d w.stripes) id (m.stripe_owner d);
    keeper_owner = cond (has_keeper w.keepers) id m.keeper_owner;
    lane_owner = λ l. cond (has_lane l w.pass.lanes) id (m.lane_owner l);
  }

  kept : (b : Bool) (owner : ℕ) → owner ≡ id → cond b id owner ≡ id
  kept true owner own = refl
  kept false owner own = own

  -- where another's part isn't of the view that was joined
  elsewhere : (b : Bool) (owner j : ℕ) → (b ≡ true → owner ≡ other) → owner ≡ j → j ≢ other → cond b id owner ≡ j
  elsewhere true owner j mine own differs = absurd (differs (sym own ∙ mine refl))
  elsewhere false owner j mine own differs = own

  both_fits : (v both : View) → Merge v w both → Fits plan m id v → Fits plan m other w → other ≢ id → Fits plan hidden_join id both
  both_fits v both merge fit fit' differs = record {
    stripes = merge.stripes (StripeFits plan hidden_join id)
        (all_map (StripeFits plan m id) _ v.stripes (λ p h. record { own = kept (has_stripe p.stripe w.stripes) (m.stripe_owner p.stripe) h.own; low = h.low; state = h.state; era = h.era; seen = h.seen }) fit.stripes)
        (all_map _ _ w.stripes (λ p (h : StripeFits plan m other p × (has_stripe p.stripe w.stripes ≡ true)). record { own = ap (λ b. cond b id (m.stripe_owner p.stripe)) h.1; low = h.0.low; state = h.0.state; era = h.0.era; seen = h.0.seen }) (both_of (StripeFits plan m other) _ w.stripes fit'.stripes (among_stripes w.stripes)));
    keepers = merge.keepers (KeeperFits hidden_join id)
        (all_map (KeeperFits m id) _ v.keepers (λ p h. record { own = kept (has_keeper w.keepers) m.keeper_owner h.own; state = h.state; cleared = h.cleared }) fit.keepers)
        (all_map _ _ w.keepers (λ p (h : KeeperFits m other p × (has_keeper w.keepers ≡ true)). record { own = ap (λ b. cond b id m.keeper_owner) h.1; state = h.0.state; cleared = h.0.cleared }) (both_of (KeeperFits m other) _ w.keepers fit'.keepers (among_keepers w.keepers)));
    lanes = merge.lanes (LaneFits hidden_join id)
        (all_map (LaneFits m id) _ v.pass.lanes (λ p h. record { own = kept (has_lane p.lane w.pass.lanes) (m.lane_owner p.lane) h.own; low = h.low; receipts = h.receipts }) fit.lanes)
        (all_map _ _ w.pass.lanes (λ p (h : LaneFits m other p × (has_lane p.lane w.pass.lanes ≡ true)). record { own = ap (λ b. cond b id (m.lane_owner p.lane)) h.1; low = h.0.low; receipts = h.0.receipts }) (both_of (LaneFits m other) _ w.pass.lanes fit'.lanes (among_lanes w.pass.lanes)));
    floor = merge.floor m.account.places fit.floor fit'.floor;
    apart = merge.distinct fit.apart fit'.apart (λ d has. apart_from d (has_stripe d w.stripes) refl has);
    begun = λ d. merge.begun d (length (m.account.stripe d).stays) (fit.begun d) (fit'.begun d);
    ended = λ d.
        let c : ℕ = weight (inside_of m.account d) in
        let n : ℕ = length (m.account.stripe d).stays in
        let one = fit.ended d in
        let two = fit'.ended d in
        let all = merge.ended d (n - c) (omega arith) (omega arith) in
        omega arith;
  } where
    apart_from : (d : ℕ) (b : Bool) → has_stripe d w.stripes ≡ b → has_stripe d v.stripes ≡ true → b ≡ false
    apart_from d true is has = absurd (differs (sym (stripe_owned plan m other d w.stripes is fit'.stripes) ∙ stripe_owned plan m id d v.stripes has fit.stripes))
    apart_from d false is has = refl

  spent_fits : (v : View) → Fits plan m id v → Fits plan hidden_join other (pass_view no_pass)
  spent_fits v fit = record {
    stripes = tt;
    keepers = tt;
    lanes = tt;
    floor = omega arith;
    apart = tt;
    begun = λ d. omega arith;
    ended = λ d. let low = fit.ended d in omega arith;
  }

  other_fits : (j : ℕ) (u : View) → Fits plan m other w → Fits plan m j u → j ≢ other → Fits plan hidden_join j u
  other_fits j u mine fit differs = record {
    stripes = all_map (StripeFits plan m j) (StripeFits plan hidden_join j) u.stripes (λ p h. record { own = elsewhere (has_stripe p.stripe w.stripes) (m.stripe_owner p.stripe) j (λ on. stripe_owned plan m other p.stripe w.stripes on mine.stripes) h.own differs; low = h.low; state = h.state; era = h.era; seen = h.seen }) fit.stripes;
    keepers = all_map (KeeperFits m j) (KeeperFits hidden_join j) u.keepers (λ p h. record { own = elsewhere (has_keeper w.keepers) m.keeper_owner j (λ on. keeper_owned m other w.keepers on mine.keepers) h.own differs; state = h.state; cleared = h.cleared }) fit.keepers;
    lanes = all_map (LaneFits m j) (LaneFits hidden_join j) u.pass.lanes (λ p h. record { own = elsewhere (has_lane p.lane w.pass.lanes) (m.lane_owner p.lane) j (λ on. lane_owned m other p.lane w.pass.lanes on mine.lanes) h.own differs; low = h.low; receipts = h.receipts }) fit.lanes;
    floor = fit.floor;
    apart = fit.apart;
    begun = fit.begun;
    ended = fit.ended;
  }

  -- what stood in either view stands in the one
  there_joined : (views : List View) (v both spent : View) (owner : ℕ) (test : View → Bool) → get_elem? views id ≡ some v → other ≢ id → get_elem? views other ≡ some w → ((test v || test w) ≡ true → test both ≡ true)
      → IsThere views owner test → IsThere (set (set views id both) other spent) (cond (test w) id owner) test
  there_joined views v both spent owner test at differs at' has there = by_part (test w) refl where
    here : get_elem? (set (set views id both) other spent) id ≡ some both
    here = set_else (set views id both) other id spent (λ same. differs (sym same)) ∙ set_there views id v both at

    left_of : (b : Bool) → b ≡ true → (b || test w) ≡ true
    left_of true on = refl
    left_of false on = absurd (clash on refl)

    right_of : (b c : Bool) → c ≡ true → (b || c) ≡ true
    right_of true c on = refl
    right_of false c on = on

    by_part : (b : Bool) → test w ≡ b → IsThere (set (set views id both) other spent) (cond b id owner) test
    by_part true on = (both, here, has (right_of (test v) (test w) on))
    by_part false off = elim (cases_eq owner id) [
      | inl mine ↦
          let same : v ≡ there.0 = some-injective v there.0 (sym at ∙ (ap (get_elem? views) (sym mine) ∙ there.1)) in
          (both, ap (get_elem? (set (set views id both) other spent)) mine ∙ here, has (left_of (test v) (subst (λ (u : View). test u ≡ true) (sym same) there.2)))
      | inr else_ ↦ elim (cases_eq owner other) [
        | inl joined ↦
            let same : w ≡ there.0 = some-injective w there.0 (sym at' ∙ (ap (get_elem? views) (sym joined) ∙ there.1)) in
            absurd (clash (subst (λ (u : View). test u ≡ true) (sym same) there.2) off)
        | inr away ↦ (there.0, set_else (set views id both) other owner spent away ∙ (set_else views id owner both else_ ∙ there.1), there.2)
      ]
    ]

-- the rule after a join
pub joins : (plan : Plan) (id other : ℕ) (v w both : View) → Merge v w both → Joins (Ruled plan) id v other w both (pass_view no_pass)
joins plan id other v w both merge s ruled at differs at' =
    let m : Hidden = ruled.0 in
    let st = ruled.1 in
    let spent : View = pass_view no_pass in
    let was : get_elem? s.views other ≡ some w = sym (set_else s.views id other both differs) ∙ at' in
    let m' : Hidden = hidden_join plan m id other w in
    let fit = st.views_fit id v at in
    let fit' = st.views_fit other w was in (
      m',
      record {
        plan_fits = st.plan_fits;
        size = st.size;
        era_fits = st.era_fits;
        account_is = st.account_is;
        legal = st.legal;
        gate = st.gate;
        order = st.order;
        budget = let one = budgets_set s.views id v both at in let two = budgets_set (set s.views id both) other w spent at' in let sum = merge.budget in let before = st.budget in omega arith;
        bits = st.bits;
        spare = st.spare;
        spare_low = st.spare_low;
        views_fit = λ j u is. ⊎_elim
            (λ (same : (j ≡ other) × (spent ≡ u)). subst (λ k. Fits plan m' k u) (sym same.0) (subst (Fits plan m' other) same.1 (spent_fits plan m id other w v fit)))
            (λ (rest : (j ≢ other) × (get_elem? (set s.views id both) j ≡ some u)). ⊎_elim
            (λ (same : (j ≡ id) × (both ≡ u)). subst (λ k. Fits plan m' k u) (sym same.0) (subst (Fits plan m' id) same.1 (both_fits plan m id other w v both merge fit fit' differs)))
            (λ (away : (j ≢ id) × (get_elem? s.views j ≡ some u)). other_fits plan m id other w j u fit' (st.views_fit j u away.1) rest.0)
            (at_set s.views id j both u rest.1))
            (at_set (set s.views id both) other j spent u is);
        there = record {
          stripes = λ d low. there_joined plan m id other w s.views v both spent (m.stripe_owner d) (λ u. has_stripe d u.stripes) at differs was (merge.has_stripes d) (st.there.stripes d low);
          keeper = there_joined plan m id other w s.views v both spent m.keeper_owner (λ u. has_keeper u.keepers) at differs was merge.has_keepers st.there.keeper;
          lanes = λ l low. there_joined plan m id other w s.views v both spent (m.lane_owner l) (λ u. has_lane l u.pass.lanes) at differs was (merge.has_lanes l) (st.there.lanes l low);
        };
      },
    )

-- a seat without a pass takes one in
second : (a b : Bool) → a ≡ false → (a || b) ≡ true → b ≡ true
second true b off is = absurd (clash refl off)
second false b off is = is

only : (a : Bool) → (a || false) ≡ true → a ≡ true
only true is = refl
only false is = is

pub merge_pass : (ss : List StripePart) (ks : List KeeperPart) (q : PassPart) → Merge (record { stripes = ss; keepers = ks; pass = no_pass }) (pass_view q) (record { stripes = ss; keepers = ks; pass = q })
merge_pass ss ks q = record {
  stripes = λ P all none_. all;
  keepers = λ P all none_. all;
  lanes = λ P none_ all. all;
  has_stripes = λ d has. only (has_stripe d ss) has;
  has_keepers = λ has. only (has_keeper ks) has;
  has_lanes = λ l has. has;
  distinct = λ apart none_ away. apart;
  budget = omega arith;
  floor = λ n low high. high;
  begun = λ d n low high. high;
  ended = λ d n low high. high;
}
