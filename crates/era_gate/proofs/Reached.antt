-- Each list of legal acts has a state that meets the rule.
use Rattle.std.proofs.Common.{◌≡◌, ℕ, zero, suc, ◌+◌, ◌*◌, ◌/◌, ◌%◌, ◌<◌, ◌≤◌, true, List, [], ◌∷◌, ◌++◌, append_assoc, map, length, replicate, slice_index, refl, sym, ap, ◌∙◌, subst, arith}
use Rattle.std.proofs.lemmas.List.{append-nil}
use mathlib.Core.Option.{some, some-injective}
use lib.ListN.{get_elem?}
use Rattle.era_base.specs.Bits.{bit_of}
use Rattle.era_base.specs.Flags.{tabulate}
use Rattle.era_gate.specs.declared.states.KeeperState.{KeeperState}
use Rattle.era_gate.specs.declared.parts.KeeperPart.{KeeperPart}
use Rattle.era_gate.specs.declared.parts.View.{View}
use Rattle.era_gate.specs.declared.plan.Plan.{Plan}
use Rattle.era_gate.specs.Acts.{Act, stripe_drew, keeper_drew, era_moved, after, keeper_after, opened, places_after, IsLegalFrom, MayAct}
use Rattle.era_gate.specs.Parts.{budget_after, cleared_after, keeper_part_after, has_lane, new_stripe, first_view, view_after}
use Rattle.era_gate.specs.Plays.{keeper_of, with_stripes}
use Rattle.era_gate.specs.Rule.{Hidden, Standing, IsPlan, bitmap_at}
use Rattle.era_gate.specs.Invariant.{GateInvariant}
use Rattle.era_gate.specs.States.{shown_words, view_from, whole_view}
use Rattle.era_gate.specs.Tells.{Tells, reached}
use Rattle.era_gate.proofs.Choices.{clash}
use Rattle.era_gate.proofs.Bitmaps.{bit_zero}
use Rattle.era_gate.proofs.Fitting.{hidden_after}
use Rattle.era_gate.proofs.Frames.{Words, act_moves}
use Rattle.era_gate.proofs.Making.{first_hidden, first_stands, length_zeros, zero_at}
use Rattle.era_gate.proofs.Closing.{tells_of}
use Rattle.era_gate.proofs.InvariantHolds.{holds}

-- zeros behind two words
zeros_behind : (a b n i : ℕ) → 2 ≤ i → slice_index (a ∷ b ∷ replicate n 0) i ≡ 0
zeros_behind a b n zero low = absurd (omega arith)
zeros_behind a b n (suc zero) low = absurd (omega arith)
zeros_behind a b n (suc (suc i)) low = zero_at n i

-- such words show the account
shows : (plan : Plan) (m : Hidden) → m.account.keeper.era < 4294967296 → m.cleared ≤ plan.words → Words plan (shown_words plan m.account) m
shows plan m era cleared = record {
  size = omega (arith, length_zeros (2 * plan.words));
  era_fits = era;
  gate = refl;
  order = refl;
  bits = λ block low on. absurd (clash on (ap (λ k. bit_of k (block % 64)) (zeros_behind _ _ (2 * plan.words) (bitmap_at plan m.account.keeper.era + block / 64) (omega arith)) ∙ bit_zero (block % 64)));
  spare = λ i low. zeros_behind _ _ (2 * plan.words) (bitmap_at plan (m.account.keeper.era + 1) + i) (omega arith);
  spare_low = cleared;
}

-- the rule with other words that show the account
restated : (plan : Plan) (words words' : List ℕ) (views : List View) (m : Hidden) → Standing plan words views m → Words plan words' m → Standing plan words' views m
restated plan words words' views m st shown = record {
  plan_fits = st.plan_fits;
  size = shown.size;
  era_fits = shown.era_fits;
  account_is = st.account_is;
  legal = st.legal;
  gate = shown.gate;
  order = shown.order;
  budget = st.budget;
  bits = shown.bits;
  spare = shown.spare;
  spare_low = shown.spare_low;
  views_fit = st.views_fit;
  there = st.there;
}

-- how far an act goes: a place, an era, and no more words cleared
place_next : (x : Act) (place : ℕ) → places_after x place ≤ place + 1
place_next (stripe_drew k event) place = omega arith
place_next (keeper_drew event) place = omega arith
place_next x place = omega arith

era_next : (x : Act) (place : ℕ) (k : KeeperState) → (keeper_after x place k).era ≤ k.era + 1
era_next era_moved place k = omega arith
era_next x place k = omega arith

cleared_next : (x : Act) (cleared : ℕ) → cleared_after x cleared ≤ cleared
cleared_next era_moved cleared = omega arith
cleared_next x cleared = omega arith

-- what a draw takes of the budget it adds to the places
spends : (x : Act) (budget place : ℕ) → 0 < budget → budget_after x budget + places_after x place ≡ budget + place
spends (stripe_drew k event) budget place some_ = omega arith
spends (keeper_drew event) budget place some_ = omega arith
spends x budget place some_ = refl

length_map : {A B : Type 0} (f : A → B) (xs : List A) → length (map f xs) ≡ length xs
length_map f [] = refl
length_map f (x ∷ xs) = ap suc (length_map f xs)

length_tabulate : (n i : ℕ) → length (tabulate i n new_stripe) ≡ n
length_tabulate zero i = refl
length_tabulate (suc n) i = ap suc (length_tabulate n (i + 1))

-- a state of one view with all parts, which has all that acts may touch
record IsReached (plan : Plan) (acts : List Act) (m : Hidden) (view : View) : Type 0 where
  acts_are : m.acts ≡ acts
  own_stripes : (d : ℕ) → m.stripe_owner d ≡ 0
  own_keeper : m.keeper_owner ≡ 0
  own_lanes : (l : ℕ) → m.lane_owner l ≡ 0
  keepers : view.keepers ≡ keeper_of view ∷ []
  stripes : length view.stripes ≡ plan.stripes
  stands : Standing plan (shown_words plan m.account) (view ∷ []) m

-- one act more
reach_next : (plan : Plan) (acts : List Act) (m : Hidden) (view : View) (x : Act) → IsReached plan acts m view → MayAct plan.stripes m.account x
    → m.account.places < 1152921504606846976 → m.account.keeper.era + 1 < 4294967296
    → IsReached plan (acts ++ x ∷ []) (hidden_after m x) (view_after x m.account.places m.account.keeper.era view)
reach_next plan acts m view x at may places era =
    let st = at.stands in
    let all = st.budget in
    let next = era_next x m.account.places m.account.keeper in
    let cleared = cleared_next x m.cleared in
    let low = st.spare_low in
    let shown = shows plan (hidden_after m x) (omega arith) (omega arith) in
    record {
      acts_are = ap (λ xs. xs ++ x ∷ []) at.acts_are;
      own_stripes = at.own_stripes;
      own_keeper = at.own_keeper;
      own_lanes = at.own_lanes;
      keepers = ap (map (keeper_part_after x m.account.places)) at.keepers ∙ ap (λ (ks : List KeeperPart). keeper_of (record { stripes = view.stripes; keepers = map (keeper_part_after x m.account.places) ks; pass = view.pass }) ∷ []) (sym at.keepers);
      stripes = length_map _ view.stripes ∙ at.stripes;
      stands = act_moves plan (shown_words plan m.account) (shown_words plan (after m.account x)) (view ∷ []) m 0 view x m.account.keeper.era st refl may
          (record { stripes = λ d on. at.own_stripes d; keeper = λ on. at.own_keeper; lanes = λ l on. at.own_lanes l }) refl (spends x view.pass.budget m.account.places (omega arith)) shown;
    }

-- all acts
reach_all : (plan : Plan) (acts : List Act) (m : Hidden) (view : View) (xs : List Act) → IsReached plan acts m view → IsLegalFrom plan.stripes m.account xs
    → m.account.places + length xs ≤ 1152921504606846976 → m.account.keeper.era + length xs < 4294967296
    → (m' : Hidden) × IsReached plan (acts ++ xs) m' (view_from m.account view xs)
reach_all plan acts m view [] at legal places era = (m, subst (λ (ys : List Act). IsReached plan ys m view) (sym (append-nil acts)) at)
reach_all plan acts m view (x ∷ xs) at legal places era =
    let more = place_next x m.account.places in
    let next = era_next x m.account.places m.account.keeper in
    let rest = reach_all plan (acts ++ x ∷ []) (hidden_after m x) (view_after x m.account.places m.account.keeper.era view) xs (reach_next plan acts m view x at legal.0 (omega arith) (omega arith)) legal.1 (omega arith) (omega arith) in
    (rest.0, subst (λ (ys : List Act). IsReached plan ys rest.0 (view_from m.account view (x ∷ xs))) (append_assoc acts (x ∷ []) xs) rest.1)

module _ (plan : Plan) (acts : List Act) (fits : IsPlan plan) (legal : IsLegalFrom plan.stripes (opened plan.era) acts) (few : plan.era + length acts < 4294967296) where
  state_of : (m : Hidden) × IsReached plan acts m (whole_view plan acts)
  state_of = reach_all plan [] (first_hidden plan) (first_view plan) acts first legal (omega arith) (omega arith) where
    st : Standing plan (shown_words plan (opened plan.era)) (first_view plan ∷ []) (first_hidden plan)
    st = restated plan _ (shown_words plan (opened plan.era)) (first_view plan ∷ []) (first_hidden plan) (first_stands plan fits (omega arith)) (shows plan (first_hidden plan) (omega arith) (omega arith))

    first : IsReached plan [] (first_hidden plan) (first_view plan)
    first = record { acts_are = refl; own_stripes = λ d. refl; own_keeper = refl; own_lanes = λ l. refl; keepers = refl; stripes = length_tabulate plan.stripes 0; stands = st }

  abbrev is_account : (reached plan acts) ≡ state_of.0.account
  is_account = ap (λ (xs : List Act). reached plan xs) (sym state_of.1.acts_are) ∙ state_of.1.stands.account_is

  pub legal-invariant : GateInvariant plan (shown_words plan (reached plan acts)) (whole_view plan acts ∷ [])
  legal-invariant = subst (λ a. GateInvariant plan (shown_words plan a) (whole_view plan acts ∷ [])) (sym is_account) (holds plan (shown_words plan state_of.0.account) (whole_view plan acts ∷ []) state_of.0 state_of.1.stands)

  pub legal-tells : Tells plan (reached plan acts).places (whole_view plan acts).stripes (keeper_of (whole_view plan acts)) (whole_view plan acts).pass.lanes acts
  legal-tells =
      let v : View = whole_view plan acts in
      let at = state_of.1 in
      let st = at.stands in
      let m : Hidden = state_of.0 in
      let whole : some v ≡ some (with_stripes v.stripes v) = ap (λ (ks : List KeeperPart). some (record { stripes = v.stripes; keepers = ks; pass = v.pass })) at.keepers in
      let lanes : (l : ℕ) → l < 65 → has_lane l v.pass.lanes ≡ true = λ l low. let there = st.there.lanes l low in
      let owner : get_elem? (v ∷ []) 0 ≡ some there.0 = ap (get_elem? (v ∷ [])) (sym (at.own_lanes l)) ∙ there.1 in
      subst (λ (u : View). has_lane l u.pass.lanes ≡ true) (sym (some-injective v there.0 owner)) there.2 in
      let tells = tells_of plan 0 v.stripes v (shown_words plan m.account) (v ∷ []) m st whole at.stripes lanes in
      subst (λ (xs : List Act). Tells plan (reached plan acts).places v.stripes (keeper_of v) v.pass.lanes xs) at.acts_are
      (subst (λ a. Tells plan a.places v.stripes (keeper_of v) v.pass.lanes m.acts) (sym is_account) tells)
