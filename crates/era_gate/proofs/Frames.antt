-- The whole rule after an act, and after a step that is no act.
use Rattle.std.proofs.Common.{◌≡◌, ℕ, zero, suc, ◌+◌, ◌*◌, ◌/◌, ◌%◌, ◌<◌, ◌≤◌, ◌≢◌, ◌==◌, Bool, true, List, [], ◌∷◌, map, length, set, slice_index, refl, sym, ap, ◌∙◌, subst, inl, inr, ⊎_elim, arith, length-set, get_or-set_other, eqb-true}
use Rattle.std.proofs.lemmas.Bool.{cases_eq, or_cases}
use mathlib.Core.Option.{some, some-injective, some-ne-none}
use lib.ListN.{get_elem?}
use Rattle.atomic_table.proofs.Lists.{at_set, set_else}
use Rattle.era_base.specs.Bits.{bit_of}
use Rattle.era_gate.specs.declared.parts.KeeperPart.{KeeperPart}
use Rattle.era_gate.specs.declared.parts.LanePart.{LanePart}
use Rattle.era_gate.specs.declared.parts.View.{View}
use Rattle.era_gate.specs.declared.plan.Plan.{Plan}
use Rattle.era_gate.specs.Acts.{Act, after, opened, places_after, count, inside_of, MayAct}
use Rattle.era_gate.specs.Parts.{has_stripe, has_keeper, has_lane, budget_after, cleared_after, keeper_part_after, view_after}
use Rattle.era_gate.specs.Rule.{Hidden, Fits, LaneFits, KeeperFits, StripeFits, Standing, IsThere, Each, bitmap_at, block_bit, budgets}
use Rattle.era_gate.proofs.Choices.{clash}
use Rattle.era_gate.proofs.Accounts.{IsSound, opened_sound, reach_sound, reach_more, legal_more}
use Rattle.era_gate.proofs.Touching.{Owns, marks_more, stripe_numbers, lane_numbers}
use Rattle.era_gate.proofs.Fitting.{hidden_after, fits_here, fits_else, all_map}

-- the account of a rule is sound
pub sound_of : (plan : Plan) (words : List ℕ) (views : List View) (m : Hidden) → Standing plan words views m → IsSound plan.stripes m.account
sound_of plan words views m st = subst (IsSound plan.stripes) st.account_is (reach_sound plan.stripes (opened plan.era) m.acts (opened_sound plan.stripes plan.era) st.legal)

-- what the words show of the account
pub record Words (plan : Plan) (words : List ℕ) (m : Hidden) : Type 0 where
  pub size : length words ≡ 2 + 2 * plan.words
  pub era_fits : m.account.keeper.era < 4294967296
  pub gate : slice_index words 0 ≡ m.account.keeper.era * 4294967296 + count plan.stripes (inside_of m.account)
  pub order : slice_index words 1 ≡ m.account.places
  pub bits : (block : ℕ) → block < plan.blocks → block_bit plan words m.account.keeper.era block ≡ true → m.account.marked block m.account.keeper.era ≡ true
  pub spare : (i : ℕ) → i < m.cleared → slice_index words (bitmap_at plan (m.account.keeper.era + 1) + i) ≡ 0
  pub spare_low : m.cleared ≤ plan.words

-- the budgets after a change of one view
pub budgets_set : (views : List View) (id : ℕ) (v w : View) → get_elem? views id ≡ some v → budgets (set views id w) + v.pass.budget ≡ budgets views + w.pass.budget
budgets_set [] id v w at = absurd (some-ne-none v (sym at))
budgets_set (x ∷ xs) zero v w at = let same : x.pass.budget ≡ v.pass.budget = ap (λ (u : View). u.pass.budget) (some-injective x v at) in omega arith
budgets_set (x ∷ xs) (suc id) v w at = let rest = budgets_set xs id v w at in omega arith

-- a view that was changed is there
pub set_there : {A : Type 0} (views : List A) (id : ℕ) (v w : A) → get_elem? views id ≡ some v → get_elem? (set views id w) id ≡ some w
set_there [] id v w at = absurd (some-ne-none v (sym at))
set_there (x ∷ xs) zero v w at = refl
set_there (x ∷ xs) (suc id) v w at = set_there xs id v w at

-- what stands in the view of its owner still does, where the changed view keeps it
pub there_set : (views : List View) (id : ℕ) (v w : View) (owner : ℕ) (test : View → Bool) → get_elem? views id ≡ some v → (test v ≡ true → test w ≡ true) → IsThere views owner test → IsThere (set views id w) owner test
there_set views id v w owner test at keeps there = elim (cases_eq owner id) [
  | inl here ↦
      let same : v ≡ there.0 = some-injective v there.0 (sym at ∙ (ap (get_elem? views) (sym here) ∙ there.1)) in
      (w, ap (get_elem? (set views id w)) here ∙ set_there views id v w at, keeps (subst (λ (u : View). test u ≡ true) (sym same) there.2))
  | inr else_ ↦ (there.0, set_else views id owner w else_ ∙ there.1, there.2)
]

-- the keeper stays where it was
keeper_there : (x : Act) (place : ℕ) (parts : List KeeperPart) → has_keeper (map (keeper_part_after x place) parts) ≡ has_keeper parts
keeper_there x place [] = refl
keeper_there x place (part ∷ parts) = refl

-- the rule after an act of a seat that has all that the act touches
pub act_moves : (plan : Plan) (words words' : List ℕ) (views : List View) (m : Hidden) (id : ℕ) (v : View) (x : Act) (e : ℕ) → Standing plan words views m → get_elem? views id ≡ some v → MayAct plan.stripes m.account x → Owns m id x → e ≡ m.account.keeper.era
    → budget_after x v.pass.budget + places_after x m.account.places ≡ v.pass.budget + m.account.places → Words plan words' (hidden_after m x)
    → Standing plan words' (set views id (view_after x m.account.places e v)) (hidden_after m x)
act_moves plan words words' views m id v x e st at may owns here spends shown = record {
  plan_fits = st.plan_fits;
  size = shown.size;
  era_fits = shown.era_fits;
  account_is = reach_more (opened plan.era) m.acts x ∙ ap (λ a. after a x) st.account_is;
  legal = legal_more plan.stripes (opened plan.era) m.acts x st.legal (subst (λ a. MayAct plan.stripes a x) (sym st.account_is) may);
  gate = shown.gate;
  order = shown.order;
  budget = let all = budgets_set views id v w at in let before = st.budget in omega arith;
  bits = shown.bits;
  spare = shown.spare;
  spare_low = shown.spare_low;
  views_fit = λ j u is. ⊎_elim
      (λ same. subst (λ k. Fits plan (hidden_after m x) k u) (sym same.0) (subst (Fits plan (hidden_after m x) id) same.1 (fits_here plan m id x e v (st.views_fit id v at) may here)))
      (λ other. fits_else plan m id j x u (st.views_fit j u other.1) may owns other.0)
      (at_set views id j w u is);
  there = record {
    stripes = λ d low. there_set views id v w (m.stripe_owner d) (λ u. has_stripe d u.stripes) at (λ was. stripe_numbers x m.account.places e d v.stripes ∙ was) (st.there.stripes d low);
    keeper = there_set views id v w m.keeper_owner (λ u. has_keeper u.keepers) at (λ was. keeper_there x m.account.places v.keepers ∙ was) st.there.keeper;
    lanes = λ l low. there_set views id v w (m.lane_owner l) (λ u. has_lane l u.pass.lanes) at (λ was. lane_numbers x m.account.places l v.pass.lanes ∙ was) (st.there.lanes l low);
  };
} where
  w : View
  w = view_after x m.account.places e v

-- what the words show after a step on word 0 or 1 by an act that keeps the era
pub low_words : (plan : Plan) (words : List ℕ) (views : List View) (m : Hidden) (x : Act) (i n : ℕ) → Standing plan words views m → i < 2
    → (after m.account x).keeper.era ≡ m.account.keeper.era → cleared_after x m.cleared ≡ m.cleared
    → slice_index (set words i n) 0 ≡ m.account.keeper.era * 4294967296 + count plan.stripes (inside_of (after m.account x)) → slice_index (set words i n) 1 ≡ places_after x m.account.places
    → Words plan (set words i n) (hidden_after m x)
low_words plan words views m x i n st low era cleared gate order = record {
  size = length-set words i n ∙ st.size;
  era_fits = subst (λ e. e < 4294967296) (sym era) st.era_fits;
  gate = gate ∙ ap (λ e. e * 4294967296 + count plan.stripes (inside_of (after m.account x))) (sym era);
  order = order;
  bits = λ block lt is.
      let e : ℕ = m.account.keeper.era in
      let there : slice_index (set words i n) (bitmap_at plan e + block / 64) ≡ slice_index words (bitmap_at plan e + block / 64) = get_or-set_other words i (bitmap_at plan e + block / 64) n 0 (λ same. absurd (omega arith)) in
      let is' : block_bit plan (set words i n) e block ≡ true = subst (λ k. block_bit plan (set words i n) k block ≡ true) era is in
      let was : block_bit plan words e block ≡ true = ap (λ word. bit_of word (block % 64)) (sym there) ∙ is' in
      subst (λ k. (after m.account x).marked block k ≡ true) (sym era) (marks_more x m.account.marked block e (st.bits block lt was));
  spare = λ k lt.
      let e : ℕ = m.account.keeper.era in
      let there : slice_index (set words i n) (bitmap_at plan (e + 1) + k) ≡ slice_index words (bitmap_at plan (e + 1) + k) = get_or-set_other words i (bitmap_at plan (e + 1) + k) n 0 (λ same. absurd (omega arith)) in
      subst (λ h. slice_index (set words i n) (bitmap_at plan (h + 1) + k) ≡ 0) (sym era) (there ∙ st.spare k (subst (λ c. k < c) cleared lt));
  spare_low = subst (λ c. c ≤ plan.words) (sym cleared) st.spare_low;
}

-- the rule after a step that is no act: a seat's view changes, and what it shares with no one
pub view_moves : (plan : Plan) (words words' : List ℕ) (views : List View) (m : Hidden) (cleared id : ℕ) (v w : View) → Standing plan words views m → get_elem? views id ≡ some v
    → (cleared ≢ m.cleared → m.keeper_owner ≡ id) → Fits plan (record m { cleared = cleared }) id w → w.pass.budget ≡ v.pass.budget
    → ((d : ℕ) → has_stripe d w.stripes ≡ has_stripe d v.stripes) → has_keeper w.keepers ≡ has_keeper v.keepers → ((l : ℕ) → has_lane l w.pass.lanes ≡ has_lane l v.pass.lanes)
    → Words plan words' (record m { cleared = cleared }) → Standing plan words' (set views id w) (record m { cleared = cleared })
view_moves plan words words' views m cleared id v w st at own fit spent stripes keepers lanes shown = record {
  plan_fits = st.plan_fits;
  size = shown.size;
  era_fits = shown.era_fits;
  account_is = st.account_is;
  legal = st.legal;
  gate = shown.gate;
  order = shown.order;
  budget = let all = budgets_set views id v w at in let before = st.budget in omega arith;
  bits = shown.bits;
  spare = shown.spare;
  spare_low = shown.spare_low;
  views_fit = λ j u is. ⊎_elim
      (λ same. subst (λ k. Fits plan m' k u) (sym same.0) (subst (Fits plan m' id) same.1 fit))
      (λ other. still j u (st.views_fit j u other.1) other.0)
      (at_set views id j w u is);
  there = record {
    stripes = λ d low. there_set views id v w (m.stripe_owner d) (λ u. has_stripe d u.stripes) at (λ was. stripes d ∙ was) (st.there.stripes d low);
    keeper = there_set views id v w m.keeper_owner (λ u. has_keeper u.keepers) at (λ was. keepers ∙ was) st.there.keeper;
    lanes = λ l low. there_set views id v w (m.lane_owner l) (λ u. has_lane l u.pass.lanes) at (λ was. lanes l ∙ was) (st.there.lanes l low);
  };
} where
  m' : Hidden
  m' = record m { cleared = cleared }

  still_keeper : (j : ℕ) (p : KeeperPart) → j ≢ id → KeeperFits m j p → KeeperFits m' j p
  still_keeper j p other h = record { own = h.own; state = h.state; cleared = ⊎_elim (λ same. same ∙ h.cleared) (λ differs. absurd (other (sym h.own ∙ own differs))) (cases_eq cleared m.cleared) }

  still : (j : ℕ) (u : View) → Fits plan m j u → j ≢ id → Fits plan m' j u
  still j u h other = record {
    stripes = all_map (StripeFits plan m j) (StripeFits plan m' j) u.stripes (λ p s. record { own = s.own; low = s.low; state = s.state; era = s.era; seen = s.seen }) h.stripes;
    keepers = all_map (KeeperFits m j) (KeeperFits m' j) u.keepers (λ p k. still_keeper j p other k) h.keepers;
    lanes = all_map (LaneFits m j) (LaneFits m' j) u.pass.lanes (λ p l. record { own = l.own; low = l.low; receipts = l.receipts }) h.lanes;
    floor = h.floor;
    apart = h.apart;
    begun = h.begun;
    ended = h.ended;
  }

-- a lane among the lanes of a view is that view's
pub lane_owned : (m : Hidden) (id l : ℕ) (parts : List LanePart) → has_lane l parts ≡ true → Each (LaneFits m id) parts → m.lane_owner l ≡ id
lane_owned m id l [] has fit = absurd (clash has refl)
lane_owned m id l (part ∷ parts) has fit = ⊎_elim
    (λ here. ap m.lane_owner (eqb-true l part.lane here) ∙ fit.0.own)
    (λ rest. lane_owned m id l parts rest fit.1)
    (or_cases (l == part.lane) (has_lane l parts) has)

-- it is one of 65
pub lane_low : (m : Hidden) (id l : ℕ) (parts : List LanePart) → has_lane l parts ≡ true → Each (LaneFits m id) parts → l < 65
lane_low m id l [] has fit = absurd (clash has refl)
lane_low m id l (part ∷ parts) has fit = ⊎_elim
    (λ here. subst (λ (k : ℕ). k < 65) (sym (eqb-true l part.lane here)) fit.0.low)
    (λ rest. lane_low m id l parts rest fit.1)
    (or_cases (l == part.lane) (has_lane l parts) has)
