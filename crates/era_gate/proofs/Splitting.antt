-- A view may be cut in two.
use Rattle.std.proofs.Common.{◌≡◌, ℕ, zero, suc, ◌+◌, ◌≤◌, ◌≢◌, ◌⊎◌, ◌==◌, ◌||◌, cond, Bool, true, false, List, [], ◌∷◌, ◌++◌, length, set, slice_index, refl, sym, ap, ◌∙◌, subst, inl, inr, ⊎_elim, arith, length-set, eqb-true}
use Rattle.std.proofs.lemmas.Bool.{or_cases}
use mathlib.Core.Option.{some, some-injective, some-ne-none}
use lib.ListN.{get_elem?}
use Rattle.atomic_table.specs.Table.{Splits}
use Rattle.atomic_table.proofs.Lists.{at_set, at_last, at_longer}
use Rattle.era_gate.specs.declared.parts.StripePart.{StripePart}
use Rattle.era_gate.specs.declared.parts.KeeperPart.{KeeperPart}
use Rattle.era_gate.specs.declared.parts.LanePart.{LanePart}
use Rattle.era_gate.specs.declared.parts.View.{View}
use Rattle.era_gate.specs.declared.plan.Plan.{Plan}
use Rattle.era_gate.specs.Parts.{has_stripe, has_keeper, has_lane}
use Rattle.era_gate.specs.Rule.{Hidden, Ruled, Fits, StripeFits, KeeperFits, LaneFits, IsThere, Each, AreDistinct, budgets}
use Rattle.era_gate.proofs.Choices.{clash, self_eq}
use Rattle.era_gate.proofs.Fitting.{all_map}
use Rattle.era_gate.proofs.Frames.{budgets_set, there_set, lane_owned}

-- each stripe's part is among its parts, and each lane
pub among_stripes : (parts : List StripePart) → Each (λ p. has_stripe p.stripe parts ≡ true) parts
among_stripes [] = tt
among_stripes (part ∷ parts) = (ap (λ b. b || has_stripe part.stripe parts) (self_eq part.stripe), all_map _ _ parts (λ p is. behind (p.stripe == part.stripe) (has_stripe p.stripe parts) is) (among_stripes parts)) where
  behind : (a b : Bool) → b ≡ true → (a || b) ≡ true
  behind true b is = refl
  behind false b is = is

pub among_keepers : (parts : List KeeperPart) → Each (λ p. has_keeper parts ≡ true) parts
among_keepers [] = tt
among_keepers (part ∷ parts) = (refl, all_map _ _ parts (λ p is. refl) (all_true parts)) where
  all_true : (ps : List KeeperPart) → Each (λ p. true ≡ true) ps
  all_true [] = tt
  all_true (p ∷ ps) = (refl, all_true ps)

pub among_lanes : (parts : List LanePart) → Each (λ p. has_lane p.lane parts ≡ true) parts
among_lanes [] = tt
among_lanes (part ∷ parts) = (ap (λ b. b || has_lane part.lane parts) (self_eq part.lane), all_map _ _ parts (λ p is. behind (p.lane == part.lane) (has_lane p.lane parts) is) (among_lanes parts)) where
  behind : (a b : Bool) → b ≡ true → (a || b) ≡ true
  behind true b is = refl
  behind false b is = is

pub both_of : {A : Type 0} (P Q : A → Type 0) (xs : List A) → Each P xs → Each Q xs → Each (λ x. P x × Q x) xs
both_of P Q [] p q = tt
both_of P Q (x ∷ xs) p q = ((p.0, q.0), both_of P Q xs p.1 q.1)

-- a stripe of a view, and the keeper, are that view's
pub stripe_owned : (plan : Plan) (m : Hidden) (id d : ℕ) (parts : List StripePart) → has_stripe d parts ≡ true → Each (StripeFits plan m id) parts → m.stripe_owner d ≡ id
stripe_owned plan m id d [] has fit = absurd (clash has refl)
stripe_owned plan m id d (part ∷ parts) has fit = ⊎_elim
    (λ here. ap m.stripe_owner (eqb-true d part.stripe here) ∙ fit.0.own)
    (λ rest. stripe_owned plan m id d parts rest fit.1)
    (or_cases (d == part.stripe) (has_stripe d parts) has)

pub keeper_owned : (m : Hidden) (id : ℕ) (parts : List KeeperPart) → has_keeper parts ≡ true → Each (KeeperFits m id) parts → m.keeper_owner ≡ id
keeper_owned m id [] has fit = absurd (clash has refl)
keeper_owned m id (part ∷ parts) has fit = fit.0.own

-- How a view is cut: each part goes to one side, and no side knows more than the view.
pub record Cut (v left right : View) : Type 1 where
  pub stripes_left : (P : StripePart → Type 0) → Each P v.stripes → Each P left.stripes
  pub stripes_right : (P : StripePart → Type 0) → Each P v.stripes → Each P right.stripes
  pub keepers_left : (P : KeeperPart → Type 0) → Each P v.keepers → Each P left.keepers
  pub keepers_right : (P : KeeperPart → Type 0) → Each P v.keepers → Each P right.keepers
  pub lanes_left : (P : LanePart → Type 0) → Each P v.pass.lanes → Each P left.pass.lanes
  pub lanes_right : (P : LanePart → Type 0) → Each P v.pass.lanes → Each P right.pass.lanes
  pub stripe_sides : (d : ℕ) → has_stripe d v.stripes ≡ true → (has_stripe d left.stripes || has_stripe d right.stripes) ≡ true
  pub keeper_sides : has_keeper v.keepers ≡ true → (has_keeper left.keepers || has_keeper right.keepers) ≡ true
  pub lane_sides : (l : ℕ) → has_lane l v.pass.lanes ≡ true → (has_lane l left.pass.lanes || has_lane l right.pass.lanes) ≡ true
  pub stripe_apart : AreDistinct v.stripes → (d : ℕ) → has_stripe d left.stripes ≡ true → has_stripe d right.stripes ≡ false
  pub keeper_apart : has_keeper left.keepers ≡ true → has_keeper right.keepers ≡ false
  pub lane_apart : (l : ℕ) → has_lane l left.pass.lanes ≡ true → has_lane l right.pass.lanes ≡ false
  pub budget : left.pass.budget + right.pass.budget ≡ v.pass.budget
  pub floors : (left.pass.floor ≤ v.pass.floor) × (right.pass.floor ≤ v.pass.floor)
  pub distinct : AreDistinct v.stripes → AreDistinct left.stripes × AreDistinct right.stripes
  pub begun : (d : ℕ) → (slice_index left.pass.begun d ≤ slice_index v.pass.begun d) × (slice_index right.pass.begun d ≤ slice_index v.pass.begun d)
  pub ended : (d : ℕ) → (slice_index left.pass.ended d ≤ slice_index v.pass.ended d) × (slice_index right.pass.ended d ≤ slice_index v.pass.ended d)

-- the last of a list
at_end : {A : Type 0} (xs : List A) (a b : A) (j : ℕ) → get_elem? (xs ++ a ∷ []) j ≡ some b → (get_elem? xs j ≡ some b) ⊎ ((j ≡ length xs) × (a ≡ b))
at_end [] a b zero at = inr (refl, some-injective a b at)
at_end [] a b (suc j) at = absurd (some-ne-none b (sym at))
at_end (x ∷ xs) a b zero at = inl at
at_end (x ∷ xs) a b (suc j) at = ⊎_elim (λ h. inl h) (λ (h : (j ≡ length xs) × (a ≡ b)). inr (ap suc h.0, h.1)) (at_end xs a b j at)

budgets_more : (views : List View) (w : View) → budgets (views ++ w ∷ []) ≡ budgets views + w.pass.budget
budgets_more [] w = omega arith
budgets_more (v ∷ views) w = let rest = budgets_more views w in omega arith

-- what stood in the view stands on one of the sides
there_split : (views : List View) (id : ℕ) (v left right : View) (owner : ℕ) (test : View → Bool) → get_elem? views id ≡ some v → (test v ≡ true → (test left || test right) ≡ true)
    → IsThere views owner test → IsThere (set views id left ++ right ∷ []) (cond (test right) (length views) owner) test
there_split views id v left right owner test at sides there = by_side (test right) refl where
  by_side : (b : Bool) → test right ≡ b → IsThere (set views id left ++ right ∷ []) (cond b (length views) owner) test
  by_side true on = (right, at_last (set views id left) right (length views) (length-set views id left), on)
  by_side false off =
      let keeps : test v ≡ true → test left ≡ true = λ has. ⊎_elim (λ l. l) (λ r. absurd (clash r off)) (or_cases (test left) (test right) (sides has)) in
      let still = there_set views id v left owner test at keeps there in
      (still.0, at_longer (set views id left) (right ∷ []) owner still.0 still.1, still.2)

module _ (plan : Plan) (m : Hidden) (new : ℕ) (right : View) where
  -- who has what after the cut
  abbrev pub hidden_split : Hidden
  hidden_split = record {
    acts = m.acts;
    account = m.account;
    cleared = m.cleared;
    stripe_owner = λ d. cond (has_stripe d right.stripes) new (m.stripe_owner d);
    keeper_owner = cond (has_keeper right.keepers) new m.keeper_owner;
    lane_owner = λ l. cond (has_lane l right.pass.lanes) new (m.lane_owner l);
  }

  stripe_stays : (j : ℕ) (p : StripePart) → StripeFits plan m j p → has_stripe p.stripe right.stripes ≡ false → StripeFits plan hidden_split j p
  stripe_stays j p h off = record { own = ap (λ b. cond b new (m.stripe_owner p.stripe)) off ∙ h.own; low = h.low; state = h.state; era = h.era; seen = h.seen }

  stripe_goes : (j : ℕ) (p : StripePart) → StripeFits plan m j p → has_stripe p.stripe right.stripes ≡ true → StripeFits plan hidden_split new p
  stripe_goes j p h on = record { own = ap (λ b. cond b new (m.stripe_owner p.stripe)) on; low = h.low; state = h.state; era = h.era; seen = h.seen }

  keeper_stays : (j : ℕ) (p : KeeperPart) → KeeperFits m j p → has_keeper right.keepers ≡ false → KeeperFits hidden_split j p
  keeper_stays j p h off = record { own = ap (λ b. cond b new m.keeper_owner) off ∙ h.own; state = h.state; cleared = h.cleared }

  keeper_goes : (j : ℕ) (p : KeeperPart) → KeeperFits m j p → has_keeper right.keepers ≡ true → KeeperFits hidden_split new p
  keeper_goes j p h on = record { own = ap (λ b. cond b new m.keeper_owner) on; state = h.state; cleared = h.cleared }

  lane_stays : (j : ℕ) (p : LanePart) → LaneFits m j p → has_lane p.lane right.pass.lanes ≡ false → LaneFits hidden_split j p
  lane_stays j p h off = record { own = ap (λ b. cond b new (m.lane_owner p.lane)) off ∙ h.own; low = h.low; receipts = h.receipts }

  lane_goes : (j : ℕ) (p : LanePart) → LaneFits m j p → has_lane p.lane right.pass.lanes ≡ true → LaneFits hidden_split new p
  lane_goes j p h on = record { own = ap (λ b. cond b new (m.lane_owner p.lane)) on; low = h.low; receipts = h.receipts }

  -- the side that the seat keeps
  left_fits : (id : ℕ) (v left : View) → Cut v left right → Fits plan m id v → Fits plan hidden_split id left
  left_fits id v left cut fit = record {
    stripes = all_map _ _ left.stripes (λ p (h : StripeFits plan m id p × (has_stripe p.stripe left.stripes ≡ true)). stripe_stays id p h.0 (cut.stripe_apart fit.apart p.stripe h.1)) (both_of (StripeFits plan m id) _ left.stripes (cut.stripes_left (StripeFits plan m id) fit.stripes) (among_stripes left.stripes));
    keepers = all_map _ _ left.keepers (λ p (h : KeeperFits m id p × (has_keeper left.keepers ≡ true)). keeper_stays id p h.0 (cut.keeper_apart h.1)) (both_of (KeeperFits m id) _ left.keepers (cut.keepers_left (KeeperFits m id) fit.keepers) (among_keepers left.keepers));
    lanes = all_map _ _ left.pass.lanes (λ p (h : LaneFits m id p × (has_lane p.lane left.pass.lanes ≡ true)). lane_stays id p h.0 (cut.lane_apart p.lane h.1)) (both_of (LaneFits m id) _ left.pass.lanes (cut.lanes_left (LaneFits m id) fit.lanes) (among_lanes left.pass.lanes));
    floor = let low = fit.floor in let less = cut.floors in omega (arith, less.0);
    apart = (cut.distinct fit.apart).0;
    begun = λ d. let low = fit.begun d in let less = cut.begun d in omega (arith, less.0);
    ended = λ d. let low = fit.ended d in let less = cut.ended d in omega (arith, less.0);
  }

  -- the side that the new seat has
  right_fits : (id : ℕ) (v left : View) → Cut v left right → Fits plan m id v → Fits plan hidden_split new right
  right_fits id v left cut fit = record {
    stripes = all_map _ _ right.stripes (λ p (h : StripeFits plan m id p × (has_stripe p.stripe right.stripes ≡ true)). stripe_goes id p h.0 h.1) (both_of (StripeFits plan m id) _ right.stripes (cut.stripes_right (StripeFits plan m id) fit.stripes) (among_stripes right.stripes));
    keepers = all_map _ _ right.keepers (λ p (h : KeeperFits m id p × (has_keeper right.keepers ≡ true)). keeper_goes id p h.0 h.1) (both_of (KeeperFits m id) _ right.keepers (cut.keepers_right (KeeperFits m id) fit.keepers) (among_keepers right.keepers));
    lanes = all_map _ _ right.pass.lanes (λ p (h : LaneFits m id p × (has_lane p.lane right.pass.lanes ≡ true)). lane_goes id p h.0 h.1) (both_of (LaneFits m id) _ right.pass.lanes (cut.lanes_right (LaneFits m id) fit.lanes) (among_lanes right.pass.lanes));
    floor = let low = fit.floor in let less = cut.floors in omega (arith, less.1);
    apart = (cut.distinct fit.apart).1;
    begun = λ d. let low = fit.begun d in let less = cut.begun d in omega (arith, less.1);
    ended = λ d. let low = fit.ended d in let less = cut.ended d in omega (arith, less.1);
  }

  -- who has another owner isn't on that side
  elsewhere : (b : Bool) (owner id j : ℕ) → (b ≡ true → owner ≡ id) → owner ≡ j → j ≢ id → b ≡ false
  elsewhere true owner id j mine own other = absurd (other (sym own ∙ mine refl))
  elsewhere false owner id j mine own other = refl

  -- each other view
  other_fits : (id j : ℕ) (v left u : View) → Cut v left right → Fits plan m id v → Fits plan m j u → j ≢ id → Fits plan hidden_split j u
  other_fits id j v left u cut mine fit other = record {
    stripes = all_map (StripeFits plan m j) (StripeFits plan hidden_split j) u.stripes (λ p h. stripe_stays j p h (elsewhere (has_stripe p.stripe right.stripes) (m.stripe_owner p.stripe) id j (λ on. stripe_owned plan m id p.stripe right.stripes on (cut.stripes_right (StripeFits plan m id) mine.stripes)) h.own other)) fit.stripes;
    keepers = all_map (KeeperFits m j) (KeeperFits hidden_split j) u.keepers (λ p h. keeper_stays j p h (elsewhere (has_keeper right.keepers) m.keeper_owner id j (λ on. keeper_owned m id right.keepers on (cut.keepers_right (KeeperFits m id) mine.keepers)) h.own other)) fit.keepers;
    lanes = all_map (LaneFits m j) (LaneFits hidden_split j) u.pass.lanes (λ p h. lane_stays j p h (elsewhere (has_lane p.lane right.pass.lanes) (m.lane_owner p.lane) id j (λ on. lane_owned m id p.lane right.pass.lanes on (cut.lanes_right (LaneFits m id) mine.lanes)) h.own other)) fit.lanes;
    floor = fit.floor;
    apart = fit.apart;
    begun = fit.begun;
    ended = fit.ended;
  }

-- the rule after a cut
pub splits : (plan : Plan) (id : ℕ) (v left right : View) → Cut v left right → Splits (Ruled plan) id v left right
splits plan id v left right cut s ruled at =
    let m : Hidden = ruled.0 in
    let st = ruled.1 in
    let new : ℕ = length s.views in
    let m' : Hidden = hidden_split plan m new right in
    let fit = st.views_fit id v at in (
      m',
      record {
        plan_fits = st.plan_fits;
        size = st.size;
        era_fits = st.era_fits;
        account_is = st.account_is;
        legal = st.legal;
        gate = st.gate;
        order = st.order;
        budget = let all = budgets_set s.views id v left at in let more = budgets_more (set s.views id left) right in let sum = cut.budget in let before = st.budget in omega arith;
        bits = st.bits;
        spare = st.spare;
        spare_low = st.spare_low;
        views_fit = λ j u is. ⊎_elim
            (λ within. ⊎_elim
            (λ (same : (j ≡ id) × (left ≡ u)). subst (λ k. Fits plan m' k u) (sym same.0) (subst (Fits plan m' id) same.1 (left_fits plan m new right id v left cut fit)))
            (λ (other : (j ≢ id) × (get_elem? s.views j ≡ some u)). other_fits plan m new right id j v left u cut fit (st.views_fit j u other.1) other.0)
            (at_set s.views id j left u within))
            (λ (last : (j ≡ length (set s.views id left)) × (right ≡ u)).
            let end_ : j ≡ new = last.0 ∙ length-set s.views id left in
            subst (λ k. Fits plan m' k u) (sym end_) (subst (Fits plan m' new) last.1 (right_fits plan m new right id v left cut fit)))
            (at_end (set s.views id left) right u j is);
        there = record {
          stripes = λ d low. there_split s.views id v left right (m.stripe_owner d) (λ u. has_stripe d u.stripes) at (cut.stripe_sides d) (st.there.stripes d low);
          keeper = there_split s.views id v left right m.keeper_owner (λ u. has_keeper u.keepers) at cut.keeper_sides st.there.keeper;
          lanes = λ l low. there_split s.views id v left right (m.lane_owner l) (λ u. has_lane l u.pass.lanes) at (cut.lane_sides l) (st.there.lanes l low);
        };
      },
    )
