-- After an act the changed view of the seat that acted fits, and so does each other view as it is.
use Rattle.std.proofs.Common.{◌≡◌, ℕ, ◌+◌, ◌<◌, ◌≤◌, ◌≢◌, ◌==◌, cond, Bool, true, false, List, [], ◌∷◌, ◌++◌, map, length, slice_index, refl, sym, ap, ◌∙◌, subst, arith, eqb-true, length-append}
use Rattle.era_gate.specs.declared.states.StripeState.{StripeState}
use Rattle.era_gate.specs.declared.parts.StripePart.{StripePart}
use Rattle.era_gate.specs.declared.parts.KeeperPart.{KeeperPart}
use Rattle.era_gate.specs.declared.parts.View.{View}
use Rattle.era_gate.specs.declared.plan.Plan.{Plan}
use Rattle.era_gate.specs.Acts.{Act, Account, stripe_drew, keeper_drew, stay_began, stay_ended, era_moved, exchange_failed, after, stripe_after, keeper_after, receipts_after, places_after, marks_after, stripe_in, stripe_out, inside_of, MayAct}
use Rattle.era_gate.specs.Parts.{most, only_at, seat_era_after, seen_after, begun_after, ended_after, floor_after, cleared_after, stripe_part_after, keeper_part_after, lane_part_after, view_after}
use Rattle.era_gate.specs.Rule.{Hidden, Fits, StripeFits, KeeperFits, LaneFits, Each, weight}
use Rattle.era_gate.proofs.Choices.{at_cond, clash, self_eq, count_none, most_at, only_here, only_else}
use Rattle.era_gate.proofs.Accounts.{inside_same}
use Rattle.era_gate.proofs.Touching.{Owns, touches_stripe, touches_keeper, touches_lane, stripe_same, keeper_same, cleared_same, lane_same, marks_more, places_more, word_same, stays_kept, stays_more, still_distinct}

-- what only the rule knows, after an act
abbrev pub hidden_after : Hidden → Act → Hidden
hidden_after m x = record {
  acts = m.acts ++ x ∷ [];
  account = after m.account x;
  cleared = cleared_after x m.cleared;
  stripe_owner = m.stripe_owner;
  keeper_owner = m.keeper_owner;
  lane_owner = m.lane_owner;
}

pub all_map : {A : Type 0} (P Q : A → Type 0) (xs : List A) → ((a : A) → P a → Q a) → Each P xs → Each Q xs
all_map P Q [] f all = tt
all_map P Q (x ∷ xs) f all = (f x all.0, all_map P Q xs f all.1)

all_mapped : {A : Type 0} (P Q : A → Type 0) (g : A → A) (xs : List A) → ((a : A) → P a → Q (g a)) → Each P xs → Each Q (map g xs)
all_mapped P Q g [] f all = tt
all_mapped P Q g (x ∷ xs) f all = (f x all.0, all_mapped P Q g xs f all.1)

-- a stripe's era while it is inside, after an act
era_here : (n : ℕ) (a : Account) (x : Act) (e d era : ℕ) → MayAct n a x → e ≡ a.keeper.era → d < n → ((a.stripe d).inside ≡ true → era ≡ a.keeper.era)
    → (stripe_after x a.places d (a.stripe d)).inside ≡ true → seat_era_after x e d era ≡ (after a x).keeper.era
era_here n a (stripe_drew k event) e d era may here low was inside = was (sym (inside_same k event a.places d (a.stripe d)) ∙ inside)
era_here n a (keeper_drew event) e d era may here low was inside = was inside
era_here n a (stay_began stay) e d era may here low was inside = chosen (d == stay.stripe) inside where
  chosen : (b : Bool) → (cond b (stripe_in stay (a.stripe d)) (a.stripe d)).inside ≡ true → cond b e era ≡ a.keeper.era
  chosen true inside = here
  chosen false inside = was inside
era_here n a (stay_ended k begun) e d era may here low was inside =
    at_cond (λ (s : StripeState). s.inside ≡ true → era ≡ a.keeper.era) (d == k) (stripe_out (a.stripe d)) (a.stripe d) (λ on never. absurd (clash never refl)) (λ off. was) inside
era_here n a era_moved e d era may here low was inside = absurd (clash inside (count_none n (inside_of a) may.nobody d low))
era_here n a (exchange_failed miss) e d era may here low was inside = was inside

-- what a stripe saw in its stay is still seen in it, and marked
abbrev Saw : Account → ℕ → ℕ → List ℕ → Type 0
Saw a d era seen = Each (λ block. ((a.stripe d).inside ≡ true) × (a.marked block era ≡ true)) seen

seen_here : (n : ℕ) (a : Account) (x : Act) (e d era : ℕ) (seen : List ℕ) → MayAct n a x → Saw a d era seen → Saw (after a x) d (seat_era_after x e d era) (seen_after x d seen)
seen_here n a (stripe_drew k event) e d era seen may all = all_map _ _ seen (λ block was. (inside_same k event a.places d (a.stripe d) ∙ was.0, was.1)) all
seen_here n a (keeper_drew event) e d era seen may all = all_map _ _ seen (λ block was. (was.0, marks_more (keeper_drew event) a.marked block era was.1)) all
seen_here n a (stay_began stay) e d era seen may all = chosen (d == stay.stripe) refl where
  chosen : (b : Bool) → (d == stay.stripe) ≡ b → Each (λ block. ((cond b (stripe_in stay (a.stripe d)) (a.stripe d)).inside ≡ true) × (a.marked block (cond b e era) ≡ true)) seen
  chosen true is = all_map _ _ seen (λ block was. absurd (clash was.0 (subst (λ (j : ℕ). (a.stripe j).inside ≡ false) (sym (eqb-true d stay.stripe is)) may.outside))) all
  chosen false is = all
seen_here n a (stay_ended k begun) e d era seen may all = chosen (d == k) where
  chosen : (b : Bool) → Each (λ block. ((cond b (stripe_out (a.stripe d)) (a.stripe d)).inside ≡ true) × (a.marked block era ≡ true)) (cond b [] seen)
  chosen true = tt
  chosen false = all
seen_here n a era_moved e d era seen may all = all
seen_here n a (exchange_failed miss) e d era seen may all = all

begun_here : (n : ℕ) (a : Account) (x : Act) (d : ℕ) (begun : List ℕ) → MayAct n a x → slice_index begun d ≤ length (a.stripe d).stays → slice_index (begun_after x begun) d ≤ length ((after a x).stripe d).stays
begun_here n a (stay_began stay) d begun may low = chosen (d == stay.stripe) refl where
  chosen : (b : Bool) → (d == stay.stripe) ≡ b → slice_index (most begun (only_at stay.stripe (stay.number + 1))) d ≤ length (cond b (stripe_in stay (a.stripe d)) (a.stripe d)).stays
  chosen true is =
      let same : d ≡ stay.stripe = eqb-true d stay.stripe is in
      let at : slice_index (only_at stay.stripe (stay.number + 1)) d ≡ stay.number + 1 = subst (λ (j : ℕ). slice_index (only_at stay.stripe (stay.number + 1)) j ≡ stay.number + 1) (sym same) (only_here stay.stripe (stay.number + 1)) in
      let number : stay.number ≡ length (a.stripe d).stays = subst (λ (j : ℕ). stay.number ≡ length (a.stripe j).stays) (sym same) may.number in
      omega (arith, most_at begun (only_at stay.stripe (stay.number + 1)) d, length-append (a.stripe d).stays (stay ∷ []))
  chosen false is =
      let at : slice_index (only_at stay.stripe (stay.number + 1)) d ≡ 0 = only_else stay.stripe (stay.number + 1) d (λ same. clash (subst (λ (j : ℕ). (d == j) ≡ true) same (self_eq d)) is) in
      omega (arith, most_at begun (only_at stay.stripe (stay.number + 1)) d)
begun_here n a x d begun may low = omega (arith, stays_more x a.places d (a.stripe d))

ended_here : (n : ℕ) (a : Account) (x : Act) (d : ℕ) (ended : List ℕ) → MayAct n a x → slice_index ended d + weight (inside_of a d) ≤ length (a.stripe d).stays → slice_index (ended_after x ended) d + weight (inside_of (after a x) d) ≤ length ((after a x).stripe d).stays
ended_here n a (stay_ended k begun) d ended may low = chosen (d == k) refl where
  chosen : (b : Bool) → (d == k) ≡ b → slice_index (most ended (only_at k begun)) d + weight (cond b (stripe_out (a.stripe d)) (a.stripe d)).inside ≤ length (cond b (stripe_out (a.stripe d)) (a.stripe d)).stays
  chosen true is =
      let same : d ≡ k = eqb-true d k is in
      let at : slice_index (only_at k begun) d ≡ begun = subst (λ (j : ℕ). slice_index (only_at k begun) j ≡ begun) (sym same) (only_here k begun) in
      let number : begun ≡ length (a.stripe d).stays = subst (λ (j : ℕ). begun ≡ length (a.stripe j).stays) (sym same) may.number in
      omega (arith, most_at ended (only_at k begun) d)
  chosen false is =
      let at : slice_index (only_at k begun) d ≡ 0 = only_else k begun d (λ same. clash (subst (λ (j : ℕ). (d == j) ≡ true) same (self_eq d)) is) in
      omega (arith, most_at ended (only_at k begun) d)
ended_here n a x d ended may low = stays_kept n a x d (slice_index ended d) may low

floor_here : (x : Act) (places floor : ℕ) → floor ≤ places → floor_after x places floor ≤ places_after x places
floor_here (stripe_drew k event) places floor low = omega arith
floor_here (keeper_drew event) places floor low = omega arith
floor_here act places floor low = low

-- the seat that acts
pub fits_here : (plan : Plan) (m : Hidden) (id : ℕ) (x : Act) (e : ℕ) (v : View) → Fits plan m id v → MayAct plan.stripes m.account x → e ≡ m.account.keeper.era → Fits plan (hidden_after m x) id (view_after x m.account.places e v)
fits_here plan m id x e v fit may here = record {
  stripes = all_mapped (StripeFits plan m id) (StripeFits plan (hidden_after m x) id) (stripe_part_after x m.account.places e) v.stripes (λ p h. stripe_fits p h) fit.stripes;
  keepers = all_mapped (KeeperFits m id) (KeeperFits (hidden_after m x) id) (keeper_part_after x m.account.places) v.keepers (λ p h. record { own = h.own; state = ap (keeper_after x m.account.places) h.state; cleared = ap (cleared_after x) h.cleared }) fit.keepers;
  lanes = all_mapped (LaneFits m id) (LaneFits (hidden_after m x) id) (lane_part_after x m.account.places) v.pass.lanes (λ p h. record { own = h.own; low = h.low; receipts = ap (receipts_after x m.account.places p.lane) h.receipts }) fit.lanes;
  floor = floor_here x m.account.places v.pass.floor fit.floor;
  apart = still_distinct x m.account.places e v.stripes fit.apart;
  begun = λ d. begun_here plan.stripes m.account x d v.pass.begun may (fit.begun d);
  ended = λ d. ended_here plan.stripes m.account x d v.pass.ended may (fit.ended d);
} where
  stripe_fits : (p : StripePart) → StripeFits plan m id p → StripeFits plan (hidden_after m x) id (stripe_part_after x m.account.places e p)
  stripe_fits p h = record {
    own = h.own;
    low = h.low;
    state = ap (stripe_after x m.account.places p.stripe) h.state;
    era = λ inside. era_here plan.stripes m.account x e p.stripe p.era may here h.low (λ was. h.era (ap (λ (s : StripeState). s.inside) (sym h.state) ∙ was)) (subst (λ (s : StripeState). (stripe_after x m.account.places p.stripe s).inside ≡ true) (sym h.state) inside);
    seen = subst (λ (s : StripeState). Each (λ block. (s.inside ≡ true) × (marks_after x m.account.marked block (seat_era_after x e p.stripe p.era) ≡ true)) (seen_after x p.stripe p.seen)) (ap (stripe_after x m.account.places p.stripe) h.state)
        (seen_here plan.stripes m.account x e p.stripe p.era p.seen may (subst (λ (s : StripeState). Each (λ block. (s.inside ≡ true) × (m.account.marked block p.era ≡ true)) p.seen) (sym h.state) h.seen));
  }

-- whoever owns what the act doesn't touch
untouched : (touched : Bool) (owner id j : ℕ) → (touched ≡ true → owner ≡ id) → owner ≡ j → j ≢ id → touched ≡ false
untouched true owner id j own here other = absurd (other (sym here ∙ own refl))
untouched false owner id j own here other = refl

-- each other seat
pub fits_else : (plan : Plan) (m : Hidden) (id j : ℕ) (x : Act) (v : View) → Fits plan m j v → MayAct plan.stripes m.account x → Owns m id x → j ≢ id → Fits plan (hidden_after m x) j v
fits_else plan m id j x v fit may owns other = record {
  stripes = all_map (StripeFits plan m j) (StripeFits plan (hidden_after m x) j) v.stripes (λ p h. stripe_fits p h) fit.stripes;
  keepers = all_map (KeeperFits m j) (KeeperFits (hidden_after m x) j) v.keepers (λ p h. keeper_fits p h) fit.keepers;
  lanes = all_map (LaneFits m j) (LaneFits (hidden_after m x) j) v.pass.lanes (λ p h. record { own = h.own; low = h.low; receipts = lane_same x m.account.places p.lane (m.account.lane p.lane) (untouched (touches_lane x p.lane) (m.lane_owner p.lane) id j (owns.lanes p.lane) h.own other) ∙ h.receipts }) fit.lanes;
  floor = let more = places_more x m.account.places in let low = fit.floor in omega arith;
  apart = fit.apart;
  begun = λ d. let low = fit.begun d in let more = stays_more x m.account.places d (m.account.stripe d) in omega arith;
  ended = λ d. stays_kept plan.stripes m.account x d (slice_index v.pass.ended d) may (fit.ended d);
} where
  same_state : (p : StripePart) → StripeFits plan m j p → stripe_after x m.account.places p.stripe (m.account.stripe p.stripe) ≡ p.state
  same_state p h = stripe_same x m.account.places p.stripe (m.account.stripe p.stripe) (untouched (touches_stripe x p.stripe) (m.stripe_owner p.stripe) id j (owns.stripes p.stripe) h.own other) ∙ h.state

  stripe_fits : (p : StripePart) → StripeFits plan m j p → StripeFits plan (hidden_after m x) j p
  stripe_fits p h = record {
    own = h.own;
    low = h.low;
    state = same_state p h;
    era = λ inside. h.era inside ∙ sym (word_same plan.stripes m.account x p.stripe may h.low (ap (λ (s : StripeState). s.inside) h.state ∙ inside));
    seen = all_map _ _ p.seen (λ block was. (was.0, marks_more x m.account.marked block p.era was.1)) h.seen;
  }

  keeper_fits : (p : KeeperPart) → KeeperFits m j p → KeeperFits (hidden_after m x) j p
  keeper_fits p h =
      let off : touches_keeper x ≡ false = untouched (touches_keeper x) m.keeper_owner id j owns.keeper h.own other in
      record { own = h.own; state = keeper_same x m.account.places m.account.keeper off ∙ h.state; cleared = cleared_same x m.cleared off ∙ h.cleared }
