-- What an act touches, and that it leaves all else as it was.
use Rattle.std.proofs.Common.{◌≡◌, ℕ, ◌+◌, ◌<◌, ◌≤◌, ◌==◌, ◌&&◌, ◌||◌, cond, Bool, true, false, List, [], ◌∷◌, map, length, refl, sym, ap, ◌∙◌, subst, arith, eqb-true, length-append}
use Rattle.era_model.specs.declared.event.Event.{Event}
use Rattle.era_model.specs.declared.event.Event.TheVariants.{Mark}
use Rattle.era_gate.specs.declared.stays.Receipt.{Receipt}
use Rattle.era_gate.specs.declared.states.StripeState.{StripeState}
use Rattle.era_gate.specs.declared.states.KeeperState.{KeeperState}
use Rattle.era_gate.specs.declared.parts.StripePart.{StripePart}
use Rattle.era_gate.specs.declared.parts.LanePart.{LanePart}
use Rattle.era_gate.specs.Acts.{Act, Account, stripe_drew, keeper_drew, stay_began, stay_ended, era_moved, exchange_failed, after, stripe_after, keeper_after, receipts_after, places_after, marks_after, marked_after, stripe_with, stripe_in, stripe_out, lane_of, inside_of, MayAct}
use Rattle.era_gate.specs.Parts.{has_stripe, has_lane, stripe_part_after, lane_part_after, cleared_after}
use Rattle.era_gate.specs.Rule.{Hidden, AreDistinct, weight}
use Rattle.era_gate.proofs.Choices.{at_cond, clash, count_none}

-- whether an act is of a stripe, of the keeper, for a lane
abbrev pub touches_stripe : Act → ℕ → Bool
touches_stripe (stripe_drew k event) d = d == k
touches_stripe (stay_began stay) d = d == stay.stripe
touches_stripe (stay_ended k begun) d = d == k
touches_stripe act d = false

abbrev pub touches_keeper : Act → Bool
touches_keeper (keeper_drew event) = true
touches_keeper era_moved = true
touches_keeper (exchange_failed miss) = true
touches_keeper act = false

abbrev pub touches_lane : Act → ℕ → Bool
touches_lane (stripe_drew k event) l = l == lane_of event
touches_lane (keeper_drew event) l = l == lane_of event
touches_lane (stay_began stay) l = l == stay.id.lane
touches_lane act l = false

-- all that an act touches stands in the view of one seat
pub record Owns (m : Hidden) (id : ℕ) (x : Act) : Type 0 where
  pub stripes : (d : ℕ) → touches_stripe x d ≡ true → m.stripe_owner d ≡ id
  pub keeper : touches_keeper x ≡ true → m.keeper_owner ≡ id
  pub lanes : (l : ℕ) → touches_lane x l ≡ true → m.lane_owner l ≡ id

-- a choice that isn't taken
untaken : {A : Type 0} (b : Bool) (t s : A) → b ≡ false → cond b t s ≡ s
untaken true t s off = absurd (clash refl off)
untaken false t s off = refl

pub stripe_same : (x : Act) (place d : ℕ) (s : StripeState) → touches_stripe x d ≡ false → stripe_after x place d s ≡ s
stripe_same (stripe_drew k event) place d s off = untaken (d == k) (stripe_with event place s) s off
stripe_same (stay_began stay) place d s off = untaken (d == stay.stripe) (stripe_in stay s) s off
stripe_same (stay_ended k begun) place d s off = untaken (d == k) (stripe_out s) s off
stripe_same act place d s off = refl

pub keeper_same : (x : Act) (place : ℕ) (k : KeeperState) → touches_keeper x ≡ false → keeper_after x place k ≡ k
keeper_same (keeper_drew event) place k off = absurd (clash refl off)
keeper_same era_moved place k off = absurd (clash refl off)
keeper_same (exchange_failed miss) place k off = absurd (clash refl off)
keeper_same act place k off = refl

pub cleared_same : (x : Act) (c : ℕ) → touches_keeper x ≡ false → cleared_after x c ≡ c
cleared_same era_moved c off = absurd (clash refl off)
cleared_same act c off = refl

pub lane_same : (x : Act) (place l : ℕ) (rs : List Receipt) → touches_lane x l ≡ false → receipts_after x place l rs ≡ rs
lane_same (stripe_drew k event) place l rs off = untaken (l == lane_of event) _ rs off
lane_same (keeper_drew event) place l rs off = untaken (l == lane_of event) _ rs off
lane_same (stay_began stay) place l rs off = untaken (l == stay.id.lane) _ rs off
lane_same act place l rs off = refl

-- what is marked stays marked
marked_more : (event : Event) (marked : ℕ → ℕ → Bool) (block era : ℕ) → marked block era ≡ true → marked_after event marked block era ≡ true
marked_more (Mark id other stored) marked block era is = behind (other == block) (stored == era) (marked block era) is where
  behind : (a b c : Bool) → c ≡ true → ((a && b) || c) ≡ true
  behind true true c is = refl
  behind true false c is = is
  behind false b c is = is
marked_more event marked block era is = is

pub marks_more : (x : Act) (marked : ℕ → ℕ → Bool) (block era : ℕ) → marked block era ≡ true → marks_after x marked block era ≡ true
marks_more (keeper_drew event) marked block era is = marked_more event marked block era is
marks_more act marked block era is = is

-- places are drawn, and never given back
pub places_more : (x : Act) (places : ℕ) → places ≤ places_after x places
places_more (stripe_drew k event) places = omega arith
places_more (keeper_drew event) places = omega arith
places_more act places = omega arith

-- the word's era stays but for an exchange that moves it, which finds nobody inside
pub word_same : (n : ℕ) (a : Account) (x : Act) (d : ℕ) → MayAct n a x → d < n → (a.stripe d).inside ≡ true → (after a x).keeper.era ≡ a.keeper.era
word_same n a era_moved d may low inside = absurd (clash inside (count_none n (inside_of a) may.nobody d low))
word_same n a act d may low inside = refl

-- a bound on a stripe's stays outlasts each act: a stay that begins is one more
pub stays_kept : (n : ℕ) (a : Account) (x : Act) (d c : ℕ) → MayAct n a x → c + weight (inside_of a d) ≤ length (a.stripe d).stays → c + weight (inside_of (after a x) d) ≤ length ((after a x).stripe d).stays
stays_kept n a (stripe_drew k event) d c may low = at_cond (λ (s : StripeState). c + weight s.inside ≤ length s.stays) (d == k) (stripe_with event a.places (a.stripe d)) (a.stripe d) (λ on. low) (λ off. low)
stays_kept n a (stay_began stay) d c may low = at_cond (λ (s : StripeState). c + weight s.inside ≤ length s.stays) (d == stay.stripe) (stripe_in stay (a.stripe d)) (a.stripe d)
    (λ on. let out : (a.stripe d).inside ≡ false = subst (λ (j : ℕ). (a.stripe j).inside ≡ false) (sym (eqb-true d stay.stripe on)) may.outside in
    let none : weight (a.stripe d).inside ≡ 0 = ap weight out in omega (arith, length-append (a.stripe d).stays (stay ∷ [])))
    (λ off. low)
stays_kept n a (stay_ended k begun) d c may low = at_cond (λ (s : StripeState). c + weight s.inside ≤ length s.stays) (d == k) (stripe_out (a.stripe d)) (a.stripe d) (λ on. omega arith) (λ off. low)
stays_kept n a act d c may low = low

-- so does a bound on how many have begun
pub stays_more : (x : Act) (place d : ℕ) (s : StripeState) → length s.stays ≤ length (stripe_after x place d s).stays
stays_more (stripe_drew k event) place d s = at_cond (λ (t : StripeState). length s.stays ≤ length t.stays) (d == k) (stripe_with event place s) s (λ on. omega arith) (λ off. omega arith)
stays_more (stay_began stay) place d s = at_cond (λ (t : StripeState). length s.stays ≤ length t.stays) (d == stay.stripe) (stripe_in stay s) s (λ on. omega (arith, length-append s.stays (stay ∷ []))) (λ off. omega arith)
stays_more (stay_ended k begun) place d s = at_cond (λ (t : StripeState). length s.stays ≤ length t.stays) (d == k) (stripe_out s) s (λ on. omega arith) (λ off. omega arith)
stays_more act place d s = omega arith

-- an act changes no number of a part
pub stripe_numbers : (x : Act) (place era d : ℕ) (parts : List StripePart) → has_stripe d (map (stripe_part_after x place era) parts) ≡ has_stripe d parts
stripe_numbers x place era d [] = refl
stripe_numbers x place era d (part ∷ parts) = ap (λ b. (d == part.stripe) || b) (stripe_numbers x place era d parts)

pub lane_numbers : (x : Act) (place l : ℕ) (parts : List LanePart) → has_lane l (map (lane_part_after x place) parts) ≡ has_lane l parts
lane_numbers x place l [] = refl
lane_numbers x place l (part ∷ parts) = ap (λ b. (l == part.lane) || b) (lane_numbers x place l parts)

pub still_distinct : (x : Act) (place era : ℕ) (parts : List StripePart) → AreDistinct parts → AreDistinct (map (stripe_part_after x place era) parts)
still_distinct x place era [] apart = tt
still_distinct x place era (part ∷ parts) apart = (stripe_numbers x place era part.stripe parts ∙ apart.0, still_distinct x place era parts apart.1)
