-- A lane's receipts are the entries of its commands and their stays, each once and in order.
use Rattle.std.proofs.Common.{◌≡◌, ℕ, ◌+◌, ◌<◌, ◌==◌, cond, Bool, true, false, List, [], ◌∷◌, ◌++◌, append_assoc, refl, sym, ap, ◌∙◌}
use Rattle.std.proofs.lemmas.Bool.{cond_both}
use Rattle.std.proofs.lemmas.List.{append-nil}
use Rattle.std.proofs.lemmas.List.Elements.{All-cons, All-nil, filter-append}
use Rattle.std.specs.Prelude.{All}
use Rattle.era_model.specs.declared.entry.Entry.{Entry}
use Rattle.era_model.specs.declared.event.Event.{Event}
use Rattle.era_gate.specs.declared.states.StripeState.{StripeState}
use Rattle.era_gate.specs.declared.stays.Receipt.{Receipt}
use Rattle.era_gate.specs.declared.stays.Receipt.TheVariants.{OfEvent, OfStay}
use Rattle.era_gate.specs.declared.stays.Stay.{Stay}
use Rattle.era_gate.specs.Acts.{Act, Account, stripe_drew, keeper_drew, stay_began, stay_ended, era_moved, exchange_failed, IsLegalFrom, after, reach, opened, entry, lane_of, stripe_with, stripe_in, stripe_out}
use Rattle.era_gate.specs.Drawn.{drawn}
use Rattle.era_gate.specs.Loose.{stays_of}
use Rattle.era_gate.specs.Receipts.{entries_in, stays_in, entries_for, stays_for, stays_at}

-- one more receipt
entries-behind : (rs : List Receipt) (r : Receipt) → entries_in (rs ++ r ∷ []) ≡ entries_in rs ++ entries_in (r ∷ [])
entries-behind [] r = refl
entries-behind (OfEvent e ∷ rs) r = ap (λ es. e ∷ es) (entries-behind rs r)
entries-behind (OfStay stay ∷ rs) r = entries-behind rs r

stays-behind : (rs : List Receipt) (r : Receipt) → stays_in (rs ++ r ∷ []) ≡ stays_in rs ++ stays_in (r ∷ [])
stays-behind [] r = refl
stays-behind (OfEvent e ∷ rs) r = stays-behind rs r
stays-behind (OfStay stay ∷ rs) r = ap (λ ss. stay ∷ ss) (stays-behind rs r)

-- the entries of a lane with the receipt of an event, and then further ones
drawn-step : (l place : ℕ) (event : Event) (rs : List Receipt) (later : List Entry)
    → entries_in (cond (l == lane_of event) (rs ++ OfEvent (entry place event) ∷ []) rs) ++ entries_for l later ≡ entries_in rs ++ entries_for l (entry place event ∷ later)
drawn-step l place event rs later = step (l == lane_of event) refl where
  step : (b : Bool) → (l == lane_of event) ≡ b
      → entries_in (cond (l == lane_of event) (rs ++ OfEvent (entry place event) ∷ []) rs) ++ entries_for l later ≡ entries_in rs ++ entries_for l (entry place event ∷ later)
  step true is = rw (is, entries-behind rs (OfEvent (entry place event))) (append_assoc (entries_in rs) (entry place event ∷ []) (entries_for l later))
  step false is = rw is refl

-- a stay's receipt is no entry
stay-step : (b : Bool) (rs : List Receipt) (stay : Stay) → entries_in (cond b (rs ++ OfStay stay ∷ []) rs) ≡ entries_in rs
stay-step true rs stay = entries-behind rs (OfStay stay) ∙ append-nil (entries_in rs)
stay-step false rs stay = refl

-- the entries of a lane after acts
lane-entries : (l : ℕ) (a : Account) (acts : List Act) → entries_in ((reach a acts).lane l) ≡ entries_in (a.lane l) ++ entries_for l (drawn a.places acts)
lane-entries l a [] = sym (append-nil (entries_in (a.lane l)))
lane-entries l a (stripe_drew k event ∷ acts) = lane-entries l (after a (stripe_drew k event)) acts ∙ drawn-step l a.places event (a.lane l) (drawn (a.places + 1) acts)
lane-entries l a (keeper_drew event ∷ acts) = lane-entries l (after a (keeper_drew event)) acts ∙ drawn-step l a.places event (a.lane l) (drawn (a.places + 1) acts)
lane-entries l a (stay_began stay ∷ acts) =
    lane-entries l (after a (stay_began stay)) acts ∙ ap (λ es. es ++ entries_for l (drawn a.places acts)) (stay-step (l == stay.id.lane) (a.lane l) stay)
lane-entries l a (stay_ended k begun ∷ acts) = lane-entries l (after a (stay_ended k begun)) acts
lane-entries l a (era_moved ∷ acts) = lane-entries l (after a era_moved) acts
lane-entries l a (exchange_failed miss ∷ acts) = lane-entries l (after a (exchange_failed miss)) acts

-- a lane's stays at a stripe are the stripe's stays for the lane
abbrev HasStays : ℕ → ℕ → List Receipt → List Stay → Type 0
HasStays l d receipts stays = stays_at d (stays_in receipts) ≡ stays_for l stays

-- an event's receipt is no stay
event-step : (b : Bool) (rs : List Receipt) (e : Entry) → stays_in (cond b (rs ++ OfEvent e ∷ []) rs) ≡ stays_in rs
event-step true rs e = stays-behind rs (OfEvent e) ∙ append-nil (stays_in rs)
event-step false rs e = refl

-- one more stay
at-more : (d : ℕ) (ss : List Stay) (stay : Stay) → stays_at d (ss ++ stay ∷ []) ≡ stays_at d ss ++ cond (d == stay.stripe) (stay ∷ []) []
at-more d ss stay = filter-append (λ (x : Stay). d == x.stripe) ss (stay ∷ [])

for-more : (l : ℕ) (ss : List Stay) (stay : Stay) → stays_for l (ss ++ stay ∷ []) ≡ stays_for l ss ++ cond (l == stay.id.lane) (stay ∷ []) []
for-more l ss stay = filter-append (λ (x : Stay). l == x.id.lane) ss (stay ∷ [])

-- the begin of a stay gives both the stay, or neither
begun-step : (l d : ℕ) (rs : List Receipt) (stay : Stay) (s : StripeState) → HasStays l d rs s.stays
    → HasStays l d (cond (l == stay.id.lane) (rs ++ OfStay stay ∷ []) rs) (cond (d == stay.stripe) (stripe_in stay s) s).stays
begun-step l d rs stay s has = step (l == stay.id.lane) (d == stay.stripe) refl refl where
  step : (b c : Bool) → (l == stay.id.lane) ≡ b → (d == stay.stripe) ≡ c
      → HasStays l d (cond (l == stay.id.lane) (rs ++ OfStay stay ∷ []) rs) (cond (d == stay.stripe) (stripe_in stay s) s).stays
  step true true is_b is_c = rw (is_b, is_c, stays-behind rs (OfStay stay), at-more d (stays_in rs) stay, for-more l s.stays stay, is_c, is_b) (ap (λ ss. ss ++ stay ∷ []) has)
  step true false is_b is_c = rw (is_b, is_c, stays-behind rs (OfStay stay), at-more d (stays_in rs) stay, is_c, append-nil (stays_at d (stays_in rs))) has
  step false true is_b is_c = rw (is_b, is_c, for-more l s.stays stay, is_b, append-nil (stays_for l s.stays)) has
  step false false is_b is_c = rw (is_b, is_c) has

-- each act keeps that a lane has its stays at a stripe
lane-stays : (l d : ℕ) (a : Account) (acts : List Act) → HasStays l d (a.lane l) (stays_of a d) → HasStays l d ((reach a acts).lane l) (stays_of (reach a acts) d)
lane-stays l d a [] has = has
lane-stays l d a (stripe_drew k event ∷ acts) has = lane-stays l d (after a (stripe_drew k event)) acts
    (cond_both (d == k) (stripe_with event a.places (a.stripe d)) (a.stripe d) (λ (s : StripeState). HasStays l d (cond (l == lane_of event) (a.lane l ++ OfEvent (entry a.places event) ∷ []) (a.lane l)) s.stays)
    (λ on. same) (λ off. same)) where
      same : HasStays l d (cond (l == lane_of event) (a.lane l ++ OfEvent (entry a.places event) ∷ []) (a.lane l)) (stays_of a d)
      same = ap (stays_at d) (event-step (l == lane_of event) (a.lane l) (entry a.places event)) ∙ has
lane-stays l d a (keeper_drew event ∷ acts) has =
    lane-stays l d (after a (keeper_drew event)) acts (ap (stays_at d) (event-step (l == lane_of event) (a.lane l) (entry a.places event)) ∙ has)
lane-stays l d a (stay_began stay ∷ acts) has = lane-stays l d (after a (stay_began stay)) acts (begun-step l d (a.lane l) stay (a.stripe d) has)
lane-stays l d a (stay_ended k begun ∷ acts) has = lane-stays l d (after a (stay_ended k begun)) acts
    (cond_both (d == k) (stripe_out (a.stripe d)) (a.stripe d) (λ (s : StripeState). HasStays l d (a.lane l) s.stays) (λ on. has) (λ off. has))
lane-stays l d a (era_moved ∷ acts) has = lane-stays l d (after a era_moved) acts has
lane-stays l d a (exchange_failed miss ∷ acts) has = lane-stays l d (after a (exchange_failed miss)) acts has

-- from an opening on
pub opened-entries : (l era : ℕ) (acts : List Act) → entries_in ((reach (opened era) acts).lane l) ≡ entries_for l (drawn 0 acts)
opened-entries l era acts = lane-entries l (opened era) acts

pub opened-stays : (l d era : ℕ) (acts : List Act) → stays_at d (stays_in ((reach (opened era) acts).lane l)) ≡ stays_for l (stays_of (reach (opened era) acts) d)
opened-stays l d era acts = lane-stays l d (opened era) acts refl

-- what legal acts draw is of one of 65 lanes
abbrev pub IsLow : Entry → Type 0
IsLow e = lane_of e.event < 65

drawn-low : (n place : ℕ) (a : Account) (acts : List Act) → IsLegalFrom n a acts → All IsLow (drawn place acts)
drawn-low n place a [] legal = All-nil IsLow
drawn-low n place a (stripe_drew k event ∷ acts) legal =
    All-cons IsLow (entry place event) (drawn (place + 1) acts) legal.0.1.1 (drawn-low n (place + 1) (after a (stripe_drew k event)) acts legal.1)
drawn-low n place a (keeper_drew event ∷ acts) legal =
    All-cons IsLow (entry place event) (drawn (place + 1) acts) legal.0.1 (drawn-low n (place + 1) (after a (keeper_drew event)) acts legal.1)
drawn-low n place a (stay_began stay ∷ acts) legal = drawn-low n place (after a (stay_began stay)) acts legal.1
drawn-low n place a (stay_ended k begun ∷ acts) legal = drawn-low n place (after a (stay_ended k begun)) acts legal.1
drawn-low n place a (era_moved ∷ acts) legal = drawn-low n place (after a era_moved) acts legal.1
drawn-low n place a (exchange_failed miss ∷ acts) legal = drawn-low n place (after a (exchange_failed miss)) acts legal.1

pub opened-low : (n era : ℕ) (acts : List Act) → IsLegalFrom n (opened era) acts → All IsLow (drawn 0 acts)
opened-low n era acts legal = drawn-low n 0 (opened era) acts legal
