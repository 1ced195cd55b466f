-- Acts under the gate, and the account that says what they have come to.
-- The hidden history of a gate is a list of acts. A place is the number of events before; an act that draws nothing stands between two places.
use Rattle.std.specs.Prelude.{◌≡◌, ℕ, zero, suc, ◌+◌, ◌<◌, ◌≤◌, ◌==◌, ◌||◌, cond, Bool, true, false, List, [], ◌∷◌, ◌++◌, length, slice_index, Option, Some, None}
use Rattle.era_base.specs.declared.ids.CmdId.{CmdId}
use Rattle.era_model.specs.declared.event.Event.{Event}
use Rattle.era_model.specs.declared.event.Event.TheVariants.{Tried, Mark, Go, Done, Cut, Settle, Unsettled, Read, Roll, Kept, Snap, Dropped, Digest, Status, Refused}
use Rattle.era_model.specs.declared.event.Event.TheVariants.{List as ListDrawn}
use Rattle.era_model.specs.Events.{drawn_by, is_go_of}
use Rattle.era_model.specs.Writes.{is_writing, is_cut}
use Rattle.era_gate.specs.declared.stays.Stay.{Stay}
use Rattle.era_gate.specs.declared.stays.Miss.{Miss}
use Rattle.era_gate.specs.declared.stays.Receipt.{Receipt}
use Rattle.era_gate.specs.declared.stays.Receipt.TheVariants.{OfEvent, OfStay}
use Rattle.era_gate.specs.declared.states.StripeState.{StripeState}
use Rattle.era_gate.specs.declared.states.KeeperState.{KeeperState}
pub use Rattle.era_gate.specs.StateAfter.{cut_flight, flights, flight_after, switched_after, pending_after, told_of, told_by, marked_after, era_after_event, entry, stripe_with, stripe_in, stripe_out, keeper_with, keeper_moved, keeper_missed}

-- An act: a stripe or the keeper drew the next place for an event; a stripe's stay began, or ended with so many stays begun; an exchange moved the era, or failed.
pub data Act : Type 0 where
  stripe_drew : ℕ → Event → Act
  keeper_drew : Event → Act
  stay_began : Stay → Act
  stay_ended : ℕ → ℕ → Act
  era_moved : Act
  exchange_failed : Miss → Act

-- What the acts so far say: how many events were drawn; the era of the last switch among them, else the opening's; which blocks are marked in which era; each stripe, the keeper, and each lane's receipts.
pub record Account : Type 0 where
  pub places : ℕ
  pub era : ℕ
  pub marked : ℕ → ℕ → Bool
  pub stripe : ℕ → StripeState
  pub keeper : KeeperState
  pub lane : ℕ → List Receipt

-- How many events were drawn, after an act.
abbrev pub places_after : Act → ℕ → ℕ
places_after (stripe_drew k event) places = places + 1
places_after (keeper_drew event) places = places + 1
places_after act places = places

-- The present era after an act.
abbrev pub era_after : Act → ℕ → ℕ
era_after (keeper_drew event) era = era_after_event event era
era_after act era = era

-- Which blocks are marked in which era, after an act.
abbrev pub marks_after : Act → (ℕ → ℕ → Bool) → ℕ → ℕ → Bool
marks_after (keeper_drew event) before block era = marked_after event before block era
marks_after act before block era = before block era

-- A stripe, by its number, after an act at a place.
abbrev pub stripe_after : Act → ℕ → ℕ → StripeState → StripeState
stripe_after (stripe_drew k event) place d s = cond (d == k) (stripe_with event place s) s
stripe_after (stay_began stay) place d s = cond (d == stay.stripe) (stripe_in stay s) s
stripe_after (stay_ended k begun) place d s = cond (d == k) (stripe_out s) s
stripe_after act place d s = s

-- The keeper after an act at a place.
abbrev pub keeper_after : Act → ℕ → KeeperState → KeeperState
keeper_after (keeper_drew event) place k = keeper_with event place k
keeper_after era_moved place k = keeper_moved k
keeper_after (exchange_failed miss) place k = keeper_missed miss k
keeper_after act place k = k

-- The lane of the command that drew an event.
abbrev pub lane_of : Event → ℕ
lane_of event = (drawn_by event).lane

-- A lane's receipts, by the lane's number, after an act at a place.
abbrev pub receipts_after : Act → ℕ → ℕ → List Receipt → List Receipt
receipts_after (stripe_drew k event) place l rs = cond (l == lane_of event) (rs ++ OfEvent (entry place event) ∷ []) rs
receipts_after (keeper_drew event) place l rs = cond (l == lane_of event) (rs ++ OfEvent (entry place event) ∷ []) rs
receipts_after (stay_began stay) place l rs = cond (l == stay.id.lane) (rs ++ OfStay stay ∷ []) rs
receipts_after act place l rs = rs

-- The account after an act.
abbrev pub after : Account → Act → Account
after a x = record {
  places = places_after x a.places;
  era = era_after x a.era;
  marked = marks_after x a.marked;
  stripe = λ d. stripe_after x a.places d (a.stripe d);
  keeper = keeper_after x a.places a.keeper;
  lane = λ l. receipts_after x a.places l (a.lane l);
}

-- The account after acts.
abbrev pub reach : Account → List Act → Account
reach a [] = a
reach a (x ∷ xs) = reach (after a x) xs

-- A stripe before any act.
abbrev pub new_state : StripeState
new_state = record { inside = false; flight = None; stays = []; entries = [] }

-- The keeper before any act.
abbrev pub new_keeper_state : ℕ → KeeperState
new_keeper_state era = record { era = era; switched = true; pending = None; told = []; entries = [] }

-- The account of a gate that was opened in an era.
abbrev pub opened : ℕ → Account
opened era = record {
  places = 0;
  era = era;
  marked = λ block e. false;
  stripe = λ d. new_state;
  keeper = new_keeper_state era;
  lane = λ l. [];
}

-- How many numbers below n pass the test.
abbrev pub count : ℕ → (ℕ → Bool) → ℕ
count zero test = 0
count (suc n) test = cond (test n) 1 0 + count n test

-- Whether a stripe is inside.
abbrev pub inside_of : Account → ℕ → Bool
inside_of a d = (a.stripe d).inside

-- Whether an event is among the receipts that a write of the command was issued.
abbrev pub has_go : CmdId → List Receipt → Bool
has_go id [] = false
has_go id (OfEvent e ∷ rs) = is_go_of id e.event || has_go id rs
has_go id (OfStay stay ∷ rs) = has_go id rs

-- How many stripes a failed exchange found inside.
abbrev pub found_of : Option Miss → Option ℕ
found_of None = None
found_of (Some miss) = Some miss.found

-- A stripe may issue a write where it is inside without an open write; the block is marked in the write's era, which is the present one and the word's, and no write of this command was issued.
pub record GateMayGo (a : Account) (d : ℕ) (id : CmdId) (block era : ℕ) : Type 0 where
  pub inside : (a.stripe d).inside ≡ true
  pub alone : (a.stripe d).flight ≡ None
  pub marked : a.marked block era ≡ true
  pub present : era ≡ a.era
  pub switched : a.keeper.switched ≡ true
  pub once : has_go id (a.lane id.lane) ≡ false

-- The switch may be drawn once an exchange moved the era, while no stripe has an open write.
pub record GateMaySwitch (n : ℕ) (a : Account) (era : ℕ) : Type 0 where
  pub next : era ≡ a.era + 1
  pub word : era ≡ a.keeper.era
  pub quiet : (d : ℕ) → d < n → (a.stripe d).flight ≡ None

-- What an event of a stripe asks.
abbrev pub StripeMayDraw : Account → ℕ → Event → Type 0
StripeMayDraw a d (Go id block era first bytes) = GateMayGo a d id block era
StripeMayDraw a d (Done id) = is_writing (flights (a.stripe d).flight) id ≡ true
StripeMayDraw a d (Cut id faults) = is_writing (flights (a.stripe d).flight) id ≡ true
StripeMayDraw a d (Settle by cut bytes) = is_cut (flights (a.stripe d).flight) cut ≡ true
StripeMayDraw a d (Unsettled by cut faults) = is_cut (flights (a.stripe d).flight) cut ≡ true
StripeMayDraw a d (Read id sector bytes) = Unit {0}
StripeMayDraw a d (Refused id kind why) = Unit {0}
StripeMayDraw a d event = ⊥

-- What an event of the keeper asks.
abbrev pub KeeperMayDraw : ℕ → Account → Event → Type 0
KeeperMayDraw n a (Tried id block era) = (era ≡ a.era) × (a.keeper.switched ≡ true)
KeeperMayDraw n a (Mark id block era) = (era ≡ a.era) × (a.keeper.switched ≡ true)
KeeperMayDraw n a (Roll id era) = GateMaySwitch n a era
KeeperMayDraw n a (Kept id inside) = found_of a.keeper.pending ≡ Some inside
KeeperMayDraw n a (Snap id block) = Unit {0}
KeeperMayDraw n a (Dropped id) = Unit {0}
KeeperMayDraw n a (Digest id era page) = Unit {0}
KeeperMayDraw n a (ListDrawn id since snap blocks) = Unit {0}
KeeperMayDraw n a (Status id used total era held) = Unit {0}
KeeperMayDraw n a (Refused id kind why) = Unit {0}
KeeperMayDraw n a event = ⊥

-- A stay begins at a stripe that is outside, with that stripe's next number, and a floor that the order word has reached, by a command of one of the gate's 65 lanes.
pub record MayBegin (n : ℕ) (a : Account) (stay : Stay) : Type 0 where
  pub low : stay.stripe < n
  pub outside : (a.stripe stay.stripe).inside ≡ false
  pub number : stay.number ≡ length (a.stripe stay.stripe).stays
  pub floor : stay.floor ≤ a.places
  pub lane : stay.id.lane < 65

-- A stay ends where its stripe is inside without an open write.
pub record MayEnd (n : ℕ) (a : Account) (d begun : ℕ) : Type 0 where
  pub low : d < n
  pub inside : (a.stripe d).inside ≡ true
  pub idle : (a.stripe d).flight ≡ None
  pub number : begun ≡ length (a.stripe d).stays

-- The era moves while nobody is inside and the switch to the word's era is drawn.
pub record MayMove (n : ℕ) (a : Account) : Type 0 where
  pub nobody : count n (inside_of a) ≡ 0
  pub switched : a.keeper.switched ≡ true

-- An exchange fails by the number of stripes inside, of which there is one at least; each of them has a stay that isn't known as ended.
pub record MayFail (n : ℕ) (a : Account) (miss : Miss) : Type 0 where
  pub found : miss.found ≡ count n (inside_of a)
  pub some : 0 < miss.found
  pub loose : (d : ℕ) → d < n → (a.stripe d).inside ≡ true → slice_index miss.ended d < length (a.stripe d).stays

-- What an act asks of the account before it, in a gate of n stripes. What is drawn is drawn by a command of one of the gate's 65 lanes.
abbrev pub MayAct : ℕ → Account → Act → Type 0
MayAct n a (stripe_drew d event) = (d < n) × (StripeMayDraw a d event × (lane_of event < 65))
MayAct n a (keeper_drew event) = KeeperMayDraw n a event × (lane_of event < 65)
MayAct n a (stay_began stay) = MayBegin n a stay
MayAct n a (stay_ended d begun) = MayEnd n a d begun
MayAct n a era_moved = MayMove n a
MayAct n a (exchange_failed miss) = MayFail n a miss

-- From an account each act finds what it asks.
abbrev pub IsLegalFrom : ℕ → Account → List Act → Type 0
IsLegalFrom n a [] = Unit {0}
IsLegalFrom n a (x ∷ xs) = MayAct n a x × IsLegalFrom n (after a x) xs
