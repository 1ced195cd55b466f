-- A history and an account of the same acts agree, and each event then meets what the gate answers for.
use Rattle.std.proofs.Common.{◌≡◌, ℕ, ◌==◌, ◌&&◌, ◌||◌, true, false, List, ◌∷◌, refl, sym, ap, ◌∙◌, subst, eqb-true, eq-eqb}
use Rattle.std.proofs.lemmas.Bool.{cond_both, eqb-false, ne_eqb, false_from_ne_true}
use Rattle.era_base.specs.declared.ids.CmdId.{CmdId}
use Rattle.era_model.specs.declared.event.Event.{Event}
use Rattle.era_model.specs.declared.event.Event.TheVariants.{Mark, Go, Done, Cut, Settle, Roll}
use Rattle.era_model.specs.declared.flight.FlightWrite.{FlightWrite}
use Rattle.era_model.specs.declared.history.Happening.{Happening}
use Rattle.era_model.specs.declared.history.Happening.TheVariants.{Happened}
use Rattle.era_model.specs.declared.opening.Opening.{Opening}
use Rattle.era_model.specs.Events.{is_go_of}
use Rattle.era_model.specs.History.{at_opening, stripe_now, era_of, in_flight}
use Rattle.era_model.specs.Marking.{is_marked_in, some_event}
use Rattle.era_model.specs.Writes.{without, with_cut}
use Rattle.era_gate.specs.declared.states.StripeState.{StripeState}
use Rattle.era_gate.specs.declared.stays.Stay.{Stay}
use Rattle.era_gate.specs.declared.stays.Receipt.TheVariants.{OfStay}
use Rattle.era_gate.specs.Acts.{Account, stripe_drew, keeper_drew, stay_began, stay_ended, after, flights, stripe_after, stripe_with, stripe_in, stripe_out, flight_after, marked_after, era_after_event, has_go, StripeMayDraw, KeeperMayDraw}
use Rattle.era_gate.specs.ModelLaw.{IsOwnWrite}
use Rattle.era_gate.proofs.AgreesWrites.{flies, to_blocks, to_blocks-without, to_blocks-with_cut, flights-without_writing, flights-without_cut, flights-with_cut, flies-writing, flies-cut, flights-without_other, flights-cut_other}
use Rattle.era_gate.proofs.AgreesOnce.{KeepsWrites, has_go-drawn, has_go-begun}

-- the writes in flight of a stripe
abbrev pub writes_of : List Happening → ℕ → List FlightWrite
writes_of h d = to_blocks (λ block. stripe_now h block == d) (in_flight h)

-- the present era, the marks, which commands issued a write, and each stripe's open write are those of the history, which opened with n stripes
pub record Agrees (n : ℕ) (h : List Happening) (a : Account) : Type 0 where
  pub stripes : at_opening 0 (λ (o : Opening). o.stripes) h ≡ n
  pub era : era_of h ≡ a.era
  pub marks : (block era : ℕ) → is_marked_in h block era ≡ a.marked block era
  pub once : (id : CmdId) → some_event h (is_go_of id) ≡ has_go id (a.lane id.lane)
  pub writes : (d : ℕ) → writes_of h d ≡ flights (a.stripe d).flight

-- a stripe's event and its own writes
own-writes : (h : List Happening) (a : Account) (k : ℕ) (event : Event) → writes_of h k ≡ flights (a.stripe k).flight → IsOwnWrite (stripe_now h) k event → StripeMayDraw a k event
    → writes_of (Happened event ∷ h) k ≡ flights (flight_after event (a.stripe k).flight)
own-writes h a k (Go id block era first bytes) writes own may =
    let here : (stripe_now h block == k) ≡ true = eq-eqb (stripe_now h block) k own in
    rw here (ap (λ ws. record { id = id; block = block; first = first; bytes = bytes; cut = false } ∷ ws) (writes ∙ ap flights may.alone))
own-writes h a k (Done id) writes own may = to_blocks-without (λ block. stripe_now h block == k) (in_flight h) id ∙ (ap (λ ws. without ws id) writes ∙ flights-without_writing (a.stripe k).flight id may)
own-writes h a k (Cut id faults) writes own may = to_blocks-with_cut (λ block. stripe_now h block == k) (in_flight h) id ∙ (ap (λ ws. with_cut ws id) writes ∙ flights-with_cut (a.stripe k).flight id may)
own-writes h a k (Settle by cut bytes) writes own may = to_blocks-without (λ block. stripe_now h block == k) (in_flight h) cut ∙ (ap (λ ws. without ws cut) writes ∙ flights-without_cut (a.stripe k).flight cut may)
own-writes h a k event writes own may = writes

-- an open write of another stripe is of another command
others : (n : ℕ) (a : Account) (k d : ℕ) (id : CmdId) → KeepsWrites n a → (d ≡ k → ⊥) → flies (a.stripe k).flight id ≡ true → flies (a.stripe d).flight id ≡ false
others n a k d id keeps off mine = false_from_ne_true (flies (a.stripe d).flight id) (λ also. off (keeps.apart d k id also mine))

-- a stripe's event and another stripe's writes
other-writes : (n : ℕ) (h : List Happening) (a : Account) (k d : ℕ) (event : Event) → KeepsWrites n a → (d ≡ k → ⊥) → writes_of h d ≡ flights (a.stripe d).flight → IsOwnWrite (stripe_now h) k event
    → StripeMayDraw a k event → writes_of (Happened event ∷ h) d ≡ flights (a.stripe d).flight
other-writes n h a k d (Go id block era first bytes) keeps off writes own may =
    let there : (stripe_now h block == d) ≡ false = ne_eqb (stripe_now h block) d (λ same. off (sym same ∙ own)) in rw there writes
other-writes n h a k d (Done id) keeps off writes own may = to_blocks-without (λ block. stripe_now h block == d) (in_flight h) id
    ∙ (ap (λ ws. without ws id) writes ∙ flights-without_other (a.stripe d).flight id (others n a k d id keeps off (flies-writing (a.stripe k).flight id may)))
other-writes n h a k d (Cut id faults) keeps off writes own may = to_blocks-with_cut (λ block. stripe_now h block == d) (in_flight h) id
    ∙ (ap (λ ws. with_cut ws id) writes ∙ flights-cut_other (a.stripe d).flight id (others n a k d id keeps off (flies-writing (a.stripe k).flight id may)))
other-writes n h a k d (Settle by cut bytes) keeps off writes own may = to_blocks-without (λ block. stripe_now h block == d) (in_flight h) cut
    ∙ (ap (λ ws. without ws cut) writes ∙ flights-without_other (a.stripe d).flight cut (others n a k d cut keeps off (flies-cut (a.stripe k).flight cut may)))
other-writes n h a k d event keeps off writes own may = writes

-- each stripe's writes after a stripe's event
drew-writes : (n : ℕ) (h : List Happening) (a : Account) (k : ℕ) (event : Event) → KeepsWrites n a → Agrees n h a → IsOwnWrite (stripe_now h) k event → StripeMayDraw a k event
    → (d : ℕ) → writes_of (Happened event ∷ h) d ≡ flights (stripe_after (stripe_drew k event) a.places d (a.stripe d)).flight
drew-writes n h a k event keeps agrees own may d = cond_both (d == k) (stripe_with event a.places (a.stripe d)) (a.stripe d) (λ (s : StripeState). writes_of (Happened event ∷ h) d ≡ flights s.flight)
    (λ on. let same : d ≡ k = eqb-true d k on in
    subst (λ (j : ℕ). writes_of (Happened event ∷ h) j ≡ flights (flight_after event (a.stripe j).flight)) (sym same) (own-writes h a k event (agrees.writes k) own may))
    (λ off. other-writes n h a k d event keeps (eqb-false d k off) (agrees.writes d) own may)

-- a stripe's event is no mark and no switch
drew-marks : (h : List Happening) (a : Account) (k : ℕ) (event : Event) → StripeMayDraw a k event → (block era : ℕ) → is_marked_in (Happened event ∷ h) block era ≡ is_marked_in h block era
drew-marks h a k (Mark id marked stored) may block era = absurd may
drew-marks h a k event may block era = refl

drew-era : (h : List Happening) (a : Account) (k : ℕ) (event : Event) → StripeMayDraw a k event → era_of (Happened event ∷ h) ≡ era_of h
drew-era h a k (Roll id era) may = absurd may
drew-era h a k event may = refl

-- the keeper's event changes no write in flight
kept-writes : (n : ℕ) (h : List Happening) (a : Account) (event : Event) → KeeperMayDraw n a event → in_flight (Happened event ∷ h) ≡ in_flight h
kept-writes n h a (Go id block era first bytes) may = absurd may
kept-writes n h a (Done id) may = absurd may
kept-writes n h a (Cut id faults) may = absurd may
kept-writes n h a (Settle by cut bytes) may = absurd may
kept-writes n h a event may = refl

-- it marks and switches as in the account
kept-marks : (h : List Happening) (a : Account) (event : Event) → ((block era : ℕ) → is_marked_in h block era ≡ a.marked block era)
    → (block era : ℕ) → is_marked_in (Happened event ∷ h) block era ≡ marked_after event a.marked block era
kept-marks h a (Mark id marked stored) marks block era = ap (λ b. (marked == block && stored == era) || b) (marks block era)
kept-marks h a event marks block era = marks block era

kept-era : (h : List Happening) (a : Account) (event : Event) → era_of h ≡ a.era → era_of (Happened event ∷ h) ≡ era_after_event event a.era
kept-era h a (Roll id era) same = refl
kept-era h a event same = same

-- a history and an account agree after a stripe's event
pub drew-agrees : (n : ℕ) (h : List Happening) (a : Account) (k : ℕ) (event : Event) → KeepsWrites n a → Agrees n h a → IsOwnWrite (stripe_now h) k event → StripeMayDraw a k event
    → Agrees n (Happened event ∷ h) (after a (stripe_drew k event))
drew-agrees n h a k event keeps agrees own may = record {
  stripes = agrees.stripes;
  era = drew-era h a k event may ∙ agrees.era;
  marks = λ block era. drew-marks h a k event may block era ∙ agrees.marks block era;
  once = λ id. ap (λ b. is_go_of id event || b) (agrees.once id) ∙ sym (has_go-drawn id event a.places (a.lane id.lane));
  writes = drew-writes n h a k event keeps agrees own may;
}

-- after the keeper's
pub kept-agrees : (n : ℕ) (h : List Happening) (a : Account) (event : Event) → Agrees n h a → KeeperMayDraw n a event → Agrees n (Happened event ∷ h) (after a (keeper_drew event))
kept-agrees n h a event agrees may = record {
  stripes = agrees.stripes;
  era = kept-era h a event agrees.era;
  marks = kept-marks h a event agrees.marks;
  once = λ id. ap (λ b. is_go_of id event || b) (agrees.once id) ∙ sym (has_go-drawn id event a.places (a.lane id.lane));
  writes = λ d. ap (λ ws. to_blocks (λ block. stripe_now h block == d) ws) (kept-writes n h a event may) ∙ agrees.writes d;
}

-- after a stay began, and ended
pub began-agrees : (n : ℕ) (h : List Happening) (a : Account) (stay : Stay) → Agrees n h a → Agrees n h (after a (stay_began stay))
began-agrees n h a stay agrees = record {
  stripes = agrees.stripes;
  era = agrees.era;
  marks = agrees.marks;
  once = λ id. agrees.once id ∙ sym (has_go-begun id (id.lane == stay.id.lane) (a.lane id.lane) (OfStay stay) refl);
  writes = λ d. cond_both (d == stay.stripe) (stripe_in stay (a.stripe d)) (a.stripe d) (λ (s : StripeState). writes_of h d ≡ flights s.flight) (λ on. agrees.writes d) (λ off. agrees.writes d);
}

pub ended-agrees : (n : ℕ) (h : List Happening) (a : Account) (k begun : ℕ) → Agrees n h a → Agrees n h (after a (stay_ended k begun))
ended-agrees n h a k begun agrees = record {
  stripes = agrees.stripes;
  era = agrees.era;
  marks = agrees.marks;
  once = agrees.once;
  writes = λ d. cond_both (d == k) (stripe_out (a.stripe d)) (a.stripe d) (λ (s : StripeState). writes_of h d ≡ flights s.flight) (λ on. agrees.writes d) (λ off. agrees.writes d);
}
