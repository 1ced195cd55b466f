-- What legal acts keep of open writes: a command has one at most, of which its lane has a receipt, and the stripes have them; and of the failed exchange that waits for its event.
use Rattle.std.proofs.Common.{◌≡◌, ℕ, zero, suc, ◌+◌, ◌<◌, ◌≤◌, ◌≢◌, ◌⊎◌, ◌==◌, ◌||◌, cond, Bool, true, false, List, [], ◌∷◌, ◌++◌, Option, Some, None, inl, inr, refl, sym, ap, ◌∙◌, subst, arith, eqb-true}
use Rattle.std.specs.Prelude.{IfSome}
use Rattle.std.proofs.lemmas.Bool.{and_parts, or_left, or_right, or_cases, cond_both, cases_Bool, eqb-false, false≢true}
use Rattle.era_base.specs.declared.ids.CmdId.{CmdId}
use Rattle.era_model.specs.declared.event.Event.{Event}
use Rattle.era_model.specs.declared.event.Event.TheVariants.{Go, Done, Cut, Settle, Kept}
use Rattle.era_model.specs.declared.flight.FlightWrite.{FlightWrite}
use Rattle.era_model.specs.Events.{same_id, is_go_of}
use Rattle.era_gate.specs.declared.states.StripeState.{StripeState}
use Rattle.era_gate.specs.declared.stays.Miss.{Miss}
use Rattle.era_gate.specs.declared.stays.Receipt.{Receipt}
use Rattle.era_gate.specs.declared.stays.Receipt.TheVariants.{OfEvent, OfStay}
use Rattle.era_gate.specs.Acts.{Act, Account, stripe_drew, keeper_drew, stay_began, stay_ended, era_moved, exchange_failed, after, opened, entry, lane_of, stripe_after, stripe_with, stripe_in, stripe_out, flight_after, pending_after, has_go, count, inside_of, StripeMayDraw, MayAct}
use Rattle.era_gate.proofs.AgreesWrites.{flies}

-- no command has two open writes, each has its receipt, no stripe of a number from n on has one, and a pending failed exchange found from 1 to n stripes inside
pub record KeepsWrites (n : ℕ) (a : Account) : Type 0 where
  pub gone : (d : ℕ) (id : CmdId) → flies (a.stripe d).flight id ≡ true → has_go id (a.lane id.lane) ≡ true
  pub apart : (d e : ℕ) (id : CmdId) → flies (a.stripe d).flight id ≡ true → flies (a.stripe e).flight id ≡ true → d ≡ e
  pub low : (d : ℕ) → n ≤ d → (a.stripe d).flight ≡ None
  pub pending : IfSome a.keeper.pending (λ miss. (0 < miss.found) × (miss.found ≤ n))

abbrev id_of : ℕ → ℕ → CmdId
id_of lane number = record { lane = lane; number = number }

-- the same command
pub same_id-is : (first second : CmdId) → same_id first second ≡ true → first ≡ second
same_id-is first second same =
    let parts = and_parts (first.lane == second.lane) (first.number == second.number) same in
    ap (λ (l : ℕ). id_of l first.number) (eqb-true first.lane second.lane parts.0) ∙ ap (λ (m : ℕ). id_of second.lane m) (eqb-true first.number second.number parts.1)

-- a receipt behind others
has_go-behind : (id : CmdId) (rs : List Receipt) (place : ℕ) (event : Event) → has_go id (rs ++ OfEvent (entry place event) ∷ []) ≡ (is_go_of id event || has_go id rs)
has_go-behind id [] place event = refl
has_go-behind id (OfEvent e ∷ rs) place event = rw (has_go-behind id rs place event) (swapped (is_go_of id e.event) (is_go_of id event) (has_go id rs)) where
  swapped : (a b c : Bool) → (a || (b || c)) ≡ (b || (a || c))
  swapped true true c = refl
  swapped true false c = refl
  swapped false b c = refl
has_go-behind id (OfStay stay ∷ rs) place event = has_go-behind id rs place event

-- a stay's receipt behind others
has_go-stay : (id : CmdId) (rs : List Receipt) (r : Receipt) → has_go id (r ∷ []) ≡ false → has_go id (rs ++ r ∷ []) ≡ has_go id rs
has_go-stay id [] r none = none
has_go-stay id (OfEvent e ∷ rs) r none = ap (λ b. is_go_of id e.event || b) (has_go-stay id rs r none)
has_go-stay id (OfStay stay ∷ rs) r none = has_go-stay id rs r none

-- a write of another lane isn't of this command
go-other_lane : (id : CmdId) (event : Event) → (id.lane == lane_of event) ≡ false → is_go_of id event ≡ false
go-other_lane id (Go other block era first bytes) off =
    let apart : id.lane ≢ other.lane = eqb-false id.lane other.lane off in
    elim (cases_Bool (same_id other id)) [
      | inl same ↦ let is = same_id-is other id same in absurd (apart (sym (ap (λ (i : CmdId). i.lane) is)))
      | inr never ↦ never
    ]
go-other_lane id event off = refl

-- the receipts of a command's lane after an event
pub has_go-drawn : (id : CmdId) (event : Event) (place : ℕ) (rs : List Receipt) → has_go id (cond (id.lane == lane_of event) (rs ++ OfEvent (entry place event) ∷ []) rs) ≡ (is_go_of id event || has_go id rs)
has_go-drawn id event place rs = cond_both (id.lane == lane_of event) (rs ++ OfEvent (entry place event) ∷ []) rs (λ qs. has_go id qs ≡ (is_go_of id event || has_go id rs))
    (λ on. has_go-behind id rs place event)
    (λ off. rw (go-other_lane id event off) refl)

-- and after the begin of a stay
pub has_go-begun : (id : CmdId) (b : Bool) (rs : List Receipt) (r : Receipt) → has_go id (r ∷ []) ≡ false → has_go id (cond b (rs ++ r ∷ []) rs) ≡ has_go id rs
has_go-begun id b rs r none = cond_both b (rs ++ r ∷ []) rs (λ qs. has_go id qs ≡ has_go id rs) (λ on. has_go-stay id rs r none) (λ off. refl)

-- whose write is open after an event, had one open, or is issued by it
flies-after : (event : Event) (flight : Option FlightWrite) (id : CmdId) → flies (flight_after event flight) id ≡ true → (is_go_of id event || flies flight id) ≡ true
flies-after (Go other block era first bytes) flight id is = or_left (same_id other id) (flies flight id) is
flies-after (Done other) flight id is = absurd (false≢true is)
flies-after (Cut other faults) None id is = is
flies-after (Cut other faults) (Some write) id is = is
flies-after (Settle by cut bytes) flight id is = absurd (false≢true is)
flies-after event flight id is = is

-- the same by a stripe's number
pub flies-drawn : (a : Account) (k : ℕ) (event : Event) (d : ℕ) (id : CmdId) → flies (stripe_after (stripe_drew k event) a.places d (a.stripe d)).flight id ≡ true
    → (flies (a.stripe d).flight id ≡ true) ⊎ ((d ≡ k) × (is_go_of id event ≡ true))
flies-drawn a k event d id = cond_both (d == k) (stripe_with event a.places (a.stripe d)) (a.stripe d) (λ (s : StripeState). flies s.flight id ≡ true → (flies (a.stripe d).flight id ≡ true) ⊎ ((d ≡ k) × (is_go_of id event ≡ true)))
    (λ on is. elim (or_cases (is_go_of id event) (flies (a.stripe d).flight id) (flies-after event (a.stripe d).flight id is)) [
      | inl new ↦ inr (eqb-true d k on, new)
      | inr old ↦ inl old
    ])
    (λ off is. inl is)

-- a command that issues a write issued none before
pub unissued : (a : Account) (k : ℕ) (event : Event) (id : CmdId) → StripeMayDraw a k event → is_go_of id event ≡ true → has_go id (a.lane id.lane) ≡ false
unissued a k (Go other block era first bytes) id may is = subst (λ (i : CmdId). has_go i (a.lane i.lane) ≡ false) (same_id-is other id is) may.once
unissued a k event id may is = absurd (false≢true is)

-- a stripe's event keeps it
drew-keeps_writes : (n : ℕ) (a : Account) (k : ℕ) (event : Event) → KeepsWrites n a → k < n → StripeMayDraw a k event → KeepsWrites n (after a (stripe_drew k event))
drew-keeps_writes n a k event keeps lt may = record {
  gone = λ d id is. has_go-drawn id event a.places (a.lane id.lane) ∙ elim (flies-drawn a k event d id is) [
    | inl old ↦ or_right (is_go_of id event) (has_go id (a.lane id.lane)) (keeps.gone d id old)
    | inr new ↦ or_left (is_go_of id event) (has_go id (a.lane id.lane)) new.1
  ];
  apart = λ d e id first second. elim (flies-drawn a k event d id first) [
    | inl old ↦ elim (flies-drawn a k event e id second) [
      | inl other ↦ keeps.apart d e id old other
      | inr new ↦ absurd (issued d id new.1 old)
    ]
    | inr new ↦ elim (flies-drawn a k event e id second) [
      | inl other ↦ absurd (issued e id new.1 other)
      | inr newer ↦ new.0 ∙ sym newer.0
    ]
  ];
  low = λ d high. cond_both (d == k) (stripe_with event a.places (a.stripe d)) (a.stripe d) (λ (s : StripeState). s.flight ≡ None)
      (λ on. let same : d ≡ k = eqb-true d k on in absurd (omega arith))
      (λ off. keeps.low d high);
  pending = keeps.pending;
} where
  issued : (d : ℕ) (id : CmdId) → is_go_of id event ≡ true → (flies (a.stripe d).flight id ≡ true) → ⊥
  issued d id new old = false≢true (sym (unissued a k event id may new) ∙ keeps.gone d id old)

-- an act that changes no open write and loses no receipt keeps it
same-keeps_writes : (n : ℕ) (a b : Account) → ((d : ℕ) → (b.stripe d).flight ≡ (a.stripe d).flight) → ((id : CmdId) → has_go id (a.lane id.lane) ≡ true → has_go id (b.lane id.lane) ≡ true)
    → IfSome b.keeper.pending (λ miss. (0 < miss.found) × (miss.found ≤ n)) → KeepsWrites n a → KeepsWrites n b
same-keeps_writes n a b flight receipts pending keeps = record {
  gone = λ d id is. receipts id (keeps.gone d id (was d id is));
  apart = λ d e id first second. keeps.apart d e id (was d id first) (was e id second);
  low = λ d high. flight d ∙ keeps.low d high;
  pending = pending;
} where
  was : (d : ℕ) (id : CmdId) → flies (b.stripe d).flight id ≡ true → flies (a.stripe d).flight id ≡ true
  was d id is = subst (λ (f : Option FlightWrite). flies f id ≡ true) (flight d) is

-- what waits for its event after one of the keeper's
pending-drawn : (n : ℕ) (event : Event) (pending : Option Miss) → IfSome pending (λ miss. (0 < miss.found) × (miss.found ≤ n)) → IfSome (pending_after event pending) (λ miss. (0 < miss.found) × (miss.found ≤ n))
pending-drawn n (Kept id inside) pending is = tt
pending-drawn n event pending is = is

-- a count is at most n
count-below : (n : ℕ) (test : ℕ → Bool) → count n test ≤ n
count-below zero test = omega arith
count-below (suc n) test =
    let rest = count-below n test in
    cond_both (test n) 1 0 (λ k. k + count n test ≤ suc n) (λ on. omega arith) (λ off. omega arith)

-- each act keeps it
pub act-keeps_writes : (n : ℕ) (a : Account) (x : Act) → KeepsWrites n a → MayAct n a x → KeepsWrites n (after a x)
act-keeps_writes n a (stripe_drew k event) keeps may = drew-keeps_writes n a k event keeps may.0 may.1.0
act-keeps_writes n a (keeper_drew event) keeps may = same-keeps_writes n a (after a (keeper_drew event)) (λ d. refl)
    (λ id had. has_go-drawn id event a.places (a.lane id.lane) ∙ or_right (is_go_of id event) (has_go id (a.lane id.lane)) had)
    (pending-drawn n event a.keeper.pending keeps.pending) keeps
act-keeps_writes n a (stay_began stay) keeps may = same-keeps_writes n a (after a (stay_began stay))
    (λ d. cond_both (d == stay.stripe) (stripe_in stay (a.stripe d)) (a.stripe d) (λ (s : StripeState). s.flight ≡ (a.stripe d).flight) (λ on. refl) (λ off. refl))
    (λ id had. has_go-begun id (id.lane == stay.id.lane) (a.lane id.lane) (OfStay stay) refl ∙ had)
    keeps.pending keeps
act-keeps_writes n a (stay_ended k begun) keeps may = same-keeps_writes n a (after a (stay_ended k begun))
    (λ d. cond_both (d == k) (stripe_out (a.stripe d)) (a.stripe d) (λ (s : StripeState). s.flight ≡ (a.stripe d).flight) (λ on. refl) (λ off. refl))
    (λ id had. had) keeps.pending keeps
act-keeps_writes n a era_moved keeps may = same-keeps_writes n a (after a era_moved) (λ d. refl) (λ id had. had) keeps.pending keeps
act-keeps_writes n a (exchange_failed miss) keeps may = same-keeps_writes n a (after a (exchange_failed miss)) (λ d. refl) (λ id had. had)
    (may.some, rw may.found (count-below n (inside_of a))) keeps

-- the opening has it
pub opened-keeps_writes : (n era : ℕ) → KeepsWrites n (opened era)
opened-keeps_writes n era = record { gone = λ d id never. absurd (false≢true never); apart = λ d e id never other. absurd (false≢true never); low = λ d high. refl; pending = tt }
