-- What legal acts say of all that they drew, of open writes, and of stripes that the gate hasn't.
use Rattle.std.proofs.Common.{◌≡◌, ℕ, ◌+◌, ◌<◌, ◌≤◌, ◌⊎◌, ◌==◌, true, List, [], ◌∷◌, ◌++◌, length, Option, Some, None, refl, sym, ap, ◌∙◌, subst, inl, inr, arith, eqb-true}
use Rattle.std.specs.Prelude.{Contains}
use Rattle.std.proofs.lemmas.Bool.{cond_both, cases_eq, cases_Bool, MatchBool-at_true, MatchBool-at_false}
use Rattle.std.proofs.lemmas.List.Elements.{Contains-push, Contains-append_left}
use Rattle.era_base.specs.declared.ids.CmdId.{CmdId}
use Rattle.era_model.specs.declared.entry.Entry.{Entry}
use Rattle.era_model.specs.declared.event.Event.{Event}
use Rattle.era_model.specs.declared.event.Event.TheVariants.{Go, Done, Cut, Settle}
use Rattle.era_model.specs.declared.flight.FlightWrite.{FlightWrite}
use Rattle.era_model.specs.Journal.{AreNumberedFrom}
use Rattle.era_gate.specs.declared.states.StripeState.{StripeState}
use Rattle.era_gate.specs.Acts.{Act, Account, stripe_drew, stay_began, stay_ended, after, reach, opened, entry, lane_of, cut_flight, flight_after, stripe_with, stripe_in, stripe_out, MayAct, IsLegalFrom}
use Rattle.era_gate.specs.Gathered.{AscendFrom}
use Rattle.era_gate.specs.Loose.{stays_of}
use Rattle.era_gate.specs.Receipts.{entries_for}
use Rattle.era_gate.proofs.Accounts.{IsSound}
use Rattle.era_gate.proofs.AgreesWrites.{flies}
use Rattle.era_gate.proofs.Choices.{clash}
use Rattle.era_gate.proofs.GatheredEntries.{front-cases, not-in_none, at-front, behind}

-- numbered entries, at a place among them
pub numbered-at : (first : ℕ) (es : List Entry) (place : ℕ) → AreNumberedFrom first es → first ≤ place → place < first + length es → (e : Entry) × Contains es e × (e.place ≡ place)
numbered-at first [] place numbered low lt = absurd (omega arith)
numbered-at first (e ∷ es) place numbered low lt = elim (split-here first place low) [
  | inl here ↦ (e, at-front e es, numbered.0 ∙ here)
  | inr later ↦
      let rest = numbered-at (first + 1) es place numbered.1 later (omega arith) in
      (rest.0, behind e es rest.0 rest.1, rest.2)
] where
  split-here : (first place : ℕ) → first ≤ place → (first ≡ place) ⊎ (first + 1 ≤ place)
  split-here first place low = elim (cases_eq first place) [ inl here ↦ inl here | inr differs ↦ inr (omega arith) ]

-- those of a lane ascend
ascend-from : (first later : ℕ) (es : List Entry) → first ≤ later → AscendFrom later es → AscendFrom first es
ascend-from first later [] le ascend = tt
ascend-from first later (e ∷ es) le ascend = let above : later ≤ e.place = ascend.0 in (omega arith, ascend.1)

pub lane-ascends : (l first : ℕ) (es : List Entry) → AreNumberedFrom first es → AscendFrom first (entries_for l es)
lane-ascends l first [] numbered = tt
lane-ascends l first (e ∷ es) numbered =
    let at : e.place ≡ first = numbered.0 in
    let rest = lane-ascends l (first + 1) es numbered.1 in
    cond_both (l == lane_of e.event) (e ∷ entries_for l es) (entries_for l es) (AscendFrom first)
    (λ on. (omega arith, subst (λ k. AscendFrom (k + 1) (entries_for l es)) (sym at) rest)) (λ off. ascend-from first (first + 1) (entries_for l es) (omega arith) rest)

-- an entry of a lane is an entry, of that lane
pub lane-entry : (l : ℕ) (es : List Entry) (e : Entry) → Contains (entries_for l es) e → (lane_of e.event ≡ l) × Contains es e
lane-entry l [] e is = absurd (not-in_none e is)
lane-entry l (x ∷ es) e is = cond_both (l == lane_of x.event) (x ∷ entries_for l es) (entries_for l es) (λ fs. Contains fs e → (lane_of e.event ≡ l) × Contains (x ∷ es) e)
    (λ on has. elim (front-cases x (entries_for l es) e has) [
      | inl same ↦ (ap (λ (y : Entry). lane_of y.event) (sym same) ∙ sym (eqb-true l (lane_of x.event) on), subst (Contains (x ∷ es)) same (at-front x es))
      | inr later ↦ let rest = lane-entry l es e later in (rest.0, behind x es e rest.1)
    ])
    (λ off has. let rest = lane-entry l es e has in (rest.0, behind x es e rest.1)) is

-- and an entry of that lane is one of the lane's
pub entry-of_lane : (l : ℕ) (es : List Entry) (e : Entry) → (l == lane_of e.event) ≡ true → Contains es e → Contains (entries_for l es) e
entry-of_lane l [] e of is = absurd (not-in_none e is)
entry-of_lane l (x ∷ es) e of is = elim (front-cases x es e is) [
  | inl same ↦
      let here : (l == lane_of x.event) ≡ true = ap (λ (y : Entry). l == lane_of y.event) same ∙ of in
      rw here (subst (Contains (x ∷ entries_for l es)) same (at-front x (entries_for l es)))
  | inr later ↦
      let rest = entry-of_lane l es e of later in
      cond_both (l == lane_of x.event) (x ∷ entries_for l es) (entries_for l es) (λ fs. Contains fs e) (λ on. behind x (entries_for l es) e rest) (λ off. rest)
]

-- an open write is among its stripe's entries, as it was issued
abbrev pub IsIssued : List Entry → Option FlightWrite → Type 0
IsIssued entries None = Unit {0}
IsIssued entries (Some write) = (place : ℕ) × (era : ℕ) × Contains entries (entry place (Go write.id write.block era write.first write.bytes))

issued-more : (entries : List Entry) (e : Entry) (flight : Option FlightWrite) → IsIssued entries flight → IsIssued (entries ++ e ∷ []) flight
issued-more entries e None is = tt
issued-more entries e (Some write) is = (is.0, is.1, Contains-append_left entries (e ∷ []) (entry is.0 (Go write.id write.block is.1 write.first write.bytes)) is.2)

issued-cut : (entries : List Entry) (flight : Option FlightWrite) → IsIssued entries flight → IsIssued entries (cut_flight flight)
issued-cut entries None is = tt
issued-cut entries (Some write) is = is

issued-drawn : (place : ℕ) (event : Event) (s : StripeState) → IsIssued s.entries s.flight → IsIssued (s.entries ++ entry place event ∷ []) (flight_after event s.flight)
issued-drawn place (Go id block era first bytes) s is = (place, era, Contains-push s.entries (entry place (Go id block era first bytes)))
issued-drawn place (Done id) s is = tt
issued-drawn place (Cut id faults) s is = issued-cut (s.entries ++ entry place (Cut id faults) ∷ []) s.flight (issued-more s.entries (entry place (Cut id faults)) s.flight is)
issued-drawn place (Settle by cut bytes) s is = tt
issued-drawn place event s is = issued-more s.entries (entry place event) s.flight is

abbrev AreIssued : Account → Type 0
AreIssued a = (d : ℕ) → IsIssued (a.stripe d).entries (a.stripe d).flight

issued-act : (a : Account) (x : Act) → AreIssued a → AreIssued (after a x)
issued-act a (stripe_drew k event) is d = cond_both (d == k) (stripe_with event a.places (a.stripe d)) (a.stripe d) (λ (s : StripeState). IsIssued s.entries s.flight) (λ on. issued-drawn a.places event (a.stripe d) (is d)) (λ off. is d)
issued-act a (stay_began stay) is d = cond_both (d == stay.stripe) (stripe_in stay (a.stripe d)) (a.stripe d) (λ (s : StripeState). IsIssued s.entries s.flight) (λ on. is d) (λ off. is d)
issued-act a (stay_ended k begun) is d = cond_both (d == k) (stripe_out (a.stripe d)) (a.stripe d) (λ (s : StripeState). IsIssued s.entries s.flight) (λ on. is d) (λ off. is d)
issued-act a x is d = is d

issued-reach : (a : Account) (acts : List Act) → AreIssued a → AreIssued (reach a acts)
issued-reach a [] is = is
issued-reach a (x ∷ acts) is = issued-reach (after a x) acts (issued-act a x is)

pub all-issued : (era : ℕ) (acts : List Act) (d : ℕ) → IsIssued ((reach (opened era) acts).stripe d).entries ((reach (opened era) acts).stripe d).flight
all-issued era acts = issued-reach (opened era) acts (λ d. tt)

-- a stripe that the gate hasn't has no stay
no-stay : (n : ℕ) (a : Account) (x : Act) (d : ℕ) → n ≤ d → MayAct n a x → stays_of a d ≡ [] → stays_of (after a x) d ≡ []
no-stay n a (stripe_drew k event) d high may is = cond_both (d == k) (stripe_with event a.places (a.stripe d)) (a.stripe d) (λ (s : StripeState). s.stays ≡ []) (λ on. is) (λ off. is)
no-stay n a (stay_began stay) d high may is = cond_both (d == stay.stripe) (stripe_in stay (a.stripe d)) (a.stripe d) (λ (s : StripeState). s.stays ≡ [])
    (λ on. let same = eqb-true d stay.stripe on in let low = may.low in absurd (omega (arith, same, low))) (λ off. is)
no-stay n a (stay_ended k begun) d high may is = cond_both (d == k) (stripe_out (a.stripe d)) (a.stripe d) (λ (s : StripeState). s.stays ≡ []) (λ on. is) (λ off. is)
no-stay n a x d high may is = is

no-stays : (n : ℕ) (a : Account) (acts : List Act) (d : ℕ) → n ≤ d → IsLegalFrom n a acts → stays_of a d ≡ [] → stays_of (reach a acts) d ≡ []
no-stays n a [] d high legal is = is
no-stays n a (x ∷ acts) d high legal is = no-stays n (after a x) acts d high legal.1 (no-stay n a x d high legal.0 is)

pub opened-no_stays : (n era : ℕ) (acts : List Act) (d : ℕ) → n ≤ d → IsLegalFrom n (opened era) acts → stays_of (reach (opened era) acts) d ≡ []
opened-no_stays n era acts d high legal = no-stays n (opened era) acts d high legal refl

-- the era of the switches that are drawn is the word's, or the one before it, in which no write is open
abbrev IsBehind : ℕ → Account → Type 0
IsBehind n a = (a.era + 1 ≡ a.keeper.era) × ((d : ℕ) → d < n → (a.stripe d).flight ≡ None)

pub era-bound : (n : ℕ) (a : Account) → IsSound n a → a.era ≤ a.keeper.era
era-bound n a sound = elim (cases_Bool a.keeper.switched) [
  | inl on ↦ let same = MatchBool-at_true (a.era ≡ a.keeper.era) (IsBehind n a) on sound.switch in omega (arith, same)
  | inr off ↦ let next = (MatchBool-at_false (a.era ≡ a.keeper.era) (IsBehind n a) off sound.switch).0 in omega (arith, next)
]

pub open-era : (n : ℕ) (a : Account) → IsSound n a → (d : ℕ) (id : CmdId) → d < n → flies (a.stripe d).flight id ≡ true → a.era ≡ a.keeper.era
open-era n a sound d id lt flying = elim (cases_Bool a.keeper.switched) [
  | inl on ↦ MatchBool-at_true (a.era ≡ a.keeper.era) (IsBehind n a) on sound.switch
  | inr off ↦
      let none = (MatchBool-at_false (a.era ≡ a.keeper.era) (IsBehind n a) off sound.switch).1 d lt in
      absurd (clash flying (ap (λ (f : Option FlightWrite). flies f id) none))
]
