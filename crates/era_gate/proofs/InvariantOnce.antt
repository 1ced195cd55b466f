-- No two writes that legal acts issue are of one command.
use Rattle.std.proofs.Common.{◌≡◌, ℕ, ◌+◌, ◌==◌, ◌||◌, Bool, true, false, List, [], ◌∷◌, refl, sym, ap, ◌∙◌, inl, inr}
use Rattle.std.specs.Prelude.{Contains}
use Rattle.era_base.specs.declared.ids.CmdId.{CmdId}
use Rattle.era_model.specs.declared.entry.Entry.{Entry}
use Rattle.era_model.specs.declared.event.Event.{Event}
use Rattle.era_model.specs.declared.event.Event.TheVariants.{Go}
use Rattle.era_model.specs.Events.{is_go_of}
use Rattle.era_gate.specs.declared.stays.Receipt.TheVariants.{OfStay}
use Rattle.era_gate.specs.Acts.{Act, Account, stripe_drew, keeper_drew, stay_began, stay_ended, era_moved, exchange_failed, after, entry, has_go, KeeperMayDraw, IsLegalFrom}
use Rattle.era_gate.specs.Drawn.{drawn}
use Rattle.era_gate.proofs.AgreesOnce.{has_go-drawn, has_go-begun, unissued}
use Rattle.era_gate.proofs.Choices.{clash}
use Rattle.era_gate.proofs.GatheredEntries.{front-cases, not-in_none}

-- the keeper issues no write
keeper-none : (n : ℕ) (a : Account) (event : Event) (id : CmdId) → KeeperMayDraw n a event → is_go_of id event ≡ true → has_go id (a.lane id.lane) ≡ false
keeper-none n a (Go other block era first bytes) id may is = absurd may
keeper-none n a event id may is = absurd (clash is refl)

-- a receipt stays, and a new one is had
still : (a b : Bool) → b ≡ true → (a || b) ≡ true
still true b is = refl
still false b is = is

newly : (a b : Bool) → a ≡ true → (a || b) ≡ true
newly true b is = refl
newly false b is = absurd (clash is refl)

-- an event in front of entries that aren't of the command
front-none : (id : CmdId) (e0 : Entry) (es : List Entry) (e : Entry) → (is_go_of id e0.event ≡ true → ⊥) → (Contains es e → is_go_of id e.event ≡ true → ⊥) → Contains (e0 ∷ es) e → is_go_of id e.event ≡ true → ⊥
front-none id e0 es e first rest is of = elim (front-cases e0 es e is) [
  | inl same ↦ first (ap (λ (x : Entry). is_go_of id x.event) same ∙ of)
  | inr later ↦ rest later of
]

-- where a write of the command was issued, none is later
none-later : (n : ℕ) (id : CmdId) (a : Account) (acts : List Act) (e : Entry) → has_go id (a.lane id.lane) ≡ true → IsLegalFrom n a acts → Contains (drawn a.places acts) e → is_go_of id e.event ≡ true → ⊥
none-later n id a [] e gone legal is of = absurd (not-in_none e is)
none-later n id a (stripe_drew k event ∷ acts) e gone legal is of = front-none id (entry a.places event) (drawn (a.places + 1) acts) e
    (λ go. clash gone (unissued a k event id legal.0.1.0 go))
    (none-later n id (after a (stripe_drew k event)) acts e (has_go-drawn id event a.places (a.lane id.lane) ∙ still (is_go_of id event) (has_go id (a.lane id.lane)) gone) legal.1) is of
none-later n id a (keeper_drew event ∷ acts) e gone legal is of = front-none id (entry a.places event) (drawn (a.places + 1) acts) e
    (λ go. clash gone (keeper-none n a event id legal.0.0 go))
    (none-later n id (after a (keeper_drew event)) acts e (has_go-drawn id event a.places (a.lane id.lane) ∙ still (is_go_of id event) (has_go id (a.lane id.lane)) gone) legal.1) is of
none-later n id a (stay_began stay ∷ acts) e gone legal is of = none-later n id (after a (stay_began stay)) acts e (has_go-begun id (id.lane == stay.id.lane) (a.lane id.lane) (OfStay stay) refl ∙ gone) legal.1 is of
none-later n id a (stay_ended k begun ∷ acts) e gone legal is of = none-later n id (after a (stay_ended k begun)) acts e gone legal.1 is of
none-later n id a (era_moved ∷ acts) e gone legal is of = none-later n id (after a era_moved) acts e gone legal.1 is of
none-later n id a (exchange_failed miss ∷ acts) e gone legal is of = none-later n id (after a (exchange_failed miss)) acts e gone legal.1 is of

-- two of them are one, where it is so of the later ones and none is later than the first
front-once : (id : CmdId) (e0 : Entry) (es : List Entry) (x y : Entry) → ((e : Entry) → is_go_of id e0.event ≡ true → Contains es e → is_go_of id e.event ≡ true → ⊥)
    → (Contains es x → Contains es y → x ≡ y) → Contains (e0 ∷ es) x → Contains (e0 ∷ es) y → is_go_of id x.event ≡ true → is_go_of id y.event ≡ true → x ≡ y
front-once id e0 es x y never rest first second is of = elim (front-cases e0 es x first) [
  | inl new ↦ elim (front-cases e0 es y second) [
    | inl newer ↦ sym new ∙ newer
    | inr later ↦ absurd (never y (ap (λ (e : Entry). is_go_of id e.event) new ∙ is) later of)
  ]
  | inr later ↦ elim (front-cases e0 es y second) [
    | inl new ↦ absurd (never x (ap (λ (e : Entry). is_go_of id e.event) new ∙ of) later is)
    | inr also ↦ rest later also
  ]
]

pub issued-once : (n : ℕ) (id : CmdId) (a : Account) (acts : List Act) (x y : Entry) → IsLegalFrom n a acts → Contains (drawn a.places acts) x → Contains (drawn a.places acts) y → is_go_of id x.event ≡ true → is_go_of id y.event ≡ true → x ≡ y
issued-once n id a [] x y legal first second is of = absurd (not-in_none x first)
issued-once n id a (stripe_drew k event ∷ acts) x y legal first second is of = front-once id (entry a.places event) (drawn (a.places + 1) acts) x y
    (λ e go later other. none-later n id (after a (stripe_drew k event)) acts e (has_go-drawn id event a.places (a.lane id.lane) ∙ newly (is_go_of id event) (has_go id (a.lane id.lane)) go) legal.1 later other)
    (λ one other. issued-once n id (after a (stripe_drew k event)) acts x y legal.1 one other is of) first second is of
issued-once n id a (keeper_drew event ∷ acts) x y legal first second is of = front-once id (entry a.places event) (drawn (a.places + 1) acts) x y
    (λ e go later other. none-later n id (after a (keeper_drew event)) acts e (has_go-drawn id event a.places (a.lane id.lane) ∙ newly (is_go_of id event) (has_go id (a.lane id.lane)) go) legal.1 later other)
    (λ one other. issued-once n id (after a (keeper_drew event)) acts x y legal.1 one other is of) first second is of
issued-once n id a (stay_began stay ∷ acts) x y legal first second is of = issued-once n id (after a (stay_began stay)) acts x y legal.1 first second is of
issued-once n id a (stay_ended k begun ∷ acts) x y legal first second is of = issued-once n id (after a (stay_ended k begun)) acts x y legal.1 first second is of
issued-once n id a (era_moved ∷ acts) x y legal first second is of = issued-once n id (after a era_moved) acts x y legal.1 first second is of
issued-once n id a (exchange_failed miss ∷ acts) x y legal first second is of = issued-once n id (after a (exchange_failed miss)) acts x y legal.1 first second is of
