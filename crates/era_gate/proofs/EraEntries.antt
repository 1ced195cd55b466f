-- What legal acts keep of marks, switches and writes among entries.
use Rattle.std.proofs.Common.{◌≡◌, ℕ, ◌<◌, ◌≤◌, ◌⊎◌, ◌==◌, true, List, Some, inl, inr, refl, ap, subst, eqb-true, eq-eqb}
use Rattle.std.specs.Prelude.{Contains}
use Rattle.std.proofs.lemmas.Bool.{and_from, cond_both}
use Rattle.std.proofs.lemmas.List.Elements.{Contains-push_cases}
use Rattle.era_base.specs.declared.ids.CmdId.{CmdId}
use Rattle.era_model.specs.declared.entry.Entry.{Entry}
use Rattle.era_model.specs.declared.event.Event.{Event}
use Rattle.era_model.specs.declared.event.Event.TheVariants.{Mark, Go, Done, Cut, Settle, Unsettled, Roll}
use Rattle.era_model.specs.Events.{same_id, is_go_of}
use Rattle.era_gate.specs.declared.states.StripeState.{StripeState}
use Rattle.era_gate.specs.Acts.{Account, stripe_drew, entry, stripe_after, stripe_with, has_go, StripeMayDraw}
use Rattle.era_gate.specs.Eras.{MarkPrecedesWrite, WriteBeginsInEra, WriteEndsInEra, write_of_event}
use Rattle.era_gate.proofs.AgreesWrites.{flies, flies-writing, flies-cut}

-- an entry of a stripe that is a write's issue
abbrev pub HasGo : Account → ℕ → ℕ → CmdId → ℕ → ℕ → ℕ → List ℕ → Type 0
HasGo a d place id block era first bytes = Contains (a.stripe d).entries (entry place (Go id block era first bytes))

-- entries are of places that were drawn; marks are among the keeper's; no switch and no write is of a later era; each write has its receipt, and is of the present era while it is open
pub record KeepsEras (a : Account) : Type 0 where
  pub drawn : (d : ℕ) (e : Entry) → Contains (a.stripe d).entries e → e.place < a.places
  pub kept : (e : Entry) → Contains a.keeper.entries e → e.place < a.places
  pub marks : (block era : ℕ) → a.marked block era ≡ true → (place : ℕ) × (by : CmdId) × Contains a.keeper.entries (entry place (Mark by block era))
  pub rolls : (place : ℕ) (by : CmdId) (next : ℕ) → Contains a.keeper.entries (entry place (Roll by next)) → next ≤ a.era
  pub gone : (d place : ℕ) (id : CmdId) (block era first : ℕ) (bytes : List ℕ) → HasGo a d place id block era first bytes → has_go id (a.lane id.lane) ≡ true
  pub eras : (d place : ℕ) (id : CmdId) (block era first : ℕ) (bytes : List ℕ) → HasGo a d place id block era first bytes → era ≤ a.era
  pub present : (d place : ℕ) (id : CmdId) (block era first : ℕ) (bytes : List ℕ) → HasGo a d place id block era first bytes → flies (a.stripe d).flight id ≡ true → era ≡ a.era
  pub precede : (d : ℕ) → MarkPrecedesWrite a d
  pub ends : (d : ℕ) → WriteEndsInEra a d
  pub begins : (d : ℕ) → WriteBeginsInEra a d

-- an entry after a stripe's event is an earlier one, or the new one
pub drew-cases : (a : Account) (k : ℕ) (event : Event) (d : ℕ) (e : Entry) → Contains (stripe_after (stripe_drew k event) a.places d (a.stripe d)).entries e
    → Contains (a.stripe d).entries e ⊎ ((d ≡ k) × (entry a.places event ≡ e))
drew-cases a k event d e = cond_both (d == k) (stripe_with event a.places (a.stripe d)) (a.stripe d) (λ (s : StripeState). Contains s.entries e → Contains (a.stripe d).entries e ⊎ ((d ≡ k) × (entry a.places event ≡ e)))
    (λ on is. elim (Contains-push_cases (a.stripe d).entries (entry a.places event) e is) [
      | inl old ↦ inl old
      | inr new ↦ inr (eqb-true d k on, new)
    ])
    (λ off old. inl old)

-- the event and the place of an entry that is the new one
pub event-is : (place at : ℕ) (event wanted : Event) → entry place event ≡ entry at wanted → event ≡ wanted
event-is place at event wanted same = ap (λ (e : Entry). e.event) same

pub place-is : (place at : ℕ) (event wanted : Event) → entry place event ≡ entry at wanted → place ≡ at
place-is place at event wanted same = ap (λ (e : Entry). e.place) same

-- a command is itself
pub self-id : (id : CmdId) → same_id id id ≡ true
self-id id = and_from (id.lane == id.lane) (id.number == id.number) (eq-eqb id.lane id.lane refl) (eq-eqb id.number id.number refl)

-- an event of a command's write issues it, or finds it open
pub of-write : (a : Account) (k : ℕ) (event : Event) (id : CmdId) → StripeMayDraw a k event → write_of_event event ≡ Some id → (is_go_of id event ≡ true) ⊎ (flies (a.stripe k).flight id ≡ true)
of-write a k (Go other block era first bytes) id may is = let same : other ≡ id = cc in inl (subst (λ (i : CmdId). same_id other i ≡ true) same (self-id other))
of-write a k (Done other) id may is = let same : other ≡ id = cc in inr (subst (λ (i : CmdId). flies (a.stripe k).flight i ≡ true) same (flies-writing (a.stripe k).flight other may))
of-write a k (Cut other faults) id may is = let same : other ≡ id = cc in inr (subst (λ (i : CmdId). flies (a.stripe k).flight i ≡ true) same (flies-writing (a.stripe k).flight other may))
of-write a k (Settle by other bytes) id may is = let same : other ≡ id = cc in inr (subst (λ (i : CmdId). flies (a.stripe k).flight i ≡ true) same (flies-cut (a.stripe k).flight other may))
of-write a k (Unsettled by other faults) id may is = let same : other ≡ id = cc in inr (subst (λ (i : CmdId). flies (a.stripe k).flight i ≡ true) same (flies-cut (a.stripe k).flight other may))
of-write a k event id may is = absurd (cc)
