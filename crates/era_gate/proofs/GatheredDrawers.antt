-- Stripes and keeper have just what was drawn, in the order of places; and what is said of their entries is said of the acts.
use Rattle.std.proofs.Common.{◌≡◌, ℕ, ◌+◌, ◌<◌, ◌⊎◌, ◌==◌, List, [], ◌∷◌, inl, inr, refl, sym, subst, arith, eq-eqb}
use Rattle.std.specs.Prelude.{All, Contains}
use Rattle.std.proofs.lemmas.Bool.{cond_both}
use Rattle.std.proofs.lemmas.List.Elements.{All-head, All-tail, All-weaker, All-contains_itself}
use Rattle.era_model.specs.declared.entry.Entry.{Entry}
use Rattle.era_model.specs.declared.event.Event.{Event}
use Rattle.era_gate.specs.Acts.{Act, Account, stripe_drew, keeper_drew, stay_began, stay_ended, era_moved, exchange_failed, after, reach, opened, entry, IsLegalFrom}
use Rattle.era_gate.specs.Drawn.{drawn, drawn_by_stripe, drawn_by_keeper}
use Rattle.era_gate.specs.Gathered.{AreGathered, AreOwnWrites, IsOfDrawer}
use Rattle.era_gate.specs.ModelLaw.{IsOwnWrite}
use Rattle.era_gate.proofs.AgreesMeets.{AreOwnActs, drawn-numbered}
use Rattle.era_gate.proofs.DrawnEntries.{stripe-drawn, keeper-drawn, places-drawn}
use Rattle.era_gate.proofs.GatheredEntries.{at-front, behind, front-cases, stripe-in_drawn, keeper-in_drawn, same-numbered}

-- what one of n stripes, or the keeper, drew
abbrev IsDrawnBy : ℕ → ℕ → List Act → Entry → Type 0
IsDrawnBy n place acts e = ((d : ℕ) × (d < n) × Contains (drawn_by_stripe d place acts) e) ⊎ Contains (drawn_by_keeper place acts) e

-- a stripe's entries with an event of a stripe in front
drew-behind : (k : ℕ) (event : Event) (d place : ℕ) (acts : List Act) (e : Entry) → Contains (drawn_by_stripe d (place + 1) acts) e → Contains (drawn_by_stripe d place (stripe_drew k event ∷ acts)) e
drew-behind k event d place acts e is = cond_both (d == k) (entry place event ∷ drawn_by_stripe d (place + 1) acts) (drawn_by_stripe d (place + 1) acts) (λ es. Contains es e)
    (λ on. behind (entry place event) (drawn_by_stripe d (place + 1) acts) e is) (λ off. is)

-- the stripe that drew has it at the front
drew-front : (k : ℕ) (event : Event) (place : ℕ) (acts : List Act) → Contains (drawn_by_stripe k place (stripe_drew k event ∷ acts)) (entry place event)
drew-front k event place acts = rw (eq-eqb k k refl) (at-front (entry place event) (drawn_by_stripe k (place + 1) acts))

-- each entry that legal acts draw is drawn by a stripe below n, or by the keeper
has-drawer : (n : ℕ) (a : Account) (place : ℕ) (acts : List Act) (e : Entry) → IsLegalFrom n a acts → Contains (drawn place acts) e → IsDrawnBy n place acts e
has-drawer n a place [] e legal is = inr is
has-drawer n a place (stripe_drew k event ∷ acts) e legal is = elim (front-cases (entry place event) (drawn (place + 1) acts) e is) [
  | inl same ↦ inl (k, legal.0.0, subst (λ (x : Entry). Contains (drawn_by_stripe k place (stripe_drew k event ∷ acts)) x) same (drew-front k event place acts))
  | inr later ↦ elim (has-drawer n (after a (stripe_drew k event)) (place + 1) acts e legal.1 later) [
    | inl of_stripe ↦ inl (of_stripe.0, of_stripe.1, drew-behind k event of_stripe.0 place acts e of_stripe.2)
    | inr of_keeper ↦ inr of_keeper
  ]
]
has-drawer n a place (keeper_drew event ∷ acts) e legal is = elim (front-cases (entry place event) (drawn (place + 1) acts) e is) [
  | inl same ↦ inr (subst (λ (x : Entry). Contains (entry place event ∷ drawn_by_keeper (place + 1) acts) x) same (at-front (entry place event) (drawn_by_keeper (place + 1) acts)))
  | inr later ↦ elim (has-drawer n (after a (keeper_drew event)) (place + 1) acts e legal.1 later) [
    | inl of_stripe ↦ inl of_stripe
    | inr of_keeper ↦ inr (behind (entry place event) (drawn_by_keeper (place + 1) acts) e of_keeper)
  ]
]
has-drawer n a place (stay_began stay ∷ acts) e legal is = has-drawer n (after a (stay_began stay)) place acts e legal.1 is
has-drawer n a place (stay_ended k begun ∷ acts) e legal is = has-drawer n (after a (stay_ended k begun)) place acts e legal.1 is
has-drawer n a place (era_moved ∷ acts) e legal is = has-drawer n (after a era_moved) place acts e legal.1 is
has-drawer n a place (exchange_failed miss ∷ acts) e legal is = has-drawer n (after a (exchange_failed miss)) place acts e legal.1 is

-- the same in words of the account
pub all-have_drawers : (n era : ℕ) (acts : List Act) → IsLegalFrom n (opened era) acts → All (IsOfDrawer n (reach (opened era) acts)) (drawn 0 acts)
all-have_drawers n era acts legal = All-weaker (Contains (drawn 0 acts)) (IsOfDrawer n (reach (opened era) acts))
    (λ e is. elim (has-drawer n (opened era) 0 acts e legal is) [
      | inl of_stripe ↦ inl (of_stripe.0, of_stripe.1, subst (λ (es : List Entry). Contains es e) (sym (stripe-drawn of_stripe.0 (opened era) acts)) of_stripe.2)
      | inr of_keeper ↦ inr (subst (λ (es : List Entry). Contains es e) (sym (keeper-drawn (opened era) acts)) of_keeper)
    ])
    (drawn 0 acts) (All-contains_itself (drawn 0 acts))

-- gathered entries are just what was drawn
pub gathered-drawn : (n era : ℕ) (acts : List Act) (entries : List Entry) → AreGathered n (reach (opened era) acts) entries → entries ≡ drawn 0 acts
gathered-drawn n era acts entries gathered =
    let places = places-drawn (opened era) acts in
    same-numbered 0 (drawn 0 acts) entries (drawn-numbered 0 acts) gathered.numbered (omega (arith, places, gathered.size))
    (All-weaker (IsOfDrawer n (reach (opened era) acts)) (Contains (drawn 0 acts))
    (λ e of. elim of [
      | inl of_stripe ↦ stripe-in_drawn of_stripe.0 0 acts e (subst (λ (es : List Entry). Contains es e) (stripe-drawn of_stripe.0 (opened era) acts) of_stripe.2)
      | inr of_keeper ↦ keeper-in_drawn 0 acts e (subst (λ (es : List Entry). Contains es e) (keeper-drawn (opened era) acts) of_keeper)
    ])
    entries gathered.drawn)

-- where each stripe's entries are of its own blocks, so are the acts
own-acts : (of_block : ℕ → ℕ) (n : ℕ) (a : Account) (place : ℕ) (acts : List Act) → IsLegalFrom n a acts
    → ((d : ℕ) → d < n → All (λ (e : Entry). IsOwnWrite of_block d e.event) (drawn_by_stripe d place acts)) → AreOwnActs of_block acts
own-acts of_block n a place [] legal own = tt
own-acts of_block n a place (stripe_drew k event ∷ acts) legal own =
    let mine = rw (eq-eqb k k refl) at (own k legal.0.0) in (
      All-head (λ (e : Entry). IsOwnWrite of_block k e.event) (entry place event) (drawn_by_stripe k (place + 1) acts) mine,
      own-acts of_block n (after a (stripe_drew k event)) (place + 1) acts legal.1
          (λ d lt. cond_both (d == k) (entry place event ∷ drawn_by_stripe d (place + 1) acts) (drawn_by_stripe d (place + 1) acts)
          (λ es. All (λ (e : Entry). IsOwnWrite of_block d e.event) es → All (λ (e : Entry). IsOwnWrite of_block d e.event) (drawn_by_stripe d (place + 1) acts))
          (λ on. All-tail (λ (e : Entry). IsOwnWrite of_block d e.event) (entry place event) (drawn_by_stripe d (place + 1) acts)) (λ off rest. rest) (own d lt)),
    )
own-acts of_block n a place (keeper_drew event ∷ acts) legal own = own-acts of_block n (after a (keeper_drew event)) (place + 1) acts legal.1 own
own-acts of_block n a place (stay_began stay ∷ acts) legal own = own-acts of_block n (after a (stay_began stay)) place acts legal.1 own
own-acts of_block n a place (stay_ended k begun ∷ acts) legal own = own-acts of_block n (after a (stay_ended k begun)) place acts legal.1 own
own-acts of_block n a place (era_moved ∷ acts) legal own = own-acts of_block n (after a era_moved) place acts legal.1 own
own-acts of_block n a place (exchange_failed miss ∷ acts) legal own = own-acts of_block n (after a (exchange_failed miss)) place acts legal.1 own

pub own-from_entries : (of_block : ℕ → ℕ) (n era : ℕ) (acts : List Act) → IsLegalFrom n (opened era) acts → AreOwnWrites of_block n (reach (opened era) acts) → AreOwnActs of_block acts
own-from_entries of_block n era acts legal own = own-acts of_block n (opened era) 0 acts legal
    (λ d lt. subst (λ (es : List Entry). All (λ (e : Entry). IsOwnWrite of_block d e.event) es) (stripe-drawn d (opened era) acts) (own d lt))
