-- No place is drawn twice: neither by two stripes, nor by a stripe and the keeper.
use Rattle.std.proofs.Common.{◌≡◌, ℕ, ◌+◌, ◌≤◌, ◌⊎◌, ◌==◌, List, [], ◌∷◌, inl, inr, sym, ap, ◌∙◌, subst, arith, eqb-true}
use Rattle.std.specs.Prelude.{Contains}
use Rattle.std.proofs.lemmas.Bool.{cond_both}
use Rattle.era_model.specs.declared.entry.Entry.{Entry}
use Rattle.era_model.specs.declared.event.Event.{Event}
use Rattle.era_gate.specs.Acts.{Act, stripe_drew, keeper_drew, reach, opened, entry}
use Rattle.era_gate.specs.Drawn.{drawn_by_stripe, drawn_by_keeper}
use Rattle.era_gate.specs.Gathered.{AscendFrom}
use Rattle.era_gate.proofs.DrawnEntries.{stripe-drawn, keeper-drawn}
use Rattle.era_gate.proofs.GatheredEntries.{front-cases, not-in_none}
use Rattle.era_gate.proofs.Ascending.{stripe-ascend, keeper-ascend}

-- entries that ascend have no smaller place
ascend-above : (place : ℕ) (es : List Entry) (e : Entry) → AscendFrom place es → Contains es e → place ≤ e.place
ascend-above place [] e ascend is = absurd (not-in_none e is)
ascend-above place (first ∷ es) e ascend is = elim (front-cases first es e is) [
  | inl same ↦ let at = ap (λ (x : Entry). x.place) same in omega (arith, at, ascend.0)
  | inr later ↦ let above = ascend-above (first.place + 1) es e ascend.1 later in omega (arith, above, ascend.0)
]

-- an entry of a stripe is the first one, or a later one
stripe-cases : (d k place : ℕ) (event : Event) (acts : List Act) (e : Entry) → Contains (drawn_by_stripe d place (stripe_drew k event ∷ acts)) e
    → ((d ≡ k) × (entry place event ≡ e)) ⊎ Contains (drawn_by_stripe d (place + 1) acts) e
stripe-cases d k place event acts e = cond_both (d == k) (entry place event ∷ drawn_by_stripe d (place + 1) acts) (drawn_by_stripe d (place + 1) acts)
    (λ es. Contains es e → ((d ≡ k) × (entry place event ≡ e)) ⊎ Contains (drawn_by_stripe d (place + 1) acts) e)
    (λ on is. elim (front-cases (entry place event) (drawn_by_stripe d (place + 1) acts) e is) [
      | inl same ↦ inl (eqb-true d k on, same)
      | inr later ↦ inr later
    ])
    (λ off later. inr later)

-- the first place isn't among the later ones of a stripe, nor of the keeper
not-in_stripe : (d place : ℕ) (event : Event) (acts : List Act) (x y : Entry) → entry place event ≡ x → Contains (drawn_by_stripe d (place + 1) acts) y → x.place ≡ y.place → ⊥
not-in_stripe d place event acts x y same later at =
    let here = ap (λ (e : Entry). e.place) same in
    let above = ascend-above (place + 1) (drawn_by_stripe d (place + 1) acts) y (stripe-ascend d (place + 1) acts) later in
    absurd (omega (arith, here, above, at))

not-in_keeper : (place : ℕ) (event : Event) (acts : List Act) (x y : Entry) → entry place event ≡ x → Contains (drawn_by_keeper (place + 1) acts) y → x.place ≡ y.place → ⊥
not-in_keeper place event acts x y same later at =
    let here = ap (λ (e : Entry). e.place) same in
    let above = ascend-above (place + 1) (drawn_by_keeper (place + 1) acts) y (keeper-ascend (place + 1) acts) later in
    absurd (omega (arith, here, above, at))

-- two stripes with one place are one
stripes-apart : (place : ℕ) (acts : List Act) (d e : ℕ) (x y : Entry) → Contains (drawn_by_stripe d place acts) x → Contains (drawn_by_stripe e place acts) y → x.place ≡ y.place → d ≡ e
stripes-apart place [] d e x y first second at = absurd (not-in_none x first)
stripes-apart place (stripe_drew k event ∷ acts) d e x y first second at = elim (stripe-cases d k place event acts x first) [
  | inl new ↦ elim (stripe-cases e k place event acts y second) [
    | inl newer ↦ new.0 ∙ sym newer.0
    | inr later ↦ absurd (not-in_stripe e place event acts x y new.1 later at)
  ]
  | inr later ↦ elim (stripe-cases e k place event acts y second) [
    | inl new ↦ absurd (not-in_stripe d place event acts y x new.1 later (sym at))
    | inr also ↦ stripes-apart (place + 1) acts d e x y later also at
  ]
]
stripes-apart place (keeper_drew event ∷ acts) d e x y first second at = stripes-apart (place + 1) acts d e x y first second at
stripes-apart place (act ∷ acts) d e x y first second at = stripes-apart place acts d e x y first second at

-- no stripe and the keeper have one place
keeper-apart : (place : ℕ) (acts : List Act) (d : ℕ) (x y : Entry) → Contains (drawn_by_stripe d place acts) x → Contains (drawn_by_keeper place acts) y → x.place ≡ y.place → ⊥
keeper-apart place [] d x y first second at = absurd (not-in_none x first)
keeper-apart place (stripe_drew k event ∷ acts) d x y first second at = elim (stripe-cases d k place event acts x first) [
  | inl new ↦ not-in_keeper place event acts x y new.1 second at
  | inr later ↦ keeper-apart (place + 1) acts d x y later second at
]
keeper-apart place (keeper_drew event ∷ acts) d x y first second at = elim (front-cases (entry place event) (drawn_by_keeper (place + 1) acts) y second) [
  | inl new ↦ not-in_stripe d place event acts y x new first (sym at)
  | inr later ↦ keeper-apart (place + 1) acts d x y first later at
]
keeper-apart place (act ∷ acts) d x y first second at = keeper-apart place acts d x y first second at

-- the same in words of the account
pub opened-apart : (era d e : ℕ) (acts : List Act) (x y : Entry) → Contains ((reach (opened era) acts).stripe d).entries x → Contains ((reach (opened era) acts).stripe e).entries y → x.place ≡ y.place → d ≡ e
opened-apart era d e acts x y first second at = stripes-apart 0 acts d e x y
    (subst (λ (es : List Entry). Contains es x) (stripe-drawn d (opened era) acts) first) (subst (λ (es : List Entry). Contains es y) (stripe-drawn e (opened era) acts) second) at

pub opened-keeper_apart : (era d : ℕ) (acts : List Act) (x y : Entry) → Contains ((reach (opened era) acts).stripe d).entries x → Contains (reach (opened era) acts).keeper.entries y → x.place ≡ y.place → ⊥
opened-keeper_apart era d acts x y first second at = keeper-apart 0 acts d x y
    (subst (λ (es : List Entry). Contains es x) (stripe-drawn d (opened era) acts) first) (subst (λ (es : List Entry). Contains es y) (keeper-drawn (opened era) acts) second) at
