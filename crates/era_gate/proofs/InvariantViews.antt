-- What stands among the entries of views: just what was drawn, each in the view of its stripe or of the keeper.
use Rattle.std.proofs.Common.{◌≡◌, ℕ, ◌<◌, ◌⊎◌, ◌==◌, true, List, [], ◌∷◌, refl, sym, ap, ◌∙◌, subst, inl, inr, eq-eqb, eqb-true}
use Rattle.std.specs.Prelude.{Contains}
use Rattle.std.proofs.lemmas.Bool.{or_cases}
use Rattle.std.proofs.lemmas.List.Elements.{All-contains, Contains-append_left, Contains-append_right, Contains-append_cases}
use Rattle.era_model.specs.declared.entry.Entry.{Entry}
use Rattle.era_gate.specs.declared.states.StripeState.{StripeState}
use Rattle.era_gate.specs.declared.states.KeeperState.{KeeperState}
use Rattle.era_gate.specs.declared.parts.StripePart.{StripePart}
use Rattle.era_gate.specs.declared.parts.KeeperPart.{KeeperPart}
use Rattle.era_gate.specs.declared.parts.View.{View}
use Rattle.era_gate.specs.declared.plan.Plan.{Plan}
use Rattle.era_gate.specs.Acts.{Account, reach, opened}
use Rattle.era_gate.specs.Drawn.{drawn}
use Rattle.era_gate.specs.Gathered.{IsOfDrawer}
use Rattle.era_gate.specs.Invariant.{stripe_entries, keeper_entries, StandsIn}
use Rattle.era_gate.specs.Parts.{has_stripe, has_keeper}
use Rattle.era_gate.specs.Rule.{Hidden, Standing, StripeFits, KeeperFits, Each}
use Rattle.era_gate.proofs.Choices.{clash}
use Rattle.era_gate.proofs.DrawnEntries.{stripe-drawn, keeper-drawn}
use Rattle.era_gate.proofs.Fitting.{all_map}
use Rattle.era_gate.proofs.GatheredDrawers.{all-have_drawers}
use Rattle.era_gate.proofs.GatheredEntries.{not-in_none, stripe-in_drawn, keeper-in_drawn}
use Rattle.era_gate.proofs.GatheredOnce.{opened-apart, opened-keeper_apart}
use Rattle.era_gate.proofs.InvariantParts.{StripeShows, KeeperShows, or-left, or-right}
use Rattle.era_gate.proofs.Splitting.{stripe_owned, keeper_owned}

-- a stripe that has the entry is among the parts
pub stripe-entry : (plan : Plan) (m : Hidden) (parts : List StripePart) (e : Entry) → Each (StripeShows plan m) parts → Contains (stripe_entries parts) e
    → (d : ℕ) × (d < plan.stripes) × (has_stripe d parts ≡ true) × Contains (m.account.stripe d).entries e
stripe-entry plan m [] e shows is = absurd (not-in_none e is)
stripe-entry plan m (part ∷ parts) e shows is = elim (Contains-append_cases part.state.entries (stripe_entries parts) e is) [
  | inl here ↦ (part.stripe, shows.0.1.low, or-left (part.stripe == part.stripe) (has_stripe part.stripe parts) (eq-eqb part.stripe part.stripe refl), subst (λ (s : StripeState). Contains s.entries e) (sym shows.0.1.state) here)
  | inr later ↦
      let rest = stripe-entry plan m parts e shows.1 later in
      (rest.0, rest.1, or-right (rest.0 == part.stripe) (has_stripe rest.0 parts) rest.2, rest.3)
]

pub stripe-has : (plan : Plan) (m : Hidden) (d : ℕ) (parts : List StripePart) (e : Entry) → Each (StripeShows plan m) parts → has_stripe d parts ≡ true → Contains (m.account.stripe d).entries e → Contains (stripe_entries parts) e
stripe-has plan m d [] e shows has is = absurd (clash has refl)
stripe-has plan m d (part ∷ parts) e shows has is = elim (or_cases (d == part.stripe) (has_stripe d parts) has) [
  | inl on ↦
      let same : m.account.stripe d ≡ part.state = ap m.account.stripe (eqb-true d part.stripe on) ∙ shows.0.1.state in
      Contains-append_left part.state.entries (stripe_entries parts) e (subst (λ (s : StripeState). Contains s.entries e) same is)
  | inr later ↦ Contains-append_right part.state.entries (stripe_entries parts) e (stripe-has plan m d parts e shows.1 later is)
]

-- the keeper's entries
pub keeper-entry : (m : Hidden) (parts : List KeeperPart) (e : Entry) → Each (KeeperShows m) parts → Contains (keeper_entries parts) e → (has_keeper parts ≡ true) × Contains m.account.keeper.entries e
keeper-entry m [] e shows is = absurd (not-in_none e is)
keeper-entry m (part ∷ parts) e shows is = elim (Contains-append_cases part.state.entries (keeper_entries parts) e is) [
  | inl here ↦ (refl, subst (λ (s : KeeperState). Contains s.entries e) (sym shows.0.1.state) here)
  | inr later ↦ (refl, (keeper-entry m parts e shows.1 later).1)
]

pub keeper-has : (m : Hidden) (parts : List KeeperPart) (e : Entry) → Each (KeeperShows m) parts → has_keeper parts ≡ true → Contains m.account.keeper.entries e → Contains (keeper_entries parts) e
keeper-has m [] e shows has is = absurd (clash has refl)
keeper-has m (part ∷ parts) e shows has is = Contains-append_left part.state.entries (keeper_entries parts) e (subst (λ (s : KeeperState). Contains s.entries e) shows.0.1.state is)

-- who drew an entry, in the view of that number
abbrev pub IsOfView : Plan → Hidden → ℕ → Entry → Type 0
IsOfView plan m id e = ((d : ℕ) × (d < plan.stripes) × (m.stripe_owner d ≡ id) × Contains (m.account.stripe d).entries e) ⊎ ((m.keeper_owner ≡ id) × Contains m.account.keeper.entries e)

pub stands-of : (plan : Plan) (words : List ℕ) (views : List View) (m : Hidden) → Standing plan words views m → (id : ℕ) (e : Entry) → StandsIn views id e → IsOfView plan m id e
stands-of plan words views m st id e is =
    let view = is.0 in
    let fits = st.views_fit id view is.1 in
    elim (Contains-append_cases (stripe_entries view.stripes) (keeper_entries view.keepers) e is.2) [
      | inl of ↦
          let found = stripe-entry plan m view.stripes e (all_map (StripeFits plan m id) (StripeShows plan m) view.stripes (λ part h. (id, h)) fits.stripes) of in
          inl (found.0, found.1, stripe_owned plan m id found.0 view.stripes found.2 fits.stripes, found.3)
      | inr of ↦
          let found = keeper-entry m view.keepers e (all_map (KeeperFits m id) (KeeperShows m) view.keepers (λ part h. (id, h)) fits.keepers) of in
          inr (keeper_owned m id view.keepers found.0 fits.keepers, found.1)
    ]

pub stripe-stands : (plan : Plan) (words : List ℕ) (views : List View) (m : Hidden) → Standing plan words views m → (d : ℕ) (e : Entry) → d < plan.stripes → Contains (m.account.stripe d).entries e → StandsIn views (m.stripe_owner d) e
stripe-stands plan words views m st d e lt is =
    let there = st.there.stripes d lt in
    let id : ℕ = m.stripe_owner d in
    let fits = st.views_fit id there.0 there.1 in (
      there.0,
      there.1,
      Contains-append_left (stripe_entries there.0.stripes) (keeper_entries there.0.keepers) e
          (stripe-has plan m d there.0.stripes e (all_map (StripeFits plan m id) (StripeShows plan m) there.0.stripes (λ part h. (id, h)) fits.stripes) there.2 is),
    )

pub keeper-stands : (plan : Plan) (words : List ℕ) (views : List View) (m : Hidden) → Standing plan words views m → (e : Entry) → Contains m.account.keeper.entries e → StandsIn views m.keeper_owner e
keeper-stands plan words views m st e is =
    let there = st.there.keeper in
    let id : ℕ = m.keeper_owner in
    let fits = st.views_fit id there.0 there.1 in (
      there.0,
      there.1,
      Contains-append_right (stripe_entries there.0.stripes) (keeper_entries there.0.keepers) e
          (keeper-has m there.0.keepers e (all_map (KeeperFits m id) (KeeperShows m) there.0.keepers (λ part h. (id, h)) fits.keepers) there.2 is),
    )

-- what was drawn stands in a view, and no other entry does
pub drawn-stands : (plan : Plan) (words : List ℕ) (views : List View) (m : Hidden) → Standing plan words views m → (e : Entry) → Contains (drawn 0 m.acts) e → (id : ℕ) × StandsIn views id e
drawn-stands plan words views m st e is =
    let drawer = All-contains (IsOfDrawer plan.stripes (reach (opened plan.era) m.acts)) (drawn 0 m.acts) e (all-have_drawers plan.stripes plan.era m.acts st.legal) is in
    let here : IsOfDrawer plan.stripes m.account e = subst (λ a. IsOfDrawer plan.stripes a e) st.account_is drawer in
    elim here [
      | inl of ↦ (m.stripe_owner of.0, stripe-stands plan words views m st of.0 e of.1 of.2)
      | inr of ↦ (m.keeper_owner, keeper-stands plan words views m st e of)
    ]

pub stripe-drew : (plan : Plan) (words : List ℕ) (views : List View) (m : Hidden) → Standing plan words views m → (d : ℕ) (e : Entry) → Contains (m.account.stripe d).entries e → Contains (drawn 0 m.acts) e
stripe-drew plan words views m st d e is = stripe-in_drawn d 0 m.acts e (subst (λ (es : List Entry). Contains es e) (stripe-drawn d (opened plan.era) m.acts) (subst (λ (a : Account). Contains (a.stripe d).entries e) (sym st.account_is) is))

pub stands-drawn : (plan : Plan) (words : List ℕ) (views : List View) (m : Hidden) → Standing plan words views m → (id : ℕ) (e : Entry) → StandsIn views id e → Contains (drawn 0 m.acts) e
stands-drawn plan words views m st id e is = elim (stands-of plan words views m st id e is) [
  | inl of ↦ stripe-drew plan words views m st of.0 e of.3
  | inr of ↦ keeper-in_drawn 0 m.acts e (subst (λ (es : List Entry). Contains es e) (keeper-drawn (opened plan.era) m.acts) (subst (λ (a : Account). Contains a.keeper.entries e) (sym st.account_is) of.1))
]

-- a place stands in one view
pub one-view : (plan : Plan) (words : List ℕ) (views : List View) (m : Hidden) → Standing plan words views m → (id other : ℕ) (x y : Entry) → StandsIn views id x → StandsIn views other y → x.place ≡ y.place → id ≡ other
one-view plan words views m st id other x y first second at = elim (stands-of plan words views m st id x first) [
  | inl of ↦ elim (stands-of plan words views m st other y second) [
    | inl also ↦ sym of.2 ∙ (ap m.stripe_owner (opened-apart plan.era of.0 also.0 m.acts x y (stripe of.0 x of.3) (stripe also.0 y also.3) at) ∙ also.2)
    | inr also ↦ absurd (opened-keeper_apart plan.era of.0 m.acts x y (stripe of.0 x of.3) (keeper y also.1) at)
  ]
  | inr of ↦ elim (stands-of plan words views m st other y second) [
    | inl also ↦ absurd (opened-keeper_apart plan.era also.0 m.acts y x (stripe also.0 y also.3) (keeper x of.1) (sym at))
    | inr also ↦ sym of.0 ∙ also.0
  ]
] where
  stripe : (d : ℕ) (e : Entry) → Contains (m.account.stripe d).entries e → Contains ((reach (opened plan.era) m.acts).stripe d).entries e
  stripe d e is = subst (λ (a : Account). Contains (a.stripe d).entries e) (sym st.account_is) is

  keeper : (e : Entry) → Contains m.account.keeper.entries e → Contains (reach (opened plan.era) m.acts).keeper.entries e
  keeper e is = subst (λ (a : Account). Contains a.keeper.entries e) (sym st.account_is) is
