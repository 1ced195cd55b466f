-- A stripe and the keeper may draw the next place.
use Rattle.std.proofs.Common.{◌≡◌, ℕ, zero, suc, ◌+◌, ◌-◌, ◌*◌, ◌%◌, ◌^◌, ◌<◌, ◌≤◌, ◌==◌, ◌||◌, Bool, true, false, None, List, [], ◌∷◌, ◌++◌, set, slice_index, refl, sym, ap, ◌∙◌, subst, ⊎_elim, arith, get_or-set_same, get_or-set_other, eqb-true}
use Rattle.std.proofs.lemmas.Bool.{or_cases, MatchBool-at_true, MatchBool-at_false}
use mathlib.Core.Option.{none, some, some-injective, some-ne-none}
use lib.ListN.{get_elem?}
use Rattle.atomic_table.specs.Table.{step, keeps, Allows}
use Rattle.era_base.specs.declared.ids.CmdId.{CmdId}
use Rattle.era_model.specs.declared.event.Event.{Event}
use Rattle.era_model.specs.declared.event.Event.TheVariants.{Tried, Mark, Go, Done, Cut, Settle, Unsettled, Roll, Kept}
use Rattle.era_model.specs.Writes.{is_writing, is_cut}
use Rattle.era_gate.specs.declared.states.StripeState.{StripeState}
use Rattle.era_gate.specs.declared.states.KeeperState.{KeeperState}
use Rattle.era_gate.specs.declared.parts.StripePart.{StripePart}
use Rattle.era_gate.specs.declared.parts.KeeperPart.{KeeperPart}
use Rattle.era_gate.specs.declared.parts.LanePart.{LanePart}
use Rattle.era_gate.specs.declared.parts.PassPart.{PassPart}
use Rattle.era_gate.specs.declared.parts.View.{View}
use Rattle.era_gate.specs.declared.plan.Plan.{Plan}
use Rattle.era_gate.specs.Acts.{Act, Account, stripe_drew, keeper_drew, after, places_after, entry, flights, lane_of, has_go, found_of, count, inside_of, GateMayGo, StripeMayDraw, KeeperMayDraw, MayAct}
use Rattle.era_gate.specs.Parts.{has_lane, stripe_with_pass, keeper_with_pass, view_after, budget_after, cleared_after}
use Rattle.era_gate.specs.Rule.{Hidden, Standing, Ruled, StripeFits, LaneFits, Each, budgets}
use Rattle.era_gate.specs.Calls.{has_seen, has_gone, GoAsks, StripeAsks, KeeperAsks, PassAsks}
use Rattle.era_gate.specs.Places.{AscendFrom}
use Rattle.era_gate.specs.Plays.{Draws, KeeperDraws, drew, keeper_drawn}
use Rattle.era_gate.proofs.Choices.{self_eq, clash, count_agrees}
use Rattle.era_gate.proofs.Accounts.{IsSound, inside_same, marked_switched}
use Rattle.era_gate.proofs.Touching.{Owns}
use Rattle.era_gate.proofs.Ascending.{next-place, stripe-next, keeper-next}
use Rattle.era_gate.proofs.Fitting.{hidden_after}
use Rattle.era_gate.proofs.Frames.{sound_of, act_moves, low_words, lane_low, lane_owned}

-- a block that was seen is marked
seen_marked : (inside : Bool) (marked : ℕ → Bool) (block : ℕ) (seen : List ℕ) → has_seen block seen ≡ true → Each (λ b. (inside ≡ true) × (marked b ≡ true)) seen → marked block ≡ true
seen_marked inside marked block [] saw all = absurd (clash saw refl)
seen_marked inside marked block (b ∷ bs) saw all = ⊎_elim (λ here. ap marked (eqb-true block b here) ∙ all.0.1) (λ rest. seen_marked inside marked block bs rest all.1) (or_cases (block == b) (has_seen block bs) saw)

-- neither of two
neither : (a b : Bool) → (a || b) ≡ false → (a ≡ false) × (b ≡ false)
neither true b none_ = absurd (clash refl none_)
neither false b none_ = (refl, none_)

-- a lane of a view without a receipt of a command has none in the account
not_gone : (m : Hidden) (id l : ℕ) (cmd : CmdId) (parts : List LanePart) → has_lane l parts ≡ true → Each (LaneFits m id) parts → has_gone cmd parts ≡ false → has_go cmd (m.account.lane l) ≡ false
not_gone m id l cmd [] has fit fresh = absurd (clash has refl)
not_gone m id l cmd (part ∷ parts) has fit fresh =
    let both = neither (has_go cmd part.receipts) (has_gone cmd parts) fresh in
    ⊎_elim
    (λ here. ap (has_go cmd) (ap m.account.lane (eqb-true l part.lane here) ∙ fit.0.receipts) ∙ both.0)
    (λ rest. not_gone m id l cmd parts rest fit.1 both.1)
    (or_cases (l == part.lane) (has_lane l parts) has)

-- a write may be issued
may_go : (plan : Plan) (m : Hidden) (id : ℕ) (p : StripePart) (lanes : List LanePart) → IsSound plan.stripes m.account → StripeFits plan m id p → Each (LaneFits m id) lanes
    → (cmd : CmdId) (block era : ℕ) → GoAsks p lanes cmd block era → has_lane cmd.lane lanes ≡ true → GateMayGo m.account p.stripe cmd block era
may_go plan m id p lanes sound h fit cmd block era asks lane =
    let word : p.era ≡ m.account.keeper.era = h.era asks.inside in
    let saw : m.account.marked block p.era ≡ true = seen_marked p.state.inside (λ b. m.account.marked b p.era) block p.seen asks.saw h.seen in
    let now = marked_switched plan.stripes m.account sound block (subst (λ e. m.account.marked block e ≡ true) word saw) in
    record {
      inside = ap (λ (s : StripeState). s.inside) h.state ∙ asks.inside;
      alone = ap (λ (s : StripeState). s.flight) h.state ∙ asks.alone;
      marked = subst (λ e. m.account.marked block e ≡ true) (sym asks.present) saw;
      present = asks.present ∙ word ∙ sym now.1;
      switched = now.0;
      once = not_gone m id cmd.lane cmd lanes lane fit asks.once;
    }

-- what the stripe's part shows is so in the account
stripe_may : (plan : Plan) (m : Hidden) (id : ℕ) (p : StripePart) (lanes : List LanePart) → IsSound plan.stripes m.account → StripeFits plan m id p → Each (LaneFits m id) lanes
    → (event : Event) → StripeAsks event p lanes → has_lane (lane_of event) lanes ≡ true → StripeMayDraw m.account p.stripe event
stripe_may plan m id p lanes sound h fit (Go cmd block era first bytes) asks lane = may_go plan m id p lanes sound h fit cmd block era asks lane
stripe_may plan m id p lanes sound h fit (Done cmd) asks lane = subst (λ (s : StripeState). is_writing (flights s.flight) cmd ≡ true) (sym h.state) asks
stripe_may plan m id p lanes sound h fit (Cut cmd faults) asks lane = subst (λ (s : StripeState). is_writing (flights s.flight) cmd ≡ true) (sym h.state) asks
stripe_may plan m id p lanes sound h fit (Settle by cut bytes) asks lane = subst (λ (s : StripeState). is_cut (flights s.flight) cut ≡ true) (sym h.state) asks
stripe_may plan m id p lanes sound h fit (Unsettled by cut faults) asks lane = subst (λ (s : StripeState). is_cut (flights s.flight) cut ≡ true) (sym h.state) asks
stripe_may plan m id p lanes sound h fit event asks lane = asks

-- the present era is the word's where its switch is drawn
present_era : (n : ℕ) (a : Account) (k : KeeperState) → IsSound n a → a.keeper ≡ k → k.switched ≡ true → (era : ℕ) → era ≡ k.era → (era ≡ a.era) × (a.keeper.switched ≡ true)
present_era n a k sound is on era word =
    let switched : a.keeper.switched ≡ true = ap (λ (j : KeeperState). j.switched) is ∙ on in
    let same : a.era ≡ a.keeper.era = MatchBool-at_true (a.era ≡ a.keeper.era) ((a.era + 1 ≡ a.keeper.era) × ((d : ℕ) → d < n → (a.stripe d).flight ≡ None)) switched sound.switch in
    (word ∙ sym (ap (λ (j : KeeperState). j.era) is) ∙ sym same, switched)

keeper_may : (n : ℕ) (a : Account) (p : KeeperPart) → IsSound n a → a.keeper ≡ p.state → (event : Event) → KeeperAsks event p → KeeperMayDraw n a event
keeper_may n a p sound is (Tried cmd block era) asks = present_era n a p.state sound is asks.1 era asks.0
keeper_may n a p sound is (Mark cmd block era) asks = present_era n a p.state sound is asks.1 era asks.0
keeper_may n a p sound is (Roll cmd era) asks =
    let off : a.keeper.switched ≡ false = ap (λ (j : KeeperState). j.switched) is ∙ asks.1 in
    let word : era ≡ a.keeper.era = asks.0 ∙ sym (ap (λ (j : KeeperState). j.era) is) in
    let behind = MatchBool-at_false (a.era ≡ a.keeper.era) ((a.era + 1 ≡ a.keeper.era) × ((d : ℕ) → d < n → (a.stripe d).flight ≡ None)) off sound.switch in
    record { next = word ∙ sym behind.0; word = word; quiet = behind.1 }
keeper_may n a p sound is (Kept cmd inside) asks = ap (λ (j : KeeperState). found_of j.pending) is ∙ asks
keeper_may n a p sound is event asks = asks

-- one view's budget is among all
budget_among : (views : List View) (id : ℕ) (v : View) → get_elem? views id ≡ some v → v.pass.budget ≤ budgets views
budget_among [] id v at = absurd (some-ne-none v (sym at))
budget_among (x ∷ xs) zero v at = let same : x.pass.budget ≡ v.pass.budget = ap (λ (u : View). u.pass.budget) (some-injective x v at) in omega arith
budget_among (x ∷ xs) (suc id) v at = let rest = budget_among xs id v at in omega arith

-- an act that draws takes a place and one of the budget; neither the era nor who is inside changes
record IsDraw (n : ℕ) (a : Account) (x : Act) : Type 0 where
  places : places_after x a.places ≡ a.places + 1
  budget : (b : ℕ) → budget_after x b ≡ b - 1
  cleared : (c : ℕ) → cleared_after x c ≡ c
  era : (after a x).keeper.era ≡ a.keeper.era
  inside : count n (inside_of a) ≡ count n (inside_of (after a x))

-- the rule after a draw by a seat with a pass: the order word is one greater, and it was below 2^60
draw_stands : (plan : Plan) (words : List ℕ) (views : List View) (m : Hidden) (id : ℕ) (v : View) (x : Act) → Standing plan words views m → get_elem? views id ≡ some v
    → MayAct plan.stripes m.account x → Owns m id x → IsDraw plan.stripes m.account x → 0 < v.pass.budget
    → (slice_index words 1 < 1152921504606846976) × Standing plan (set words 1 ((slice_index words 1 + 1) % 2 ^ 64)) (set views id (view_after x m.account.places m.account.keeper.era v)) (hidden_after m x)
draw_stands plan words views m id v x st at may owns draw some_ =
    let n : ℕ = slice_index words 1 in
    let order : n ≡ m.account.places = st.order in
    let size = st.size in
    let all = st.budget in
    let mine = budget_among views id v at in
    let n' : ℕ = (n + 1) % 2 ^ 64 in
    let places = draw.places in
    let spent = draw.budget v.pass.budget in
    let next : n' ≡ places_after x m.account.places = omega arith in
    let gate = get_or-set_other words 1 0 n' 0 (λ same. absurd (omega arith)) ∙ (st.gate ∙ ap (λ c. m.account.keeper.era * 4294967296 + c) draw.inside) in
    let shown = low_words plan words views m x 1 n' st (omega arith) draw.era (draw.cleared m.cleared) gate (get_or-set_same words 1 n' 0 (omega arith) ∙ next) in
    (omega arith, act_moves plan words (set words 1 n') views m id v x m.account.keeper.era st at may owns refl (omega arith) shown)

draw_view : (p : StripePart) (q : PassPart) (event : Event) (place e : ℕ) → view_after (stripe_drew p.stripe event) place e (stripe_with_pass p q) ≡ drew event place (stripe_with_pass p q)
draw_view p q event place e = rw (self_eq p.stripe) refl

pub draw_allows : (plan : Plan) (slots id : ℕ) (p : StripePart) (q : PassPart) (event : Event) → StripeAsks event p q.lanes → PassAsks event q
    → Allows (Ruled plan) slots id (stripe_with_pass p q, []) 1 (λ n. (n + 1) % 2 ^ 64) (Draws event (step slots 1 1 0 none) (stripe_with_pass p q, []))
draw_allows plan slots id p q event asks pass s ruled homes at small =
    let m : Hidden = ruled.0 in
    let st = ruled.1 in
    let v : View = stripe_with_pass p q in
    let n : ℕ = slice_index s.words 1 in
    let fit = st.views_fit id v at in
    let h = fit.stripes.0 in
    let x : Act = stripe_drew p.stripe event in
    let may : MayAct plan.stripes m.account x = (h.low, (stripe_may plan m id p q.lanes (sound_of plan s.words s.views m st) h fit.lanes event asks pass.0, lane_low m id (lane_of event) q.lanes pass.0 fit.lanes)) in
    let owns : Owns m id x = record {
      stripes = λ d is. ap m.stripe_owner (eqb-true d p.stripe is) ∙ h.own;
      keeper = λ never. absurd (clash never refl);
      lanes = λ l is. ap m.lane_owner (eqb-true l (lane_of event) is) ∙ lane_owned m id (lane_of event) q.lanes pass.0 fit.lanes;
    } in
    let draw : IsDraw plan.stripes m.account x = record {
      places = refl;
      budget = λ b. refl;
      cleared = λ c. refl;
      era = refl;
      inside = count_agrees plan.stripes (inside_of m.account) (inside_of (after m.account x)) (λ d low. sym (inside_same p.stripe event m.account.places d (m.account.stripe d)));
    } in
    let stands = draw_stands plan s.words s.views m id v x st at may owns draw pass.1 in
    let order = st.order in
    let low = fit.floor in
    let ascend = subst (λ place. AscendFrom 0 (p.state.entries ++ entry place event ∷ [])) (sym order) (stripe-next plan.era (hidden_after m x).acts m.account p.stripe event p.state stands.1.account_is h.state) in
    let is : view_after x m.account.places m.account.keeper.era v ≡ drew event n v = draw_view p q event m.account.places m.account.keeper.era ∙ ap (λ place. drew event place v) (sym order) in
    (drew event n v, keeps, tt, (hidden_after m x, subst (λ (w : View). Standing plan (set s.words 1 ((n + 1) % 2 ^ 64)) (set s.views id w) (hidden_after m x)) is stands.1), (refl, next-place n q.floor event p.state.entries (omega arith) stands.0 ascend))

pub keeper_draw_allows : (plan : Plan) (slots id : ℕ) (p : KeeperPart) (q : PassPart) (event : Event) → KeeperAsks event p → PassAsks event q
    → Allows (Ruled plan) slots id (keeper_with_pass p q, []) 1 (λ n. (n + 1) % 2 ^ 64) (KeeperDraws event (step slots 1 1 0 none) (keeper_with_pass p q, []))
keeper_draw_allows plan slots id p q event asks pass s ruled homes at small =
    let m : Hidden = ruled.0 in
    let st = ruled.1 in
    let v : View = keeper_with_pass p q in
    let n : ℕ = slice_index s.words 1 in
    let fit = st.views_fit id v at in
    let h = fit.keepers.0 in
    let x : Act = keeper_drew event in
    let may : MayAct plan.stripes m.account x = (keeper_may plan.stripes m.account p (sound_of plan s.words s.views m st) h.state event asks, lane_low m id (lane_of event) q.lanes pass.0 fit.lanes) in
    let owns : Owns m id x = record {
      stripes = λ d never. absurd (clash never refl);
      keeper = λ on. h.own;
      lanes = λ l is. ap m.lane_owner (eqb-true l (lane_of event) is) ∙ lane_owned m id (lane_of event) q.lanes pass.0 fit.lanes;
    } in
    let draw : IsDraw plan.stripes m.account x = record { places = refl; budget = λ b. refl; cleared = λ c. refl; era = refl; inside = refl } in
    let stands = draw_stands plan s.words s.views m id v x st at may owns draw pass.1 in
    let order = st.order in
    let low = fit.floor in
    let ascend = subst (λ place. AscendFrom 0 (p.state.entries ++ entry place event ∷ [])) (sym order) (keeper-next plan.era (hidden_after m x).acts m.account event p.state stands.1.account_is h.state) in
    let is : view_after x m.account.places m.account.keeper.era v ≡ keeper_drawn event n v = ap (λ place. keeper_drawn event place v) (sym order) in
    (keeper_drawn event n v, keeps, tt, (hidden_after m x, subst (λ (w : View). Standing plan (set s.words 1 ((n + 1) % 2 ^ 64)) (set s.views id w) (hidden_after m x)) is stands.1), (refl, next-place n q.floor event p.state.entries (omega arith) stands.0 ascend))
