-- The keeper may exchange the gate word: the era moves where nobody is inside, and else the number inside is known.
use Rattle.std.proofs.Common.{◌≡◌, ℕ, ◌+◌, ◌*◌, ◌/◌, ◌%◌, ◌<◌, ◌≤◌, ◌≢◌, ◌==◌, cond, Bool, true, false, List, [], set, slice_index, refl, sym, ap, ◌∙◌, subst, arith, length-set, get_or-set_same, get_or-set_other, eq-eqb, eqb-true}
use mathlib.Core.Option.{none, some}
use lib.ListN.{get_elem?}
use prog.Atomic.{either}
use Rattle.atomic_table.specs.Table.{State, step, keeps, stepped, Allows}
use Rattle.era_base.specs.Bits.{bit_of}
use Rattle.era_gate.specs.declared.stays.Miss.{Miss}
use Rattle.era_gate.specs.declared.states.KeeperState.{KeeperState}
use Rattle.era_gate.specs.declared.parts.KeeperPart.{KeeperPart}
use Rattle.era_gate.specs.declared.parts.PassPart.{PassPart}
use Rattle.era_gate.specs.declared.parts.View.{View}
use Rattle.era_gate.specs.declared.plan.Plan.{Plan}
use Rattle.era_gate.specs.Acts.{Act, era_moved, exchange_failed, count, inside_of, MayAct}
use Rattle.era_gate.specs.Parts.{keeper_with_pass, view_after}
use Rattle.era_gate.specs.Rule.{Hidden, Standing, Ruled, Fits, KeeperFits, weight, bitmap_at}
use Rattle.era_gate.specs.Calls.{moves, fails}
use Rattle.era_gate.specs.Plays.{Exchanges, exchanged_part}
use Rattle.era_gate.proofs.Choices.{clash, count_below}
use Rattle.era_gate.proofs.Touching.{Owns, touches_stripe, touches_lane}
use Rattle.era_gate.proofs.Fitting.{hidden_after}
use Rattle.era_gate.proofs.Frames.{Words, act_moves, low_words}
use Rattle.era_gate.proofs.Entering.{same_lanes}
use Rattle.era_gate.proofs.Bitmaps.{bit_zero, set_same}

-- the words after the era moved to a clear bitmap
moved_shows : (plan : Plan) (words : List ℕ) (views : List View) (m : Hidden) (n : ℕ) → Standing plan words views m → m.cleared ≡ plan.words → m.account.keeper.era + 1 < 4294967296 → count plan.stripes (inside_of m.account) ≡ 0
    → n ≡ (m.account.keeper.era + 1) * 4294967296 → Words plan (set words 0 n) (hidden_after m era_moved)
moved_shows plan words views m n st clear last nobody is = record {
  size = length-set words 0 n ∙ st.size;
  era_fits = last;
  gate = get_or-set_same words 0 n 0 (let size = st.size in omega arith) ∙ (is ∙ omega (arith, nobody));
  order = get_or-set_other words 0 1 n 0 (λ same. absurd (omega arith)) ∙ st.order;
  bits = λ block lt on.
      let e : ℕ = m.account.keeper.era + 1 in
      let blocks = st.plan_fits.blocks in
      let there : slice_index (set words 0 n) (bitmap_at plan e + block / 64) ≡ 0 = get_or-set_other words 0 (bitmap_at plan e + block / 64) n 0 (λ same. absurd (omega arith)) ∙ st.spare (block / 64) (omega arith) in
      absurd (clash on (ap (λ k. bit_of k (block % 64)) there ∙ bit_zero (block % 64)));
  spare = λ i never. absurd (omega arith);
  spare_low = omega arith;
}

moved_view : (p : KeeperPart) (q : PassPart) (place e : ℕ) → view_after era_moved place e (keeper_with_pass p q) ≡ keeper_with_pass (moves p) q
moved_view p q place e = rw (same_lanes era_moved place q.lanes (λ l rs. refl)) refl

failed_view : (p : KeeperPart) (q : PassPart) (found place e : ℕ) → view_after (exchange_failed (record { found = found; ended = q.ended })) place e (keeper_with_pass p q) ≡ keeper_with_pass (fails p found q.ended) q
failed_view p q found place e = rw (same_lanes (exchange_failed (record { found = found; ended = q.ended })) place q.lanes (λ l rs. refl)) refl

-- an act of the keeper alone
keeper_owns : (m : Hidden) (id : ℕ) (x : Act) → m.keeper_owner ≡ id → ((d : ℕ) → touches_stripe x d ≡ false) → ((l : ℕ) → touches_lane x l ≡ false) → Owns m id x
keeper_owns m id x own stripes lanes = record { stripes = λ d on. absurd (clash on (stripes d)); keeper = λ on. own; lanes = λ l on. absurd (clash on (lanes l)) }

-- what the exchange may find, and what it makes of it
abbrev Goes : Plan → ℕ → KeeperPart → PassPart → State (Unit {0}) View → ℕ → ℕ → KeeperPart → Type 0
Goes plan id p q s wanted n w = Ruled plan (stepped s 0 n id [] (keeper_with_pass w q) keeps) × (slice_index s.words 0 ≢ wanted → (0 < slice_index s.words 0 % 4294967296) × (slice_index s.words 0 % 4294967296 ≤ 16))

module _ (plan : Plan) (id : ℕ) (p : KeeperPart) (q : PassPart) (s : State (Unit {0}) View) (ruled : Ruled plan s) (at : get_elem? s.views id ≡ some (keeper_with_pass p q)) where
  abbrev m : Hidden
  m = ruled.0

  abbrev st : Standing plan s.words s.views m
  st = ruled.1

  fit : Fits plan m id (keeper_with_pass p q)
  fit = st.views_fit id (keeper_with_pass p q) at

  h : KeeperFits m id p
  h = fit.keepers.0

  same_era : m.account.keeper.era ≡ p.state.era
  same_era = ap (λ (k : KeeperState). k.era) h.state

  hit : p.cleared ≡ plan.words → p.state.switched ≡ true → p.state.era + 1 < 4294967296 → slice_index s.words 0 ≡ p.state.era * 4294967296 → Goes plan id p q s (p.state.era * 4294967296) ((p.state.era + 1) * 4294967296) (moves p)
  hit clear on last found =
      let gate = st.gate in
      let era = same_era in
      let nobody : count plan.stripes (inside_of m.account) ≡ 0 = omega arith in
      let may : MayAct plan.stripes m.account era_moved = record { nobody = nobody; switched = ap (λ (k : KeeperState). k.switched) h.state ∙ on } in
      let n : ℕ = (p.state.era + 1) * 4294967296 in
      let shown = moved_shows plan s.words s.views m n st (h.cleared ∙ clear) (omega arith) nobody (ap (λ e. (e + 1) * 4294967296) (sym era)) in
      let stands = act_moves plan s.words (set s.words 0 n) s.views m id (keeper_with_pass p q) era_moved m.account.keeper.era st at may (keeper_owns m id era_moved h.own (λ d. refl) (λ l. refl)) refl refl shown in
      ((hidden_after m era_moved, subst (λ (w : View). Standing plan (set s.words 0 n) (set s.views id w) (hidden_after m era_moved)) (moved_view p q m.account.places m.account.keeper.era) stands), λ other. absurd (other found))

  miss : slice_index s.words 0 ≢ p.state.era * 4294967296 → Goes plan id p q s (p.state.era * 4294967296) (slice_index s.words 0) (fails p (slice_index s.words 0 % 4294967296) q.ended)
  miss other =
      let gate = st.gate in
      let era = same_era in
      let few = count_below plan.stripes (inside_of m.account) in
      let limit = st.plan_fits.stripes in
      let c : ℕ = count plan.stripes (inside_of m.account) in
      let n : ℕ = slice_index s.words 0 in
      let counted : n % 4294967296 ≡ c = omega arith in
      let some_ : 0 < c = let differs : n ≢ p.state.era * 4294967296 = other in omega arith in
      let missed : Miss = record { found = n % 4294967296; ended = q.ended } in
      let x : Act = exchange_failed missed in
      let may : MayAct plan.stripes m.account x = record {
        found = counted;
        some = omega arith;
        loose = λ d low inside. let bound = fit.ended d in let one : weight (inside_of m.account d) ≡ 1 = ap weight inside in omega arith;
      } in
      let shown = low_words plan s.words s.views m x 0 n st (omega arith) refl refl (ap (λ (ws : List ℕ). slice_index ws 0) (set_same s.words 0) ∙ gate) (ap (λ (ws : List ℕ). slice_index ws 1) (set_same s.words 0) ∙ st.order) in
      let stands = act_moves plan s.words (set s.words 0 n) s.views m id (keeper_with_pass p q) x m.account.keeper.era st at may (keeper_owns m id x h.own (λ d. refl) (λ l. refl)) refl refl shown in
      ((hidden_after m x, subst (λ (w : View). Standing plan (set s.words 0 n) (set s.views id w) (hidden_after m x)) (failed_view p q (n % 4294967296) m.account.places m.account.keeper.era) stands), λ _. (omega arith, omega arith))

pub exchange_allows : (plan : Plan) (slots id : ℕ) (p : KeeperPart) (q : PassPart) (old new : ℕ) → p.cleared ≡ plan.words → p.state.switched ≡ true → p.state.era + 1 < 4294967296 → old ≡ p.state.era * 4294967296 → new ≡ (p.state.era + 1) * 4294967296
    → Allows (Ruled plan) slots id (keeper_with_pass p q, []) 0 (λ n. either (n == old) new n) (Exchanges (step slots 0 old new none) (keeper_with_pass p q, []))
exchange_allows plan slots id p q old new clear on last old_is new_is s ruled homes at small =
    let n : ℕ = slice_index s.words 0 in
    let part : KeeperPart = exchanged_part old n (keeper_with_pass p q) in
    let goes : (b : Bool) → (n == old) ≡ b → Goes plan id p q s old (either b new n) (cond b (moves p) (fails p (n % 4294967296) q.ended)) = λ b is. chosen b is in
    let all = goes (n == old) refl in
    (keeper_with_pass part q, keeps, tt, all.0, (refl, all.1))
  where
    chosen : (b : Bool) → (slice_index s.words 0 == old) ≡ b → Goes plan id p q s old (either b new (slice_index s.words 0)) (cond b (moves p) (fails p (slice_index s.words 0 % 4294967296) q.ended))
    chosen true is =
        let found : slice_index s.words 0 ≡ old = eqb-true (slice_index s.words 0) old is in
        subst (λ (k : ℕ). Goes plan id p q s k new (moves p)) (sym old_is) (subst (λ (k : ℕ). Goes plan id p q s (p.state.era * 4294967296) k (moves p)) (sym new_is) (hit plan id p q s ruled at clear on last (found ∙ old_is)))
    chosen false is =
        subst (λ (k : ℕ). Goes plan id p q s k (slice_index s.words 0) (fails p (slice_index s.words 0 % 4294967296) q.ended)) (sym old_is)
        (miss plan id p q s ruled at (λ same. clash (eq-eqb (slice_index s.words 0) old (same ∙ sym old_is)) is))
