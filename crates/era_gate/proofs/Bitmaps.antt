-- A stripe may look at a bit, and the keeper may set one and clear the spare words.
use Rattle.std.proofs.Common.{◌≡◌, ℕ, zero, suc, ◌+◌, ◌*◌, ◌/◌, ◌%◌, ◌^◌, ◌<◌, ◌≤◌, ◌≢◌, ◌⊎◌, ◌==◌, cond, Bool, true, false, List, [], ◌∷◌, set, slice_index, w64, refl, sym, ap, ◌∙◌, subst, inl, inr, ⊎_elim, arith, length-set, get_or-set_same, get_or-set_other}
use Rattle.std.specs.Prelude.{bit_or}
use Rattle.std.proofs.lemmas.Bool.{cases_eq}
use Rattle.std.proofs.lemmas.Nat.Bits.{bit_at_set_other, bit_at-zero}
use mathlib.Core.Option.{none}
use Rattle.atomic_table.specs.Table.{step, keeps, Allows}
use Rattle.era_base.specs.Bits.{bit_of}
use Rattle.era_gate.specs.declared.states.KeeperState.{KeeperState}
use Rattle.era_gate.specs.declared.parts.StripePart.{StripePart}
use Rattle.era_gate.specs.declared.parts.KeeperPart.{KeeperPart}
use Rattle.era_gate.specs.declared.parts.PassPart.{PassPart}
use Rattle.era_gate.specs.declared.parts.View.{View}
use Rattle.era_gate.specs.declared.plan.Plan.{Plan}
use Rattle.era_gate.specs.Parts.{stripe_with_pass, keeper_with_pass}
use Rattle.era_gate.specs.Rule.{Hidden, Standing, Ruled, Fits, StripeFits, Each, bitmap_at, block_bit}
use Rattle.era_gate.specs.Calls.{has_mark}
use Rattle.era_gate.specs.Plays.{Looks, Stays, Clears, looked, cleared_to}
use Rattle.era_gate.proofs.Fitting.{all_map}
use Rattle.era_gate.proofs.Frames.{Words, sound_of, view_moves}

-- a word that is written as it was
pub set_same : (xs : List ℕ) (i : ℕ) → set xs i (slice_index xs i) ≡ xs
set_same [] i = refl
set_same (x ∷ xs) zero = refl
set_same (x ∷ xs) (suc i) = ap (λ (ys : List ℕ). x ∷ ys) (set_same xs i)

-- what the words show already
pub words_of : (plan : Plan) (words : List ℕ) (views : List View) (m : Hidden) → Standing plan words views m → Words plan words m
words_of plan words views m st = record { size = st.size; era_fits = st.era_fits; gate = st.gate; order = st.order; bits = st.bits; spare = st.spare; spare_low = st.spare_low }

-- a flag times a number is at most the number
pub times_bit : (x y : ℕ) → x < 2 → x * y ≤ y
times_bit zero y low = omega arith
times_bit (suc zero) y low = omega arith
times_bit (suc (suc x)) y low = absurd (omega arith)

-- the words of a bitmap lie behind the first two, within the table
pub word_within : (plan : Plan) (era i : ℕ) → i < plan.words → (1 < bitmap_at plan era + i) × (bitmap_at plan era + i < 2 + 2 * plan.words)
word_within plan era i low = let most = times_bit (era % 2) plan.words (omega arith) in (omega arith, omega arith)

-- no word of the era's bitmap is a spare one
flips : (era : ℕ) → (((era % 2 ≡ 0) × ((era + 1) % 2 ≡ 1)) ⊎ ((era % 2 ≡ 1) × ((era + 1) % 2 ≡ 0)))
flips era = elim (cases_eq (era % 2) 0) [ inl even ↦ inl (even, omega arith) | inr odd ↦ inr (omega arith, omega arith) ]

pub apart : (plan : Plan) (era i j : ℕ) → i < plan.words → j < plan.words → bitmap_at plan era + i ≢ bitmap_at plan (era + 1) + j
apart plan era i j low low' same = ⊎_elim
    (λ (h : (era % 2 ≡ 0) × ((era + 1) % 2 ≡ 1)).
    let one : bitmap_at plan era ≡ 2 + 0 * plan.words = ap (λ b. 2 + b * plan.words) h.0 in
    let two : bitmap_at plan (era + 1) ≡ 2 + 1 * plan.words = ap (λ b. 2 + b * plan.words) h.1 in
    absurd (omega arith))
    (λ (h : (era % 2 ≡ 1) × ((era + 1) % 2 ≡ 0)).
    let one : bitmap_at plan era ≡ 2 + 1 * plan.words = ap (λ b. 2 + b * plan.words) h.0 in
    let two : bitmap_at plan (era + 1) ≡ 2 + 0 * plan.words = ap (λ b. 2 + b * plan.words) h.1 in
    absurd (omega arith))
    (flips era)

-- a stripe's view after a look fits
look_fits : (plan : Plan) (m : Hidden) (id : ℕ) (p : StripePart) (q : PassPart) (bit : Bool) (block : ℕ) → Fits plan m id (stripe_with_pass p q) → p.state.inside ≡ true → (bit ≡ true → m.account.marked block p.era ≡ true)
    → Fits plan m id (stripe_with_pass (record { stripe = p.stripe; era = p.era; seen = cond bit (block ∷ p.seen) p.seen; state = p.state }) q)
look_fits plan m id p q bit block fit inside marked = record {
  stripes = (record { own = h.own; low = h.low; state = h.state; era = h.era; seen = saw bit marked }, tt);
  keepers = tt;
  lanes = fit.lanes;
  floor = fit.floor;
  apart = fit.apart;
  begun = fit.begun;
  ended = fit.ended;
} where
  h : StripeFits plan m id p
  h = fit.stripes.0

  saw : (b : Bool) → (b ≡ true → m.account.marked block p.era ≡ true) → Each (λ other. (p.state.inside ≡ true) × (m.account.marked other p.era ≡ true)) (cond b (block ∷ p.seen) p.seen)
  saw true is = ((inside, is refl), h.seen)
  saw false is = h.seen

pub look_allows : (plan : Plan) (slots id : ℕ) (p : StripePart) (q : PassPart) (block word : ℕ) → p.state.inside ≡ true → block < plan.blocks → word ≡ bitmap_at plan p.era + block / 64
    → Allows (Ruled plan) slots id (stripe_with_pass p q, []) word (λ n. n) (Looks block (step slots word 0 0 none) (stripe_with_pass p q, []))
look_allows plan slots id p q block word inside low is s ruled homes at small =
    let m : Hidden = ruled.0 in
    let st = ruled.1 in
    let v : View = stripe_with_pass p q in
    let n : ℕ = slice_index s.words word in
    let fit = st.views_fit id v at in
    let h = fit.stripes.0 in
    let era : p.era ≡ m.account.keeper.era = h.era inside in
    let bit : Bool = bit_of n (block % 64) in
    let marked : bit ≡ true → m.account.marked block p.era ≡ true = λ on.
    subst (λ e. m.account.marked block e ≡ true) (sym era) (st.bits block low (subst (λ e. block_bit plan s.words e block ≡ true) era (subst (λ w. bit_of (slice_index s.words w) (block % 64) ≡ true) is on))) in
    let shown : Words plan (set s.words word n) m = subst (λ (ws : List ℕ). Words plan ws m) (sym (set_same s.words word)) (words_of plan s.words s.views m st) in
    let stands = view_moves plan s.words (set s.words word n) s.views m m.cleared id v (looked block n v) st at (λ other. absurd (other refl)) (look_fits plan m id p q bit block fit inside marked) refl (λ d. refl) refl (λ l. refl) shown in
    (looked block n v, keeps, tt, (m, stands), refl)

-- a block's bit in the era's bitmap after another one's was set
mask : ℕ → ℕ
mask block = 1 * 2 ^ (block % 64) % 2 ^ 64

bit_other : (n block other : ℕ) → other % 64 ≢ block % 64 → bit_of (bit_or n (1 * 2 ^ (block % 64) % 2 ^ 64)) (other % 64) ≡ bit_of n (other % 64)
unfolding bit_of
bit_other n block other differs = ap (λ k. k == 1) (bit_at_set_other w64 n (block % 64) (omega arith) (other % 64) differs)

pub bit_zero : (i : ℕ) → bit_of 0 i ≡ false
unfolding bit_of
bit_zero i = ap (λ k. k == 1) (bit_at-zero i)

-- the words after the bit of a marked block was set
set_shows : (plan : Plan) (words : List ℕ) (m : Hidden) (block : ℕ) → Words plan words m → block < plan.blocks → plan.blocks ≤ 64 * plan.words → m.account.marked block m.account.keeper.era ≡ true
    → Words plan (set words (bitmap_at plan m.account.keeper.era + block / 64) (bit_or (slice_index words (bitmap_at plan m.account.keeper.era + block / 64)) (1 * 2 ^ (block % 64) % 2 ^ 64))) m
set_shows plan words m block shown low blocks marked = record {
  size = length-set words w n' ∙ shown.size;
  era_fits = shown.era_fits;
  gate = get_or-set_other words w 0 n' 0 (λ same. absurd (omega arith)) ∙ shown.gate;
  order = get_or-set_other words w 1 n' 0 (λ same. absurd (omega arith)) ∙ shown.order;
  bits = λ other lt is. bits other lt is (cases_eq other block);
  spare = λ i lt.
      let low' = shown.spare_low in
      get_or-set_other words w (bitmap_at plan (e + 1) + i) n' 0 (λ same. apart plan e (block / 64) i (omega arith) (omega arith) (sym same)) ∙ shown.spare i lt;
  spare_low = shown.spare_low;
} where
  e : ℕ
  e = m.account.keeper.era

  w : ℕ
  w = bitmap_at plan e + block / 64

  n' : ℕ
  n' = bit_or (slice_index words w) (1 * 2 ^ (block % 64) % 2 ^ 64)

  within : (1 < bitmap_at plan e + block / 64) × (bitmap_at plan e + block / 64 < 2 + 2 * plan.words)
  within = word_within plan e (block / 64) (omega arith)

  bits : (other : ℕ) → other < plan.blocks → block_bit plan (set words w n') e other ≡ true → (other ≡ block) ⊎ (other ≡ block → ⊥) → m.account.marked other e ≡ true
  bits other lt is (inl same) = subst (λ b. m.account.marked b e ≡ true) (sym same) marked
  bits other lt is (inr differs) = ⊎_elim
      (λ (here : other / 64 ≡ block / 64).
      let size = shown.size in
      let apart' : other % 64 ≢ block % 64 = λ same. differs (omega arith) in
      let now : slice_index (set words w n') (bitmap_at plan e + other / 64) ≡ n' = ap (λ i. slice_index (set words w n') (bitmap_at plan e + i)) here ∙ get_or-set_same words w n' 0 (omega (arith, within.1)) in
      let was : block_bit plan words e other ≡ true = ap (λ i. bit_of (slice_index words (bitmap_at plan e + i)) (other % 64)) here ∙ (sym (bit_other (slice_index words w) block other apart') ∙ (ap (λ k. bit_of k (other % 64)) (sym now) ∙ is)) in
      shown.bits other lt was)
      (λ (there : other / 64 ≡ block / 64 → ⊥).
      let still : slice_index (set words w n') (bitmap_at plan e + other / 64) ≡ slice_index words (bitmap_at plan e + other / 64) = get_or-set_other words w (bitmap_at plan e + other / 64) n' 0 (λ same. there (omega arith)) in
      shown.bits other lt (ap (λ k. bit_of k (other % 64)) (sym still) ∙ is))
      (cases_eq (other / 64) (block / 64))

pub set_allows : (plan : Plan) (slots id : ℕ) (p : KeeperPart) (q : PassPart) (block word k : ℕ) → has_mark block p.state.era p.state.entries ≡ true → block < plan.blocks → word ≡ bitmap_at plan p.state.era + block / 64 → k ≡ 1 * 2 ^ (block % 64) % 2 ^ 64
    → Allows (Ruled plan) slots id (keeper_with_pass p q, []) word (λ n. bit_or n k) (Stays (step slots word k 0 none) (keeper_with_pass p q, []))
set_allows plan slots id p q block word k mark low is mask_is s ruled homes at small =
    let m : Hidden = ruled.0 in
    let st = ruled.1 in
    let v : View = keeper_with_pass p q in
    let n : ℕ = slice_index s.words word in
    let fit = st.views_fit id v at in
    let h = fit.keepers.0 in
    let sound = sound_of plan s.words s.views m st in
    let marked : m.account.marked block m.account.keeper.era ≡ true = sound.marks block m.account.keeper.era ∙ (ap (λ (j : KeeperState). has_mark block j.era j.entries) h.state ∙ mark) in
    let place : word ≡ bitmap_at plan m.account.keeper.era + block / 64 = is ∙ ap (λ (j : KeeperState). bitmap_at plan j.era + block / 64) (sym h.state) in
    let shown : Words plan (set s.words word (bit_or n k)) m =
    subst (λ w. Words plan (set s.words w (bit_or (slice_index s.words w) k)) m) (sym place)
    (subst (λ j. Words plan (set s.words (bitmap_at plan m.account.keeper.era + block / 64) (bit_or (slice_index s.words (bitmap_at plan m.account.keeper.era + block / 64)) j)) m) (sym mask_is)
    (set_shows plan s.words m block (words_of plan s.words s.views m st) low st.plan_fits.blocks marked)) in
    let stands = view_moves plan s.words (set s.words word (bit_or n k)) s.views m m.cleared id v v st at (λ other. absurd (other refl)) fit refl (λ d. refl) refl (λ l. refl) shown in
    (v, keeps, tt, (m, stands), refl)

-- the words after one more spare word was cleared
clear_shows : (plan : Plan) (words : List ℕ) (m : Hidden) (index : ℕ) → Words plan words m → index ≤ m.cleared → index < plan.words → plan.blocks ≤ 64 * plan.words
    → Words plan (set words (bitmap_at plan (m.account.keeper.era + 1) + index) 0) (record m { cleared = index + 1 })
clear_shows plan words m index shown so_far low blocks = record {
  size = length-set words w 0 ∙ shown.size;
  era_fits = shown.era_fits;
  gate = get_or-set_other words w 0 0 0 (λ same. absurd (omega arith)) ∙ shown.gate;
  order = get_or-set_other words w 1 0 0 (λ same. absurd (omega arith)) ∙ shown.order;
  bits = λ block lt is.
      let still : slice_index (set words w 0) (bitmap_at plan e + block / 64) ≡ slice_index words (bitmap_at plan e + block / 64) = get_or-set_other words w (bitmap_at plan e + block / 64) 0 0 (λ same. apart plan e (block / 64) index (omega arith) low same) in
      shown.bits block lt (ap (λ k. bit_of k (block % 64)) (sym still) ∙ is);
  spare = λ i lt. ⊎_elim
      (λ here. let size = shown.size in ap (λ j. slice_index (set words w 0) (bitmap_at plan (e + 1) + j)) here ∙ get_or-set_same words w 0 0 (omega (arith, within.1)))
      (λ other. get_or-set_other words w (bitmap_at plan (e + 1) + i) 0 0 (λ same. other (omega arith)) ∙ shown.spare i (let p : i ≢ index = other in omega arith))
      (cases_eq i index);
  spare_low = omega arith;
} where
  e : ℕ
  e = m.account.keeper.era

  w : ℕ
  w = bitmap_at plan (e + 1) + index

  within : (1 < bitmap_at plan (e + 1) + index) × (bitmap_at plan (e + 1) + index < 2 + 2 * plan.words)
  within = word_within plan (e + 1) index low

pub clear_allows : (plan : Plan) (slots id : ℕ) (p : KeeperPart) (q : PassPart) (index word : ℕ) → index ≤ p.cleared → index < plan.words → word ≡ bitmap_at plan (p.state.era + 1) + index
    → Allows (Ruled plan) slots id (keeper_with_pass p q, []) word (λ n. 0) (λ n. Clears index (step slots word 0 0 none) (keeper_with_pass p q, []) 0)
clear_allows plan slots id p q index word so_far low is s ruled homes at small =
    let m : Hidden = ruled.0 in
    let st = ruled.1 in
    let v : View = keeper_with_pass p q in
    let fit = st.views_fit id v at in
    let h = fit.keepers.0 in
    let place : word ≡ bitmap_at plan (m.account.keeper.era + 1) + index = is ∙ ap (λ (j : KeeperState). bitmap_at plan (j.era + 1) + index) (sym h.state) in
    let same = h.cleared in
    let m' : Hidden = record m { cleared = index + 1 } in
    let shown : Words plan (set s.words word 0) m' = subst (λ w. Words plan (set s.words w 0) m') (sym place) (clear_shows plan s.words m index (words_of plan s.words s.views m st) (omega arith) low st.plan_fits.blocks) in
    let fits : Fits plan m' id (cleared_to (index + 1) v) = record {
      stripes = tt;
      keepers = (record { own = h.own; state = h.state; cleared = refl }, tt);
      lanes = all_map _ _ q.lanes (λ p l. record { own = l.own; low = l.low; receipts = l.receipts }) fit.lanes;
      floor = fit.floor;
      apart = tt;
      begun = fit.begun;
      ended = fit.ended;
    } in
    let stands = view_moves plan s.words (set s.words word 0) s.views m (index + 1) id v (cleared_to (index + 1) v) st at (λ other. h.own) fits refl (λ d. refl) refl (λ l. refl) shown in
    (cleared_to (index + 1) v, keeps, tt, (m', stands), refl)
