-- A gate may be made, and its first view cut into seats.
use Rattle.std.proofs.Common.{◌≡◌, ℕ, zero, suc, ◌+◌, ◌-◌, ◌*◌, ◌/◌, ◌%◌, ◌<◌, ◌≤◌, ◌==◌, ◌||◌, Bool, true, false, List, [], ◌∷◌, ◌++◌, length, set, replicate, slice_index, refl, sym, ap, ◌∙◌, subst, inl, inr, arith, length-set, get_or-set_same, get_or-set_other, eq-eqb, ne_eqb}
use Rattle.std.proofs.lemmas.Bool.{cases_eq}
use mathlib.Core.Option.{some, some-injective, some-ne-none}
use lib.ListN.{get_elem?}
use Rattle.atomic_table.specs.Table.{opening, Splits}
use Rattle.era_base.specs.Bits.{bit_of}
use Rattle.era_base.specs.Flags.{tabulate}
use Rattle.era_gate.specs.declared.parts.StripePart.{StripePart}
use Rattle.era_gate.specs.declared.parts.KeeperPart.{KeeperPart}
use Rattle.era_gate.specs.declared.parts.View.{View}
use Rattle.era_gate.specs.declared.plan.Plan.{Plan}
use Rattle.era_gate.specs.Acts.{opened, count}
use Rattle.era_gate.specs.Parts.{new_stripe, new_lane, new_pass, has_stripe, has_lane, first_view, stripe_view, keeper_view}
use Rattle.era_gate.specs.Rule.{Hidden, Ruled, Standing, Fits, StripeFits, LaneFits, Each, AreDistinct, IsPlan, bitmap_at}
use Rattle.era_gate.specs.Calls.{StripeToken, TableId, new_seat}
use Rattle.era_gate.specs.Plays.{Sat, part_of, keeper_of, without_stripe, without_keeper, other_stripes, first_words, IsRow, IsFirstStripe}
use Rattle.era_gate.proofs.Choices.{clash}
use Rattle.era_gate.proofs.Bitmaps.{bit_zero}
use Rattle.era_gate.proofs.Splitting.{splits}
use Rattle.era_gate.proofs.Cuts.{cut_stripe, cut_keeper}

-- zeros
pub zero_at : (n i : ℕ) → slice_index (replicate n 0) i ≡ 0
zero_at zero i = refl
zero_at (suc n) zero = refl
zero_at (suc n) (suc i) = zero_at n i

pub length_zeros : (n : ℕ) → length {A = ℕ} (replicate n 0) ≡ n
length_zeros zero = refl
length_zeros (suc n) = ap suc (length_zeros n)

-- nobody is inside
count_zero : (n : ℕ) → count n (λ d. false) ≡ 0
count_zero zero = refl
count_zero (suc n) = let rest = count_zero n in omega arith

-- the stripes of the first view
has_new : (d i c : ℕ) → i ≤ d → d < i + c → has_stripe d (tabulate i c new_stripe) ≡ true
has_new d i zero low high = absurd (omega arith)
has_new d i (suc c) low high = elim (cases_eq d i) [
  | inl here ↦ ap (λ b. b || has_stripe d (tabulate (i + 1) c new_stripe)) (eq-eqb d i here)
  | inr later ↦ behind (d == i) (has_stripe d (tabulate (i + 1) c new_stripe)) (has_new d (i + 1) c (omega arith) (omega arith))
] where
  behind : (a b : Bool) → b ≡ true → (a || b) ≡ true
  behind true b is = refl
  behind false b is = is

none_before : (d i c : ℕ) → d < i → has_stripe d (tabulate i c new_stripe) ≡ false
none_before d i zero low = refl
none_before d i (suc c) low = rw (ne_eqb d i (λ same. absurd (omega arith)), none_before d (i + 1) c (omega arith)) refl

all_distinct : (i c : ℕ) → AreDistinct (tabulate i c new_stripe)
all_distinct i zero = tt
all_distinct i (suc c) = (none_before i (i + 1) c (omega arith), all_distinct (i + 1) c)

has_new_lane : (l i c : ℕ) → i ≤ l → l < i + c → has_lane l (tabulate i c new_lane) ≡ true
has_new_lane l i zero low high = absurd (omega arith)
has_new_lane l i (suc c) low high = elim (cases_eq l i) [
  | inl here ↦ ap (λ b. b || has_lane l (tabulate (i + 1) c new_lane)) (eq-eqb l i here)
  | inr later ↦ behind (l == i) (has_lane l (tabulate (i + 1) c new_lane)) (has_new_lane l (i + 1) c (omega arith) (omega arith))
] where
  behind : (a b : Bool) → b ≡ true → (a || b) ≡ true
  behind true b is = refl
  behind false b is = is

-- the first pass has all lanes
pub all_lanes : (l : ℕ) → l < 65 → has_lane l new_pass.lanes ≡ true
all_lanes l low = has_new_lane l 0 65 (omega arith) (omega arith)

abbrev pub first_hidden : Plan → Hidden
first_hidden plan = record { acts = []; account = opened plan.era; cleared = 0; stripe_owner = λ d. 0; keeper_owner = 0; lane_owner = λ l. 0 }

each_new : (plan : Plan) (i c : ℕ) → i + c ≤ plan.stripes → Each (StripeFits plan (first_hidden plan) 0) (tabulate i c new_stripe)
each_new plan i zero low = tt
each_new plan i (suc c) low = (record { own = refl; low = omega arith; state = refl; era = λ inside. absurd (clash inside refl); seen = tt }, each_new plan (i + 1) c (omega arith))

each_lane : (plan : Plan) (i c : ℕ) → i + c ≤ 65 → Each (LaneFits (first_hidden plan) 0) (tabulate i c new_lane)
each_lane plan i zero low = tt
each_lane plan i (suc c) low = (record { own = refl; low = omega (arith, low); receipts = refl }, each_lane plan (i + 1) c (omega (arith, low)))

first_fits : (plan : Plan) → Fits plan (first_hidden plan) 0 (first_view plan)
first_fits plan = record {
  stripes = each_new plan 0 plan.stripes (omega arith);
  keepers = (record { own = refl; state = refl; cleared = refl }, tt);
  lanes = each_lane plan 0 65 (omega arith);
  floor = omega arith;
  apart = all_distinct 0 plan.stripes;
  begun = λ d. omega arith;
  ended = λ d. omega arith;
}

only_view : {A : Type 0} (v w : A) (id : ℕ) → get_elem? (v ∷ []) id ≡ some w → (id ≡ 0) × (v ≡ w)
only_view v w zero at = (refl, some-injective v w at)
only_view v w (suc id) at = absurd (some-ne-none w (sym at))

-- the rule of a gate that was just made
pub first_stands : (plan : Plan) → IsPlan plan → plan.era < 4294967296 → Standing plan (first_words plan) (first_view plan ∷ []) (first_hidden plan)
first_stands plan fits era = record {
  plan_fits = fits;
  size = size;
  era_fits = era;
  account_is = refl;
  legal = tt;
  gate = get_or-set_same (replicate (2 + 2 * plan.words) 0) 0 (plan.era * 4294967296) 0 (omega (arith, zeros)) ∙ omega (arith, count_zero plan.stripes);
  order = rest 1 (omega arith);
  budget = omega arith;
  bits = λ block low on. absurd (clash on (ap (λ k. bit_of k (block % 64)) (rest (bitmap_at plan plan.era + block / 64) (omega arith)) ∙ bit_zero (block % 64)));
  spare = λ i low. absurd (omega arith);
  spare_low = omega arith;
  views_fit = λ id view at. let one = only_view (first_view plan) view id at in subst (λ k. Fits plan (first_hidden plan) k view) (sym one.0) (subst (Fits plan (first_hidden plan) 0) one.1 (first_fits plan));
  there = record {
    stripes = λ d low. (first_view plan, refl, has_new d 0 plan.stripes (omega arith) (omega arith));
    keeper = (first_view plan, refl, refl);
    lanes = λ l low. (first_view plan, refl, all_lanes l low);
  };
} where
  zeros : length {A = ℕ} (replicate (2 + 2 * plan.words) 0) ≡ 2 + 2 * plan.words
  zeros = length_zeros (2 + 2 * plan.words)

  size : length (set (replicate (2 + 2 * plan.words) 0) 0 (plan.era * 4294967296)) ≡ 2 + 2 * plan.words
  size = length-set (replicate (2 + 2 * plan.words) 0) 0 (plan.era * 4294967296) ∙ zeros

  rest : (i : ℕ) → 0 < i → slice_index (set (replicate (2 + 2 * plan.words) 0) 0 (plan.era * 4294967296)) i ≡ 0
  rest i low = get_or-set_other (replicate (2 + 2 * plan.words) 0) 0 i (plan.era * 4294967296) 0 (λ same. absurd (omega arith)) ∙ zero_at (2 + 2 * plan.words) i

pub made : (plan : Plan) → IsPlan plan → plan.era < 4294967296 → Ruled plan (opening (first_words plan) [] (first_view plan))
made plan fits era = (first_hidden plan, first_stands plan fits era)

-- a view's first stripe, and the keeper, may go to seats of their own
pub stripe_off_at : (plan : Plan) (id : ℕ) (v : View) (p : StripePart) → v.stripes ≡ p ∷ other_stripes v.stripes → Splits (Ruled plan) id v (without_stripe v) (stripe_view (part_of v))
stripe_off_at plan id v p is =
    subst (λ (ss : List StripePart). Splits (Ruled plan) id (record { stripes = ss; keepers = v.keepers; pass = v.pass }) (record { stripes = other_stripes ss; keepers = v.keepers; pass = v.pass }) (stripe_view (part_of (record { stripes = ss; keepers = v.keepers; pass = v.pass })))) (sym is)
    (splits plan id (record { stripes = p ∷ other_stripes v.stripes; keepers = v.keepers; pass = v.pass }) (record { stripes = other_stripes v.stripes; keepers = v.keepers; pass = v.pass }) (stripe_view p) (cut_stripe p (other_stripes v.stripes) v.keepers v.pass))

pub keeper_off_at : (plan : Plan) (id : ℕ) (v : View) (k : KeeperPart) → v.keepers ≡ k ∷ [] → Splits (Ruled plan) id v (without_keeper v) (keeper_view (keeper_of v))
keeper_off_at plan id v k is =
    subst (λ (ks : List KeeperPart). Splits (Ruled plan) id (record { stripes = v.stripes; keepers = ks; pass = v.pass }) (without_keeper v) (keeper_view (keeper_of (record { stripes = v.stripes; keepers = ks; pass = v.pass })))) (sym is)
    (splits plan id (record { stripes = v.stripes; keepers = k ∷ []; pass = v.pass }) (without_keeper v) (keeper_view k) (cut_keeper v.stripes k v.pass))

-- values of a function in a row: the first, and one more
pub tabulate_first : {A : Type 0} (f : ℕ → A) (i n : ℕ) → i < n → tabulate i (n - i) f ≡ f i ∷ tabulate (i + 1) (n - (i + 1)) f
tabulate_first f i n low = let more : n - i ≡ suc (n - (i + 1)) = omega arith in ap (λ c. tabulate i c f) more

pub tabulate_last : {A : Type 0} (f : ℕ → A) (i c : ℕ) → tabulate i (c + 1) f ≡ tabulate i c f ++ f (i + c) ∷ []
tabulate_last f i zero = ap (λ (k : ℕ). f k ∷ []) (omega arith)
tabulate_last f i (suc c) =
    let more : suc c + 1 ≡ suc (c + 1) = omega arith in
    let place : i + 1 + c ≡ i + suc c = omega arith in
    ap (λ k. tabulate i k f) more ∙ ap (λ ys. f i ∷ ys) (tabulate_last f (i + 1) c ∙ ap (λ (k : ℕ). tabulate (i + 1) c f ++ f k ∷ []) place)

-- a row of stripes: the first, what is left without it, and the seats so far
pub row_first : (d n : ℕ) (v : View) (me : Sat) → d < n → IsRow d n v me → IsFirstStripe d me
row_first d n v me low is =
    let e : me ≡ (record { stripes = new_stripe d ∷ tabulate (d + 1) (n - (d + 1)) new_stripe; keepers = v.keepers; pass = v.pass }, []) =
    is ∙ ap (λ (ss : List StripePart). (record { stripes = ss; keepers = v.keepers; pass = v.pass }, [])) (tabulate_first new_stripe d n low) in
    e ∙ ap (λ (z : Sat). (record { stripes = new_stripe d ∷ other_stripes z.0.stripes; keepers = z.0.keepers; pass = z.0.pass }, [])) (sym e)

pub row_next : (d n : ℕ) (v : View) (me me' : Sat) → d < n → IsRow d n v me → me' ≡ (without_stripe me.0, []) → IsRow (d + 1) n v me'
row_next d n v me me' low is next =
    let e : me ≡ (record { stripes = new_stripe d ∷ tabulate (d + 1) (n - (d + 1)) new_stripe; keepers = v.keepers; pass = v.pass }, []) =
    is ∙ ap (λ (ss : List StripePart). (record { stripes = ss; keepers = v.keepers; pass = v.pass }, [])) (tabulate_first new_stripe d n low) in
    next ∙ ap (λ (z : Sat). (without_stripe z.0, [])) e

pub row_pushed : (seats seats' : List StripeToken) (t t' : TableId) (k : ℕ) (s : StripeToken) → seats' ≡ seats ++ s ∷ [] → seats ≡ tabulate 0 k (new_seat t) → s ≡ new_seat t' k → t' ≡ t → seats' ≡ tabulate 0 (k + 1) (new_seat t)
row_pushed seats seats' t t' k s pushed so_far is same =
    let place : 0 + k ≡ k = omega arith in
    let one : s ≡ new_seat t k = is ∙ ap (λ (z : TableId). new_seat z k) same in
    pushed ∙ (ap (λ (xs : List StripeToken). xs ++ s ∷ []) so_far ∙ (ap (λ (x : StripeToken). tabulate 0 k (new_seat t) ++ x ∷ []) (one ∙ ap (new_seat t) (sym place)) ∙ sym (tabulate_last (new_seat t) 0 k)))
