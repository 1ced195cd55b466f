-- The stripes' seats may join the keeper's, and as many as stripes tell of all acts.
use Rattle.std.proofs.Common.{◌≡◌, ℕ, zero, suc, ◌+◌, ◌<◌, ◌≢◌, ◌==◌, ◌||◌, cond, Bool, true, false, List, [], ◌∷◌, length, slice_index, refl, sym, ap, ◌∙◌, subst, inl, inr, arith, eqb-true}
use Rattle.std.proofs.lemmas.Bool.{cases_eq}
use mathlib.Core.Option.{some, some-injective, some-ne-none}
use lib.ListN.{get_elem?}
use Rattle.atomic_table.specs.Table.{Joins, State}
use Rattle.era_gate.specs.declared.parts.StripePart.{StripePart}
use Rattle.era_gate.specs.declared.parts.View.{View}
use Rattle.era_gate.specs.declared.plan.Plan.{Plan}
use Rattle.era_gate.specs.Acts.{Act, Account, count}
use Rattle.era_gate.specs.Parts.{has_stripe, has_keeper, has_lane, no_pass, pass_view, stripe_view}
use Rattle.era_gate.specs.Rule.{Hidden, Standing, Ruled, Each, AreDistinct, StripeFits, LaneFits}
use Rattle.era_gate.specs.Plays.{part_of, keeper_of, with_stripe, with_stripes}
use Rattle.era_gate.specs.Tells.{Tells, reached}
use Rattle.era_gate.proofs.Choices.{clash, self_eq, count_below, count_more}
use Rattle.era_gate.proofs.Fitting.{all_map}
use Rattle.era_gate.proofs.Joining.{Merge, joins}

-- a stripe's view goes into another
merge_stripe : (v : View) (part : StripePart) → Merge v (stripe_view part) (with_stripe v (stripe_view part))
merge_stripe v part = record {
  stripes = λ P all one. (one.0, all);
  keepers = λ P all none_. all;
  lanes = λ P all none_. all;
  has_stripes = λ d has. turned (has_stripe d v.stripes) (d == part.stripe) has;
  has_keepers = λ has. only (has_keeper v.keepers) has;
  has_lanes = λ l has. only (has_lane l v.pass.lanes) has;
  distinct = λ apart one away. (absent (has_stripe part.stripe v.stripes) refl away, apart);
  budget = omega arith;
  floor = λ n low high. low;
  begun = λ d n low high. low;
  ended = λ d n low high. low;
} where
  turned : (a b : Bool) → (a || (b || false)) ≡ true → (b || a) ≡ true
  turned true true is = refl
  turned true false is = refl
  turned false true is = refl
  turned false false is = is

  only : (a : Bool) → (a || false) ≡ true → a ≡ true
  only true is = refl
  only false is = is

  absent : (b : Bool) → has_stripe part.stripe v.stripes ≡ b → ((d : ℕ) → has_stripe d v.stripes ≡ true → has_stripe d (part ∷ []) ≡ false) → b ≡ false
  absent true is away = absurd (clash (ap (λ b. b || false) (self_eq part.stripe)) (away part.stripe is))
  absent false is away = refl

pub stripe_in_at : (plan : Plan) (id other : ℕ) (v w : View) → w ≡ stripe_view (part_of w) → Joins (Ruled plan) id v other w (with_stripe v w) (pass_view no_pass)
stripe_in_at plan id other v w is = subst (λ (z : View). Joins (Ruled plan) id v other z (with_stripe v z) (pass_view no_pass)) (sym is)
    (joins plan id other v (stripe_view (part_of w)) (with_stripe v (stripe_view (part_of w))) (merge_stripe v (part_of w)))

-- none of no stripes passes
count_nobody : (n : ℕ) → count n (λ d. has_stripe d []) ≡ 0
count_nobody zero = refl
count_nobody (suc n) = let rest = count_nobody n in omega arith

-- different numbers below n are counted below n
counted : (n : ℕ) (parts : List StripePart) → Each (λ part. part.stripe < n) parts → AreDistinct parts → count n (λ d. has_stripe d parts) ≡ length parts
counted n [] low apart = count_nobody n
counted n (part ∷ parts) low apart =
    let one = count_more n (λ d. has_stripe d parts) (λ d. has_stripe d (part ∷ parts)) part.stripe low.0 apart.0 (ap (λ b. b || has_stripe part.stripe parts) (self_eq part.stripe)) (λ d other. off d (d == part.stripe) refl other) in
    let rest = counted n parts low.1 apart.1 in
    omega arith
  where
    off : (d : ℕ) (b : Bool) → (d == part.stripe) ≡ b → d ≢ part.stripe → (b || has_stripe d parts) ≡ has_stripe d parts
    off d true is other = absurd (other (eqb-true d part.stripe is))
    off d false is other = refl

-- where n numbers below n pass, each does
count_all : (n : ℕ) (f : ℕ → Bool) → count n f ≡ n → (d : ℕ) → d < n → f d ≡ true
count_all zero f all d lt = absurd (omega arith)
count_all (suc n) f all d lt = by_last (f n) refl (count_all n f) where
  by_last : (b : Bool) → f n ≡ b → (count n f ≡ n → (d : ℕ) → d < n → f d ≡ true) → f d ≡ true
  by_last true is rest =
      let sum : 1 + count n f ≡ suc n = subst (λ b. cond b 1 0 + count n f ≡ suc n) is all in
      elim (cases_eq d n) [
        | inl same ↦ rw same is
        | inr other ↦ rest (omega arith) d (omega arith)
      ]
  by_last false is rest =
      let sum : 0 + count n f ≡ suc n = subst (λ b. cond b 1 0 + count n f ≡ suc n) is all in
      let low = count_below n f in
      absurd (omega arith)

-- an index that is there has its number
at_index : (xs : List ℕ) (i n : ℕ) → get_elem? xs i ≡ some n → slice_index xs i ≡ n
at_index [] i n is = absurd (some-ne-none n (sym is))
at_index (x ∷ xs) zero n is = some-injective x n is
at_index (x ∷ xs) (suc i) n is = at_index xs i n is

-- the last state tells of its acts
module _ (plan : Plan) (id : ℕ) (parts : List StripePart) (v : View) where
  pub tells_of : (words : List ℕ) (views : List View) (m : Hidden) → Standing plan words views m → get_elem? views id ≡ some (with_stripes parts v) → length parts ≡ plan.stripes → ((l : ℕ) → l < 65 → has_lane l v.pass.lanes ≡ true)
      → Tells plan (slice_index words 1) parts (keeper_of v) v.pass.lanes m.acts
  tells_of words views m st at size lanes =
      let fit = st.views_fit id (with_stripes parts v) at in
      let is = st.account_is in
      let all : count plan.stripes (λ d. has_stripe d parts) ≡ plan.stripes = counted plan.stripes parts (all_map (StripeFits plan m id) (λ part. part.stripe < plan.stripes) parts (λ part h. h.low) fit.stripes) fit.apart ∙ size in
      record {
        legal = st.legal;
        drawn = ap (λ (a : Account). a.places) is ∙ sym st.order;
        stripes = all_map (StripeFits plan m id) (λ part. (part.stripe < plan.stripes) × ((reached plan m.acts).stripe part.stripe ≡ part.state)) parts
            (λ part h. (h.low, ap (λ (a : Account). a.stripe part.stripe) is ∙ h.state)) fit.stripes;
        keeper = ap (λ (a : Account). a.keeper) is ∙ fit.keepers.0.state;
        receipts = all_map (LaneFits m id) (λ part. (reached plan m.acts).lane part.lane ≡ part.receipts) v.pass.lanes (λ part h. ap (λ (a : Account). a.lane part.lane) is ∙ h.receipts) fit.lanes;
        apart = fit.apart;
        whole = count_all plan.stripes (λ d. has_stripe d parts) all;
        every_lane = lanes;
      }

  pub last_tells : (s : State (Unit {0}) View) (words : List ℕ) (n : ℕ) → Ruled plan s → get_elem? s.views id ≡ some (with_stripes parts v) → s.words ≡ words → get_elem? words 1 ≡ some n → length parts ≡ plan.stripes → ((l : ℕ) → l < 65 → has_lane l v.pass.lanes ≡ true)
      → (acts : List Act) × Tells plan n parts (keeper_of v) v.pass.lanes acts
  last_tells s words n ruled at same word size lanes =
      let m : Hidden = ruled.0 in
      let tells = tells_of s.words s.views m ruled.1 at size lanes in
      let is : slice_index s.words 1 ≡ n = ap (λ (ws : List ℕ). slice_index ws 1) same ∙ at_index words 1 n word in
      (m.acts, subst (λ (k : ℕ). Tells plan k parts (keeper_of v) v.pass.lanes m.acts) is tells)
