-- A pass may be cut in two by lanes, and two passes may be made one.
use Rattle.std.proofs.Common.{◌≡◌, ℕ, ◌≤◌, ◌==◌, ◌||◌, not, nat_lt, cond, filter, Bool, true, false, List, [], ◌∷◌, ◌++◌, refl, sym, ap, ◌∙◌, subst, arith, eqb-true}
use Rattle.atomic_table.specs.Table.{Splits, Joins}
use Rattle.era_gate.specs.declared.parts.LanePart.{LanePart}
use Rattle.era_gate.specs.declared.parts.PassPart.{PassPart}
use Rattle.era_gate.specs.declared.parts.View.{View}
use Rattle.era_gate.specs.declared.plan.Plan.{Plan}
use Rattle.era_gate.specs.Parts.{has_lane, no_pass, pass_view}
use Rattle.era_gate.specs.Rule.{Ruled, Each}
use Rattle.era_gate.specs.Calls.{joined_pass, cut_off, cut_down}
use Rattle.era_gate.proofs.Choices.{at_cond, clash, most_at}
use Rattle.era_gate.proofs.Splitting.{Cut, splits}
use Rattle.era_gate.proofs.Joining.{Merge, joins}

-- lists one after another
each_append : {A : Type 0} (P : A → Type 0) (xs ys : List A) → Each P xs → Each P ys → Each P (xs ++ ys)
each_append P [] ys all rest = rest
each_append P (x ∷ xs) ys all rest = (all.0, each_append P xs ys all.1 rest)

pub lanes_append : (l : ℕ) (xs ys : List LanePart) → has_lane l (xs ++ ys) ≡ (has_lane l xs || has_lane l ys)
lanes_append l [] ys = refl
lanes_append l (x ∷ xs) ys = ap (λ b. (l == x.lane) || b) (lanes_append l xs ys) ∙ grouped (l == x.lane) (has_lane l xs) (has_lane l ys) where
  grouped : (a b c : Bool) → (a || (b || c)) ≡ ((a || b) || c)
  grouped true b c = refl
  grouped false b c = refl

merge_passes : (q r : PassPart) → Merge (pass_view q) (pass_view r) (pass_view (joined_pass q r))
merge_passes q r = record {
  stripes = λ P all rest. tt;
  keepers = λ P all rest. tt;
  lanes = λ P all rest. each_append P q.lanes r.lanes all rest;
  has_stripes = λ d has. has;
  has_keepers = λ has. has;
  has_lanes = λ l has. lanes_append l q.lanes r.lanes ∙ has;
  distinct = λ one other away. tt;
  budget = refl;
  floor = λ n low high. omega arith;
  begun = λ d n low high. omega (arith, most_at q.begun r.begun d);
  ended = λ d n low high. omega (arith, most_at q.ended r.ended d);
}

pub join_at : (plan : Plan) (id other : ℕ) (v w : View) → v ≡ pass_view v.pass → w ≡ pass_view w.pass → Joins (Ruled plan) id v other w (pass_view (joined_pass v.pass w.pass)) (pass_view no_pass)
join_at plan id other v w is is' = subst (λ (z : View). Joins (Ruled plan) id z other w (pass_view (joined_pass v.pass w.pass)) (pass_view no_pass)) (sym is)
    (subst (λ (z : View). Joins (Ruled plan) id (pass_view v.pass) other z (pass_view (joined_pass v.pass w.pass)) (pass_view no_pass)) (sym is') (joins plan id other (pass_view v.pass) (pass_view w.pass) (pass_view (joined_pass v.pass w.pass)) (merge_passes v.pass w.pass)))

-- lanes below a number, and from it on
module _ (first : ℕ) where
  abbrev pub below : LanePart → Bool
  below part = nat_lt part.lane first

  abbrev pub above : LanePart → Bool
  above part = not (nat_lt part.lane first)

  each_kept : (test : LanePart → Bool) (P : LanePart → Type 0) (xs : List LanePart) → Each P xs → Each P (filter test xs)
  each_kept test P [] all = tt
  each_kept test P (x ∷ xs) all = at_cond (λ (ys : List LanePart). Each P ys) (test x) (x ∷ filter test xs) (filter test xs) (λ on. (all.0, each_kept test P xs all.1)) (λ off. each_kept test P xs all.1)

  -- a lane that passes is kept, and no other one
  kept_has : (test : LanePart → Bool) (l : ℕ) (b : Bool) (xs : List LanePart) → ((p : LanePart) → (l == p.lane) ≡ true → test p ≡ b) → has_lane l (filter test xs) ≡ cond b (has_lane l xs) false
  kept_has test l true [] says = refl
  kept_has test l false [] says = refl
  kept_has test l b (x ∷ xs) says = chosen b (test x) (l == x.lane) refl refl (says x) (kept_has test l b xs says) where
    chosen : (b t here : Bool) → test x ≡ t → (l == x.lane) ≡ here → ((l == x.lane) ≡ true → test x ≡ b) → has_lane l (filter test xs) ≡ cond b (has_lane l xs) false
        → has_lane l (cond t (x ∷ filter test xs) (filter test xs)) ≡ cond b ((l == x.lane) || has_lane l xs) false
    chosen true true here t h says' rest = ap (λ c. (l == x.lane) || c) rest
    chosen true false true t h says' rest = absurd (clash (says' h) t)
    chosen true false false t h says' rest = rest ∙ ap (λ c. c || has_lane l xs) (sym h)
    chosen false true true t h says' rest = absurd (clash t (says' h))
    chosen false true false t h says' rest = ap (λ c. c || has_lane l (filter test xs)) h ∙ rest
    chosen false false here t h says' rest = rest

  pub same_test : (l : ℕ) (p : LanePart) → (l == p.lane) ≡ true → below p ≡ nat_lt l first
  same_test l p is = ap (λ (k : ℕ). nat_lt k first) (sym (eqb-true l p.lane is))

  pub has_below : (l : ℕ) (xs : List LanePart) → has_lane l (filter below xs) ≡ cond (nat_lt l first) (has_lane l xs) false
  has_below l xs = kept_has below l (nat_lt l first) xs (same_test l)

  pub has_above : (l : ℕ) (xs : List LanePart) → has_lane l (filter above xs) ≡ cond (not (nat_lt l first)) (has_lane l xs) false
  has_above l xs = kept_has above l (not (nat_lt l first)) xs (λ p is. ap not (same_test l p is))

  -- each lane is on one side, and on one alone
  pub both_sides : (l : ℕ) (xs : List LanePart) → has_lane l xs ≡ (has_lane l (filter below xs) || has_lane l (filter above xs))
  both_sides l xs = rw (has_below l xs, has_above l xs) (either (nat_lt l first) (has_lane l xs)) where
    either : (b h : Bool) → h ≡ (cond b h false || cond (not b) h false)
    either true true = refl
    either true false = refl
    either false h = refl

  one_side : (l : ℕ) (xs : List LanePart) → has_lane l (filter below xs) ≡ true → has_lane l (filter above xs) ≡ false
  one_side l xs has = has_above l xs ∙ other (nat_lt l first) (has_lane l xs) (sym (has_below l xs) ∙ has) where
    other : (b h : Bool) → cond b h false ≡ true → cond (not b) h false ≡ false
    other true h is = refl
    other false h is = absurd (clash is refl)

cut_lanes : (q : PassPart) (first budget : ℕ) → budget ≤ q.budget → Cut (pass_view q) (pass_view (cut_down q first budget)) (pass_view (cut_off q first budget))
cut_lanes q first budget low = record {
  stripes_left = λ P all. tt;
  stripes_right = λ P all. tt;
  keepers_left = λ P all. tt;
  keepers_right = λ P all. tt;
  lanes_left = λ P all. each_kept first (λ part. nat_lt part.lane first) P q.lanes all;
  lanes_right = λ P all. each_kept first (λ part. not (nat_lt part.lane first)) P q.lanes all;
  stripe_sides = λ d has. has;
  keeper_sides = λ has. has;
  lane_sides = λ l has. sym (both_sides first l q.lanes) ∙ has;
  stripe_apart = λ away d has. refl;
  keeper_apart = λ has. refl;
  lane_apart = λ l has. one_side first l q.lanes has;
  budget = omega arith;
  floors = (omega arith, omega arith);
  distinct = λ away. (tt, tt);
  begun = λ d. (omega arith, omega arith);
  ended = λ d. (omega arith, omega arith);
}

pub split_at : (plan : Plan) (id : ℕ) (v : View) (first budget : ℕ) → v ≡ pass_view v.pass → budget ≤ v.pass.budget → Splits (Ruled plan) id v (pass_view (cut_down v.pass first budget)) (pass_view (cut_off v.pass first budget))
split_at plan id v first budget is low = subst (λ (z : View). Splits (Ruled plan) id z (pass_view (cut_down v.pass first budget)) (pass_view (cut_off v.pass first budget))) (sym is) (splits plan id (pass_view v.pass) (pass_view (cut_down v.pass first budget)) (pass_view (cut_off v.pass first budget)) (cut_lanes v.pass first budget low))
