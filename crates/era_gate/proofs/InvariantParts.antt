-- The parts of all views put together: each shows the account, each stripe is there once, and sums over them are sums over all stripes.
use Rattle.std.proofs.Common.{◌≡◌, ◌≢◌, ℕ, zero, suc, ◌+◌, ◌<◌, ◌==◌, ◌||◌, cond, Bool, true, false, List, [], ◌∷◌, ◌++◌, refl, sym, ap, ◌∙◌, subst, inl, inr, arith, eq-eqb, eqb-true}
use Rattle.std.proofs.lemmas.Bool.{cases_Bool}
use mathlib.Core.Option.{some}
use lib.ListN.{get_elem?}
use Rattle.era_gate.specs.declared.parts.StripePart.{StripePart}
use Rattle.era_gate.specs.declared.parts.KeeperPart.{KeeperPart}
use Rattle.era_gate.specs.declared.parts.LanePart.{LanePart}
use Rattle.era_gate.specs.declared.parts.View.{View}
use Rattle.era_gate.specs.declared.plan.Plan.{Plan}
use Rattle.era_gate.specs.Invariant.{all_stripes, all_keepers, all_lanes}
use Rattle.era_gate.specs.Parts.{has_stripe, has_keeper}
use Rattle.era_gate.specs.Rule.{Hidden, Fits, StripeFits, KeeperFits, LaneFits, AreDistinct, Each}
use Rattle.era_gate.proofs.Choices.{clash}
use Rattle.era_gate.proofs.Fitting.{all_map}
use Rattle.era_gate.proofs.Splitting.{stripe_owned}

-- a fact of each item, for two lists put together
pub each-append : {A : Type 0} (P : A → Type 0) (xs ys : List A) → Each P xs → Each P ys → Each P (xs ++ ys)
each-append P [] ys p q = q
each-append P (x ∷ xs) ys p q = (p.0, each-append P xs ys p.1 q)

-- views that fit, from a number on
abbrev pub FitFrom : Plan → Hidden → ℕ → List View → Type 0
FitFrom plan m k [] = Unit {0}
FitFrom plan m k (v ∷ vs) = Fits plan m k v × FitFrom plan m (k + 1) vs

pub fit-from : (plan : Plan) (m : Hidden) (k : ℕ) (vs : List View) → ((id : ℕ) (view : View) → get_elem? vs id ≡ some view → Fits plan m (k + id) view) → FitFrom plan m k vs
fit-from plan m k [] fits = tt
fit-from plan m k (v ∷ vs) fits =
    let here : k + 0 ≡ k = omega arith in (
      subst (λ (j : ℕ). Fits plan m j v) here (fits 0 v refl),
      fit-from plan m (k + 1) vs
          (λ id view at. let later : k + suc id ≡ k + 1 + id = omega arith in subst (λ (j : ℕ). Fits plan m j view) later (fits (suc id) view at)),
    )

-- a part fits in some view
abbrev pub StripeShows : Plan → Hidden → StripePart → Type 0
StripeShows plan m part = (id : ℕ) × StripeFits plan m id part

abbrev pub KeeperShows : Hidden → KeeperPart → Type 0
KeeperShows m part = (id : ℕ) × KeeperFits m id part

abbrev pub LaneShows : Hidden → LanePart → Type 0
LaneShows m part = (id : ℕ) × LaneFits m id part

pub stripes-show : (plan : Plan) (m : Hidden) (k : ℕ) (vs : List View) → FitFrom plan m k vs → Each (StripeShows plan m) (all_stripes vs)
stripes-show plan m k [] fits = tt
stripes-show plan m k (v ∷ vs) fits = each-append (StripeShows plan m) v.stripes (all_stripes vs)
    (all_map (StripeFits plan m k) (StripeShows plan m) v.stripes (λ part h. (k, h)) fits.0.stripes) (stripes-show plan m (k + 1) vs fits.1)

pub keepers-show : (plan : Plan) (m : Hidden) (k : ℕ) (vs : List View) → FitFrom plan m k vs → Each (KeeperShows m) (all_keepers vs)
keepers-show plan m k [] fits = tt
keepers-show plan m k (v ∷ vs) fits = each-append (KeeperShows m) v.keepers (all_keepers vs)
    (all_map (KeeperFits m k) (KeeperShows m) v.keepers (λ part h. (k, h)) fits.0.keepers) (keepers-show plan m (k + 1) vs fits.1)

pub lanes-show : (plan : Plan) (m : Hidden) (k : ℕ) (vs : List View) → FitFrom plan m k vs → Each (LaneShows m) (all_lanes vs)
lanes-show plan m k [] fits = tt
lanes-show plan m k (v ∷ vs) fits = each-append (LaneShows m) v.pass.lanes (all_lanes vs)
    (all_map (LaneFits m k) (LaneShows m) v.pass.lanes (λ part h. (k, h)) fits.0.lanes) (lanes-show plan m (k + 1) vs fits.1)

-- a fact of each view that fits
pub views-keep : (plan : Plan) (m : Hidden) (k : ℕ) (P : View → Type 0) (vs : List View) → ((id : ℕ) (view : View) → Fits plan m id view → P view) → FitFrom plan m k vs → Each P vs
views-keep plan m k P [] f fits = tt
views-keep plan m k P (v ∷ vs) f fits = (f k v fits.0, views-keep plan m (k + 1) P vs f fits.1)

-- a stripe among two lists
or-assoc : (a b c : Bool) → (a || (b || c)) ≡ ((a || b) || c)
or-assoc true b c = refl
or-assoc false b c = refl

pub has-append : (d : ℕ) (xs ys : List StripePart) → has_stripe d (xs ++ ys) ≡ (has_stripe d xs || has_stripe d ys)
has-append d [] ys = refl
has-append d (x ∷ xs) ys = ap (λ b. d == x.stripe || b) (has-append d xs ys) ∙ or-assoc (d == x.stripe) (has_stripe d xs) (has_stripe d ys)

distinct-append : (xs ys : List StripePart) → AreDistinct xs → AreDistinct ys → Each (λ (p : StripePart). has_stripe p.stripe ys ≡ false) xs → AreDistinct (xs ++ ys)
distinct-append [] ys a b c = b
distinct-append (x ∷ xs) ys a b c = (has-append x.stripe xs ys ∙ (ap (λ b. b || has_stripe x.stripe ys) a.0 ∙ c.0), distinct-append xs ys a.1 b c.1)

-- a stripe of an earlier view isn't in the later ones
later-lacks : (plan : Plan) (m : Hidden) (k d : ℕ) (vs : List View) → FitFrom plan m k vs → m.stripe_owner d < k → has_stripe d (all_stripes vs) ≡ false
later-lacks plan m k d [] fits lt = refl
later-lacks plan m k d (v ∷ vs) fits lt =
    let rest = later-lacks plan m (k + 1) d vs fits.1 (omega arith) in
    let here : has_stripe d v.stripes ≡ false = elim (cases_Bool (has_stripe d v.stripes)) [
      | inl on ↦ let own = stripe_owned plan m k d v.stripes on fits.0.stripes in absurd (omega (arith, own))
      | inr off ↦ off
    ] in
    has-append d v.stripes (all_stripes vs) ∙ (ap (λ b. b || has_stripe d (all_stripes vs)) here ∙ rest)

pub all-distinct : (plan : Plan) (m : Hidden) (k : ℕ) (vs : List View) → FitFrom plan m k vs → AreDistinct (all_stripes vs)
all-distinct plan m k [] fits = tt
all-distinct plan m k (v ∷ vs) fits = distinct-append v.stripes (all_stripes vs) fits.0.apart (all-distinct plan m (k + 1) vs fits.1)
    (all_map (StripeFits plan m k) (λ (p : StripePart). has_stripe p.stripe (all_stripes vs) ≡ false) v.stripes
    (λ p h. let own = h.own in later-lacks plan m (k + 1) p.stripe vs fits.1 (omega (arith, own))) fits.0.stripes)

-- a stripe of one view is there
pub or-left : (a b : Bool) → a ≡ true → (a || b) ≡ true
or-left true b is = refl
or-left false b is = absurd (clash is refl)

pub or-right : (a b : Bool) → b ≡ true → (a || b) ≡ true
or-right true b is = refl
or-right false b is = is

pub has-among : (d : ℕ) (vs : List View) (id : ℕ) (view : View) → get_elem? vs id ≡ some view → has_stripe d view.stripes ≡ true → has_stripe d (all_stripes vs) ≡ true
has-among d [] id view at has = absurd (cc)
has-among d (v ∷ vs) zero view at has =
    let same : v ≡ view = cc in
    has-append d v.stripes (all_stripes vs) ∙ or-left (has_stripe d v.stripes) (has_stripe d (all_stripes vs)) (ap (λ (w : View). has_stripe d w.stripes) same ∙ has)
has-among d (v ∷ vs) (suc id) view at has = has-append d v.stripes (all_stripes vs) ∙ or-right (has_stripe d v.stripes) (has_stripe d (all_stripes vs)) (has-among d vs id view at has)

-- a keeper of one view is there
keeper-left : (ks ls : List KeeperPart) → has_keeper ks ≡ true → has_keeper (ks ++ ls) ≡ true
keeper-left [] ls is = absurd (clash is refl)
keeper-left (k ∷ ks) ls is = refl

keeper-right : (ks ls : List KeeperPart) → has_keeper ls ≡ true → has_keeper (ks ++ ls) ≡ true
keeper-right [] ls is = is
keeper-right (k ∷ ks) ls is = refl

pub has-keepers : (vs : List View) (id : ℕ) (view : View) → get_elem? vs id ≡ some view → has_keeper view.keepers ≡ true → has_keeper (all_keepers vs) ≡ true
has-keepers [] id view at has = absurd (cc)
has-keepers (v ∷ vs) zero view at has = let same : v ≡ view = cc in keeper-left v.keepers (all_keepers vs) (ap (λ (w : View). has_keeper w.keepers) same ∙ has)
has-keepers (v ∷ vs) (suc id) view at has = keeper-right v.keepers (all_keepers vs) (has-keepers vs id view at has)

-- a sum over the numbers below n
abbrev pub total : ℕ → (ℕ → ℕ) → ℕ
total zero w = 0
total (suc n) w = w n + total n w

total-same : (n : ℕ) (f g : ℕ → ℕ) → ((d : ℕ) → d < n → f d ≡ g d) → total n f ≡ total n g
total-same zero f g same = refl
total-same (suc n) f g same = let here = same n (omega arith) in let rest = total-same n f g (λ d lt. same d (omega arith)) in omega (arith, here, rest)

total-none : (n : ℕ) → total n (λ d. 0) ≡ 0
total-none zero = refl
total-none (suc n) = let rest = total-none n in omega (arith, rest)

total-more : (n : ℕ) (f g : ℕ → ℕ) (k x : ℕ) → k < n → g k ≡ x + f k → ((d : ℕ) → d ≢ k → g d ≡ f d) → total n g ≡ x + total n f
total-more zero f g k x lt more else' = absurd (omega arith)
total-more (suc n) f g k x lt more else' = elim (cases_Bool (n == k)) [
  | inl on ↦
      let same : n ≡ k = eqb-true n k on in
      let here : g n ≡ x + f n = subst (λ (j : ℕ). g j ≡ x + f j) (sym same) more in
      let rest = total-same n g f (λ d low. else' d (λ is. absurd (omega (arith, same, is)))) in
      omega (arith, here, rest)
  | inr off ↦
      let differs : n ≢ k = λ is. clash (eq-eqb n k is) off in
      let here = else' n differs in
      let rest = total-more n f g k x (omega (arith, differs)) more else' in
      omega (arith, here, rest)
]

-- a sum over stripes that are there
abbrev pub sum-parts : (ℕ → ℕ) → List StripePart → ℕ
sum-parts w [] = 0
sum-parts w (part ∷ parts) = w part.stripe + sum-parts w parts

sum-there : (n : ℕ) (w : ℕ → ℕ) (parts : List StripePart) → AreDistinct parts → Each (λ (p : StripePart). p.stripe < n) parts → sum-parts w parts ≡ total n (λ d. cond (has_stripe d parts) (w d) 0)
sum-there n w [] distinct low = sym (total-none n)
sum-there n w (part ∷ parts) distinct low =
    ap (λ k. w part.stripe + k) (sum-there n w parts distinct.1 low.1)
    ∙ sym (total-more n (λ d. cond (has_stripe d parts) (w d) 0) (λ d. cond (d == part.stripe || has_stripe d parts) (w d) 0) part.stripe (w part.stripe) low.0 more else') where
      more : cond (part.stripe == part.stripe || has_stripe part.stripe parts) (w part.stripe) 0 ≡ w part.stripe + cond (has_stripe part.stripe parts) (w part.stripe) 0
      more = rw (eq-eqb part.stripe part.stripe refl, distinct.0) (omega arith)

      else' : (d : ℕ) → d ≢ part.stripe → cond (d == part.stripe || has_stripe d parts) (w d) 0 ≡ cond (has_stripe d parts) (w d) 0
      else' d differs = elim (cases_Bool (d == part.stripe)) [
        | inl on ↦ absurd (differs (eqb-true d part.stripe on))
        | inr off ↦ ap (λ b. cond (b || has_stripe d parts) (w d) 0) off
      ]

pub sum-whole : (n : ℕ) (w : ℕ → ℕ) (parts : List StripePart) → AreDistinct parts → Each (λ (p : StripePart). p.stripe < n) parts → ((d : ℕ) → d < n → has_stripe d parts ≡ true) → sum-parts w parts ≡ total n w
sum-whole n w parts distinct low all = sum-there n w parts distinct low
    ∙ total-same n (λ d. cond (has_stripe d parts) (w d) 0) w (λ d lt. ap (λ b. cond b (w d) 0) (all d lt))
