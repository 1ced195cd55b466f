-- What all views put together show of stripes, as sums over stripes: who is inside, loose stays, and the stays of one stripe.
use Rattle.std.proofs.Common.{◌≡◌, ◌≢◌, ℕ, zero, suc, ◌+◌, ◌==◌, ◌||◌, cond, Bool, true, false, List, [], ◌∷◌, ◌++◌, length, refl, sym, ap, ◌∙◌, inl, inr, arith, eq-eqb, eqb-true, length-append}
use Rattle.std.specs.Prelude.{filter}
use Rattle.std.proofs.lemmas.Bool.{cases_Bool}
use Rattle.std.proofs.lemmas.List.{append-nil}
use Rattle.std.proofs.lemmas.List.Elements.{filter-append}
use Rattle.era_gate.specs.declared.parts.StripePart.{StripePart}
use Rattle.era_gate.specs.declared.plan.Plan.{Plan}
use Rattle.era_gate.specs.declared.states.StripeState.{StripeState}
use Rattle.era_gate.specs.declared.stays.Stay.{Stay}
use Rattle.era_gate.specs.Acts.{count, inside_of}
use Rattle.era_gate.specs.Invariant.{is_inside, stripe_stays}
use Rattle.era_gate.specs.Loose.{AreStaysOf, is_loose, loose_in, stays_of}
use Rattle.era_gate.specs.Parts.{has_stripe}
use Rattle.era_gate.specs.Receipts.{stays_at}
use Rattle.era_gate.specs.Rule.{Hidden, AreDistinct, Each}
use Rattle.era_gate.proofs.InvariantParts.{StripeShows, total, sum-parts}

-- a count is a sum
pub count-total : (n : ℕ) (test : ℕ → Bool) → count n test ≡ total n (λ d. cond (test d) 1 0)
count-total zero test = refl
count-total (suc n) test = ap (λ k. cond (test n) 1 0 + k) (count-total n test)

pub loose-total : (n place : ℕ) (ended : List ℕ) (stays : ℕ → List Stay) → loose_in n place ended stays ≡ total n (λ d. length (filter (is_loose place ended) (stays d)))
loose-total zero place ended stays = refl
loose-total (suc n) place ended stays = ap (λ k. length (filter (is_loose place ended) (stays n)) + k) (loose-total n place ended stays)

-- who is inside
pub inside-sum : (plan : Plan) (m : Hidden) (parts : List StripePart) → Each (StripeShows plan m) parts → length (filter is_inside parts) ≡ sum-parts (λ d. cond (inside_of m.account d) 1 0) parts
inside-sum plan m [] shows = refl
inside-sum plan m (part ∷ parts) shows =
    let rest = inside-sum plan m parts shows.1 in
    let here : inside_of m.account part.stripe ≡ is_inside part = ap (λ (s : StripeState). s.inside) shows.0.1.state in
    elim (cases_Bool (is_inside part)) [
      | inl on ↦ rw (here, on) (omega (arith, rest))
      | inr off ↦ rw (here, off) (omega (arith, rest))
    ]

-- stays that pass a test
pub stays-sum : (plan : Plan) (m : Hidden) (test : Stay → Bool) (parts : List StripePart) → Each (StripeShows plan m) parts → length (filter test (stripe_stays parts)) ≡ sum-parts (λ d. length (filter test (stays_of m.account d))) parts
stays-sum plan m test [] shows = refl
stays-sum plan m test (part ∷ parts) shows =
    let rest = stays-sum plan m test parts shows.1 in
    let here : stays_of m.account part.stripe ≡ part.state.stays = ap (λ (s : StripeState). s.stays) shows.0.1.state in
    rw (filter-append test part.state.stays (stripe_stays parts), length-append, here) (omega (arith, rest))

-- the stays of one stripe
at-same : (d places number : ℕ) (stays : List Stay) → AreStaysOf d places number stays → stays_at d stays ≡ stays
at-same d places number [] are = refl
at-same d places number (stay ∷ stays) are = rw (eq-eqb d stay.stripe (sym are.0)) (ap (λ ss. stay ∷ ss) (at-same d places (number + 1) stays are.3))

at-other : (d k places number : ℕ) (stays : List Stay) → d ≢ k → AreStaysOf k places number stays → stays_at d stays ≡ []
at-other d k places number [] differs are = refl
at-other d k places number (stay ∷ stays) differs are = elim (cases_Bool (d == stay.stripe)) [
  | inl on ↦ absurd (differs (eqb-true d stay.stripe on ∙ are.0))
  | inr off ↦ rw off (at-other d k places (number + 1) stays differs are.3)
]

pub stays-flat : (plan : Plan) (m : Hidden) (d : ℕ) (parts : List StripePart) → ((k : ℕ) → AreStaysOf k m.account.places 0 (stays_of m.account k)) → AreDistinct parts → Each (StripeShows plan m) parts
    → stays_at d (stripe_stays parts) ≡ cond (has_stripe d parts) (stays_of m.account d) []
stays-flat plan m d [] are distinct shows = refl
stays-flat plan m d (part ∷ parts) are distinct shows =
    let rest = stays-flat plan m d parts are distinct.1 shows.1 in
    let here : stays_of m.account part.stripe ≡ part.state.stays = ap (λ (s : StripeState). s.stays) shows.0.1.state in
    let parted : stays_at d (stripe_stays (part ∷ parts)) ≡ stays_at d (stays_of m.account part.stripe) ++ stays_at d (stripe_stays parts) =
    filter-append (λ (stay : Stay). d == stay.stripe) part.state.stays (stripe_stays parts) ∙ ap (λ ss. stays_at d ss ++ stays_at d (stripe_stays parts)) (sym here) in
    elim (cases_Bool (d == part.stripe)) [
      | inl on ↦
          let same : d ≡ part.stripe = eqb-true d part.stripe on in
          let alone : has_stripe d parts ≡ false = ap (λ k. has_stripe k parts) same ∙ distinct.0 in
          let none : stays_at d (stripe_stays parts) ≡ [] = rest ∙ ap (λ b. cond b (stays_of m.account d) []) alone in
          let mine : stays_at d (stays_of m.account part.stripe) ≡ stays_of m.account d = ap (λ k. stays_at d (stays_of m.account k)) (sym same) ∙ at-same d m.account.places 0 (stays_of m.account d) (are d) in
          parted ∙ (ap (λ ss. stays_at d (stays_of m.account part.stripe) ++ ss) none ∙ (append-nil (stays_at d (stays_of m.account part.stripe)) ∙ (mine ∙ sym (ap (λ b. cond (b || has_stripe d parts) (stays_of m.account d) []) on))))
      | inr off ↦
          let differs : d ≢ part.stripe = λ same. let on = eq-eqb d part.stripe same in absurd (not-both (d == part.stripe) on off) in
          parted ∙ (ap (λ ss. ss ++ stays_at d (stripe_stays parts)) (at-other d part.stripe m.account.places 0 (stays_of m.account part.stripe) differs (are part.stripe))
          ∙ (rest ∙ sym (ap (λ b. cond (b || has_stripe d parts) (stays_of m.account d) []) off)))
    ] where
      not-both : (b : Bool) → b ≡ true → b ≡ false → ⊥
      not-both true is never = absurd (cc)
      not-both false never is = absurd (cc)
