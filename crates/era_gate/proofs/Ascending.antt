-- The places of what each stripe drew ascend, and those of the keeper; so the next place is above them.
use Rattle.std.proofs.Common.{◌≡◌, ℕ, ◌+◌, ◌<◌, ◌≤◌, ◌^◌, ◌==◌, cond, Bool, List, [], ◌∷◌, ◌++◌, sym, subst, arith}
use Rattle.std.specs.Prelude.{All}
use Rattle.std.proofs.lemmas.Bool.{cond_both}
use Rattle.std.proofs.lemmas.List.Elements.{All-nil, All-cons}
use Rattle.era_model.specs.declared.entry.Entry.{Entry}
use Rattle.era_model.specs.declared.event.Event.{Event}
use Rattle.era_gate.specs.declared.states.StripeState.{StripeState}
use Rattle.era_gate.specs.declared.states.KeeperState.{KeeperState}
use Rattle.era_gate.specs.Acts.{Act, Account, stripe_drew, keeper_drew, after, reach, opened, entry, stripe_with}
use Rattle.era_gate.specs.Drawn.{drawn_by_stripe, drawn_by_keeper}
use Rattle.era_gate.specs.Places.{AscendFrom, IsNextPlace}
use Rattle.era_gate.proofs.Choices.{self_eq}
use Rattle.era_gate.proofs.DrawnEntries.{stripe-drawn, keeper-drawn}

-- entries that ascend do so from an earlier place
ascend-earlier : (place later : ℕ) (es : List Entry) → place ≤ later → AscendFrom later es → AscendFrom place es
ascend-earlier place later [] le ascend = tt
ascend-earlier place later (e ∷ es) le ascend = let above : later ≤ e.place = ascend.0 in (omega arith, ascend.1)

-- a stripe's entries ascend, and the keeper's
pub stripe-ascend : (d place : ℕ) (acts : List Act) → AscendFrom place (drawn_by_stripe d place acts)
stripe-ascend d place [] = tt
stripe-ascend d place (stripe_drew k event ∷ acts) =
    let rest = stripe-ascend d (place + 1) acts in
    cond_both (d == k) (entry place event ∷ drawn_by_stripe d (place + 1) acts) (drawn_by_stripe d (place + 1) acts) (AscendFrom place)
    (λ on. (omega arith, rest)) (λ off. ascend-earlier place (place + 1) (drawn_by_stripe d (place + 1) acts) (omega arith) rest)
stripe-ascend d place (keeper_drew event ∷ acts) = ascend-earlier place (place + 1) (drawn_by_stripe d (place + 1) acts) (omega arith) (stripe-ascend d (place + 1) acts)
stripe-ascend d place (act ∷ acts) = stripe-ascend d place acts

pub keeper-ascend : (place : ℕ) (acts : List Act) → AscendFrom place (drawn_by_keeper place acts)
keeper-ascend place [] = tt
keeper-ascend place (stripe_drew k event ∷ acts) = ascend-earlier place (place + 1) (drawn_by_keeper (place + 1) acts) (omega arith) (keeper-ascend (place + 1) acts)
keeper-ascend place (keeper_drew event ∷ acts) = (omega arith, keeper-ascend (place + 1) acts)
keeper-ascend place (act ∷ acts) = keeper-ascend place acts

pub stripe-ascends : (d era : ℕ) (acts : List Act) → AscendFrom 0 ((reach (opened era) acts).stripe d).entries
stripe-ascends d era acts = subst (AscendFrom 0) (sym (stripe-drawn d (opened era) acts)) (stripe-ascend d 0 acts)

pub keeper-ascends : (era : ℕ) (acts : List Act) → AscendFrom 0 (reach (opened era) acts).keeper.entries
keeper-ascends era acts = subst (AscendFrom 0) (sym (keeper-drawn (opened era) acts)) (keeper-ascend 0 acts)

-- an entry behind ascending ones is above them
last-above : (first place : ℕ) (event : Event) (es : List Entry) → AscendFrom first (es ++ entry place event ∷ []) → first ≤ place
last-above first place event [] ascend = ascend.0
last-above first place event (e ∷ es) ascend =
    let low : first ≤ e.place = ascend.0 in
    let rest = last-above (e.place + 1) place event es ascend.1 in
    omega (arith, low, rest)

all-below : (first place : ℕ) (event : Event) (es : List Entry) → AscendFrom first (es ++ entry place event ∷ []) → All (λ (e : Entry). e.place < place) es
all-below first place event [] ascend = All-nil (λ (e : Entry). e.place < place)
all-below first place event (e ∷ es) ascend =
    let next = last-above (e.place + 1) place event es ascend.1 in
    All-cons (λ (x : Entry). x.place < place) e es (omega (arith, next)) (all-below (e.place + 1) place event es ascend.1)

-- a place by which ascending entries go on is the next one
pub next-place : (place floor : ℕ) (event : Event) (es : List Entry) → floor ≤ place → place < 2 ^ 60 → AscendFrom 0 (es ++ entry place event ∷ []) → IsNextPlace place floor es (es ++ entry place event ∷ [])
next-place place floor event es low limit ascend = record { floor = low; limit = limit; above = all-below 0 place event es ascend; ascend = ascend }

-- a stripe's entries ascend with the one that it draws last, and the keeper's
pub stripe-next : (era : ℕ) (acts : List Act) (a : Account) (d : ℕ) (event : Event) (s : StripeState) → reach (opened era) acts ≡ after a (stripe_drew d event) → a.stripe d ≡ s
    → AscendFrom 0 (s.entries ++ entry a.places event ∷ [])
stripe-next era acts a d event s is at =
    let ascends = subst (λ (b : Account). AscendFrom 0 (b.stripe d).entries) is (stripe-ascends d era acts) in
    let mine : AscendFrom 0 (stripe_with event a.places (a.stripe d)).entries =
    subst (λ (own : Bool). AscendFrom 0 (cond own (stripe_with event a.places (a.stripe d)) (a.stripe d)).entries) (self_eq d) ascends in
    subst (λ (t : StripeState). AscendFrom 0 (t.entries ++ entry a.places event ∷ [])) at mine

pub keeper-next : (era : ℕ) (acts : List Act) (a : Account) (event : Event) (k : KeeperState) → reach (opened era) acts ≡ after a (keeper_drew event) → a.keeper ≡ k
    → AscendFrom 0 (k.entries ++ entry a.places event ∷ [])
keeper-next era acts a event k is at =
    let ascends = subst (λ (b : Account). AscendFrom 0 b.keeper.entries) is (keeper-ascends era acts) in
    subst (λ (j : KeeperState). AscendFrom 0 (j.entries ++ entry a.places event ∷ [])) at ascends
