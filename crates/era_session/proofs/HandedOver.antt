-- The seats of stripes, all at once.
use Rattle.std.proofs.Common.{◌≡◌, ℕ, zero, suc, List, [], ◌∷◌, Some, slice_get, refl, arith}
use Rattle.std.specs.Prelude.{All}
use Rattle.era_gate.specs.Calls.{StripeToken}
use Rattle.era_session.specs.Ends.{seats_of}
use Rattle.era_stripe.specs.declared.stripe.Stripe.{Stripe}

-- what holds of each stripe's seat holds of all seats
pub all-seats : {D : Type 0} (P : StripeToken → Type 0) (stripes : List (Stripe D)) → ((k : ℕ) (stripe : Stripe D) → slice_get stripes k ≡ Some stripe → P stripe.seat) → All P (seats_of stripes)
all-seats P [] each k d below = absurd (omega (arith, below))
all-seats P (stripe ∷ stripes) each zero d below = each 0 stripe refl
all-seats P (stripe ∷ stripes) each (suc k) d below = all-seats P stripes (λ j. each (suc j)) k d (omega (arith, below))
