-- What a session leaves at its end.
use Rattle.std.specs.Prelude.{ℕ, List, map}
use Rattle.era_base.specs.declared.disk.Disk.{Ghosts}
use Rattle.era_gate.specs.Acts.{Act}
use Rattle.era_gate.specs.Calls.{StripeToken}
use Rattle.era_gate.specs.Tells.{Tells, parts_of}
use Rattle.era_session.specs.declared.session.Session.{Session}
use Rattle.era_stripe.specs.Stripes.{StripeView, view_of as stripe_view}
use Rattle.era_stripe.specs.declared.stripe.Stripe.{Stripe}

-- The disks of stripes, in their order.
abbrev pub disks_of : {D : Type 0} → List (Stripe D) → List D
disks_of {D} stripes = map (λ (stripe : Stripe D). stripe.disk) stripes

-- The seats of stripes, in their order.
abbrev pub seats_of : {D : Type 0} → List (Stripe D) → List StripeToken
seats_of {D} stripes = map (λ (stripe : Stripe D). stripe.seat) stripes

-- The acts of a session's gate are these, and drew so many places: the seats of the stripes and of the keeper and the pass of all lanes tell of them.
abbrev pub DrewActs : {D : Type 0} → Session D → ℕ → List Act → Type 0
DrewActs session places acts =
    Tells session.gate.plan places (parts_of (seats_of session.stripes.items)) session.keeper.seat.part session.pass.part.lanes acts

-- What contracts see of stripes, in their order.
abbrev pub stripe_views : {D : Type 0} → Ghosts D → List (Stripe D) → List StripeView
stripe_views disk stripes = map (stripe_view disk) stripes
