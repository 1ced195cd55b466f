-- Draws of owners are at their disks: a stripe's at its part, and the keeper's at the metadata disk.
use Rattle.std.proofs.Common.{◌≡◌, ℕ, ◌/◌, ◌==◌, Bool, true, false, List, [], ◌∷◌, Some, refl, ap, ◌∙◌, if◌then◌else◌}
use Rattle.std.specs.Prelude.{option_map}
use Rattle.era_model.specs.declared.event.Event.{Event}
use Rattle.era_model.specs.declared.event.Event.TheVariants.{Go, Done, Cut, Settle, Unsettled, Read, Refused}
use Rattle.era_model.specs.declared.event.Why.TheVariants.{DataFault, MetaFault, End, Held, NoSnap, Idle, Memory}
use Rattle.era_model.specs.declared.history.Happening.{Happening}
use Rattle.era_model.specs.declared.opening.Opening.{Opening}
use Rattle.era_model.specs.Counts.{MetadataDisk, PartOf}
use Rattle.era_model.specs.History.{at_opening}
use Rattle.era_notes.specs.Logs.{Draw, drawer_history, logged_history}
use Rattle.era_notes.specs.OwnDraws.{AreOwnDraws, OwnsDraw, StripesDraw, is_of_stripes}
use Rattle.era_promise.specs.Owners.{AreDrawnByOwners, AreOwnersDraws, IsOwnersDraw, IsStripesDraw, stripe_at}
use Rattle.era_promise.specs.Sessions.{disk_of_event}
use Rattle.era_promise.proofs.WrittenStripes.{FlightsAgree, cut-stripe, stripe-log, writing-stripe}

-- what stands at the opening
pub at-log : {T : Type 0} (none : T) (of : Opening → T) (opening : Opening) (log : List Draw) → at_opening none of (logged_history opening log) ≡ of opening
at-log none of opening [] = refl
at-log none of opening (draw ∷ earlier) = at-log none of opening earlier

-- an event that is none of a stripe
keeper-disk : (h : List Happening) (event : Event) → is_of_stripes event ≡ false → disk_of_event h event ≡ Some MetadataDisk
keeper-disk h (Go id block era first bytes) is = absurd (cc)
keeper-disk h (Done id) is = absurd (cc)
keeper-disk h (Cut id faults) is = absurd (cc)
keeper-disk h (Settle by cut bytes) is = absurd (cc)
keeper-disk h (Unsettled by cut faults) is = absurd (cc)
keeper-disk h (Read id sector bytes) is = absurd (cc)
keeper-disk h (Refused id kind (DataFault stripe count)) is = absurd (cc)
keeper-disk h (Refused id kind (MetaFault count)) is = refl
keeper-disk h (Refused id kind End) is = refl
keeper-disk h (Refused id kind (Held block)) is = refl
keeper-disk h (Refused id kind NoSnap) is = refl
keeper-disk h (Refused id kind Idle) is = refl
keeper-disk h (Refused id kind Memory) is = refl
keeper-disk h event is = refl

-- an event of a stripe
stripe-disk : FlightsAgree → (opening : Opening) (log : List Draw) (stripe : ℕ) (event : Event) → AreOwnDraws opening (stripe_at opening) log
    → OwnsDraw (stripe_at opening) stripe (drawer_history opening stripe log) (logged_history opening log) event → IsStripesDraw opening stripe (drawer_history opening stripe log) event
    → disk_of_event (logged_history opening log) event ≡ Some (PartOf stripe)
stripe-disk agree opening log stripe (Go id block era first bytes) owns own may = ap (λ s. Some (PartOf s)) (stripe-log opening log block ∙ own.0)
stripe-disk agree opening log stripe (Done id) owns own may = ap (option_map PartOf) (writing-stripe agree opening log stripe id owns own)
stripe-disk agree opening log stripe (Cut id faults) owns own may = ap (option_map PartOf) (writing-stripe agree opening log stripe id owns own)
stripe-disk agree opening log stripe (Settle by cut bytes) owns own may = ap (option_map PartOf) (cut-stripe agree opening log stripe cut owns own)
stripe-disk agree opening log stripe (Unsettled by cut faults) owns own may = ap (option_map PartOf) (cut-stripe agree opening log stripe cut owns may)
stripe-disk agree opening log stripe (Read id sector bytes) owns own may =
    ap (λ s. Some (PartOf s)) (stripe-log opening log _ ∙ ap (stripe_at opening) (at-log 0 (λ o. sector / o.geometry.block_sectors) opening log) ∙ may)
stripe-disk agree opening log stripe (Refused id kind (DataFault other count)) owns own may = ap (λ s. Some (PartOf s)) may
stripe-disk agree opening log stripe (Refused id kind (MetaFault count)) owns own may = absurd (cc)
stripe-disk agree opening log stripe (Refused id kind End) owns own may = absurd (cc)
stripe-disk agree opening log stripe (Refused id kind (Held block)) owns own may = absurd (cc)
stripe-disk agree opening log stripe (Refused id kind NoSnap) owns own may = absurd (cc)
stripe-disk agree opening log stripe (Refused id kind Idle) owns own may = absurd (cc)
stripe-disk agree opening log stripe (Refused id kind Memory) owns own may = absurd (cc)
stripe-disk agree opening log stripe event owns own may = absurd (cc)

-- each draw
drawn-at : FlightsAgree → (keeper : ℕ) (opening : Opening) (log : List Draw) (drawer : ℕ) (event : Event) (b : Bool) → (drawer == keeper) ≡ b → AreOwnDraws opening (stripe_at opening) log
    → OwnsDraw (stripe_at opening) drawer (drawer_history opening drawer log) (logged_history opening log) event → IsOwnersDraw keeper opening drawer (drawer_history opening drawer log) event
    → disk_of_event (logged_history opening log) event ≡ Some (if b then MetadataDisk else PartOf drawer)
drawn-at agree keeper opening log drawer event true is owns own may = keeper-disk (logged_history opening log) event (may.keepers is)
drawn-at agree keeper opening log drawer event false is owns own may = stripe-disk agree opening log drawer event owns own (may.stripes is)

pub owners-disks : FlightsAgree → (keeper : ℕ) (opening : Opening) (log : List Draw) → AreOwnDraws opening (stripe_at opening) log → AreOwnersDraws keeper opening log → AreDrawnByOwners keeper opening log
owners-disks agree keeper opening [] owns may = tt
owners-disks agree keeper opening (draw ∷ earlier) owns may =
    (drawn-at agree keeper opening earlier draw.drawer draw.event (draw.drawer == keeper) refl owns.1 owns.0 may.0, owners-disks agree keeper opening earlier owns.1 may.1)

-- a stripe's events are of stripes
pub stripe-event : (opening : Opening) (stripe : ℕ) (own : List Happening) (event : Event) → IsStripesDraw opening stripe own event → is_of_stripes event ≡ true
stripe-event opening stripe own (Read id sector bytes) may = refl
stripe-event opening stripe own (Unsettled by cut faults) may = refl
stripe-event opening stripe own (Refused id kind (DataFault other count)) may = refl
stripe-event opening stripe own (Refused id kind (MetaFault count)) may = may
stripe-event opening stripe own (Refused id kind End) may = may
stripe-event opening stripe own (Refused id kind (Held block)) may = may
stripe-event opening stripe own (Refused id kind NoSnap) may = may
stripe-event opening stripe own (Refused id kind Idle) may = may
stripe-event opening stripe own (Refused id kind Memory) may = may
stripe-event opening stripe own event may = may

pub owners-stripes : (keeper : ℕ) (opening : Opening) (log : List Draw) → AreOwnersDraws keeper opening log → StripesDraw keeper log
owners-stripes keeper opening [] may = tt
owners-stripes keeper opening (draw ∷ earlier) may =
    (λ other. stripe-event opening draw.drawer (drawer_history opening draw.drawer earlier) draw.event (may.0.stripes other), owners-stripes keeper opening earlier may.1)
