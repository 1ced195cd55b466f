-- What each draw asks of its own drawer, so that what own entries say of a drawer's blocks is what the whole log says of them.
use Rattle.std.specs.Prelude.{◌≡◌, ℕ, ◌==◌, Bool, true, false, List, [], ◌∷◌, filter}
use Rattle.era_model.specs.declared.event.Event.{Event}
use Rattle.era_model.specs.declared.event.Event.TheVariants.{Go, Done, Cut, Settle, Unsettled, Read, Refused}
use Rattle.era_model.specs.declared.event.Why.TheVariants.{DataFault}
use Rattle.era_model.specs.declared.history.Happening.{Happening}
use Rattle.era_model.specs.declared.opening.Opening.{Opening}
use Rattle.era_model.specs.Events.{is_go_of}
use Rattle.era_model.specs.History.{in_flight}
use Rattle.era_model.specs.Marking.{some_event}
use Rattle.era_model.specs.Writes.{is_writing, is_cut}
use Rattle.era_model.specs.declared.flight.FlightWrite.{FlightWrite}
use Rattle.era_notes.specs.Logs.{Draw, logged_history, drawer_history}

-- A write is issued to a block of its drawer, once for each command of the session; it ends and is resolved by its own drawer.
abbrev pub OwnsDraw : (ℕ → ℕ) → ℕ → List Happening → List Happening → Event → Type 0
OwnsDraw drawer_of drawer own whole (Go id block era first bytes) = (drawer_of block ≡ drawer) × (some_event whole (is_go_of id) ≡ false)
OwnsDraw drawer_of drawer own whole (Done id) = is_writing (in_flight own) id ≡ true
OwnsDraw drawer_of drawer own whole (Cut id faults) = is_writing (in_flight own) id ≡ true
OwnsDraw drawer_of drawer own whole (Settle by cut bytes) = is_cut (in_flight own) cut ≡ true
OwnsDraw drawer_of drawer own whole event = Unit {0}

-- Each draw of a log is so, where `drawer_of` gives the drawer of each block.
abbrev pub AreOwnDraws : Opening → (ℕ → ℕ) → List Draw → Type 0
AreOwnDraws opening drawer_of [] = Unit {0}
AreOwnDraws opening drawer_of (draw ∷ earlier) =
    OwnsDraw drawer_of draw.drawer (drawer_history opening draw.drawer earlier) (logged_history opening earlier) draw.event
    × AreOwnDraws opening drawer_of earlier

-- The writes that are of a drawer's blocks.
abbrev pub flights_of : (ℕ → ℕ) → ℕ → List FlightWrite → List FlightWrite
flights_of drawer_of drawer writes = filter (λ (write : FlightWrite). drawer_of write.block == drawer) writes

-- Whether a stripe may draw the event: it changes no marks, no era and no snapshot.
abbrev pub is_of_stripes : Event → Bool
is_of_stripes (Go id block era first bytes) = true
is_of_stripes (Done id) = true
is_of_stripes (Cut id faults) = true
is_of_stripes (Settle by cut bytes) = true
is_of_stripes (Unsettled by cut faults) = true
is_of_stripes (Read id sector bytes) = true
is_of_stripes (Refused id kind (DataFault stripe count)) = true
is_of_stripes event = false

-- Each draw of another drawer than the keeper is one that a stripe may make.
abbrev pub StripesDraw : ℕ → List Draw → Type 0
StripesDraw keeper [] = Unit {0}
StripesDraw keeper (draw ∷ earlier) = ((draw.drawer == keeper) ≡ false → is_of_stripes draw.event ≡ true) × StripesDraw keeper earlier
