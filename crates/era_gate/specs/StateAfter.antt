-- What an event, a stay or an exchange makes of a stripe and of the keeper.
use Rattle.std.specs.Prelude.{ℕ, ◌+◌, ◌==◌, ◌&&◌, ◌||◌, Bool, true, false, List, [], ◌∷◌, ◌++◌, Option, Some, None}
use Rattle.era_model.specs.declared.entry.Entry.{Entry}
use Rattle.era_model.specs.declared.event.Event.{Event}
use Rattle.era_model.specs.declared.event.Event.TheVariants.{Mark, Go, Done, Cut, Settle, Roll, Kept}
use Rattle.era_model.specs.declared.flight.FlightWrite.{FlightWrite}
use Rattle.era_gate.specs.declared.stays.Stay.{Stay}
use Rattle.era_gate.specs.declared.stays.Miss.{Miss}
use Rattle.era_gate.specs.declared.stays.Told.{Told}
use Rattle.era_gate.specs.declared.states.StripeState.{StripeState}
use Rattle.era_gate.specs.declared.states.KeeperState.{KeeperState}

-- The open write, with its outcome unknown.
abbrev pub cut_flight : Option FlightWrite → Option FlightWrite
cut_flight None = None
cut_flight (Some write) = Some record write { cut = true }

-- The open write as a list of the writes in flight.
abbrev pub flights : Option FlightWrite → List FlightWrite
flights None = []
flights (Some write) = write ∷ []

-- A stripe's open write after an event of it.
abbrev pub flight_after : Event → Option FlightWrite → Option FlightWrite
flight_after (Go id block era first bytes) flight =
    Some record { id = id; block = block; first = first; bytes = bytes; cut = false }
flight_after (Done id) flight = None
flight_after (Cut id faults) flight = cut_flight flight
flight_after (Settle by cut bytes) flight = None
flight_after event flight = flight

-- Whether the switch to the word's era is drawn, after an event of the keeper.
abbrev pub switched_after : Event → Bool → Bool
switched_after (Roll id era) switched = true
switched_after event switched = switched

-- The failed exchange whose event isn't drawn yet, after an event of the keeper.
abbrev pub pending_after : Event → Option Miss → Option Miss
pending_after (Kept id inside) pending = None
pending_after event pending = pending

-- A failed exchange as told at a place, where there is one.
abbrev pub told_of : Option Miss → ℕ → List Told
told_of None place = []
told_of (Some miss) place = record { miss = miss; place = place } ∷ []

-- What an event of the keeper at a place tells of the failed exchange.
abbrev pub told_by : Event → ℕ → Option Miss → List Told
told_by (Kept id inside) place pending = told_of pending place
told_by event place pending = []

-- Which blocks are marked in which era, after an event of the keeper.
abbrev pub marked_after : Event → (ℕ → ℕ → Bool) → ℕ → ℕ → Bool
marked_after (Mark id marked era) before block era' = (marked == block && era == era') || before block era'
marked_after event before block era' = before block era'

-- The present era after an event of the keeper.
abbrev pub era_after_event : Event → ℕ → ℕ
era_after_event (Roll id next) era = next
era_after_event event era = era

-- An event with its place.
abbrev pub entry : ℕ → Event → Entry
entry place event = record { place = place; event = event }

-- A stripe after it drew an event at a place.
abbrev pub stripe_with : Event → ℕ → StripeState → StripeState
stripe_with event place s = record {
  inside = s.inside;
  flight = flight_after event s.flight;
  stays = s.stays;
  entries = s.entries ++ entry place event ∷ [];
}

-- A stripe after its stay began.
abbrev pub stripe_in : Stay → StripeState → StripeState
stripe_in stay s = record { inside = true; flight = s.flight; stays = s.stays ++ stay ∷ []; entries = s.entries }

-- A stripe after its stay ended.
abbrev pub stripe_out : StripeState → StripeState
stripe_out s = record { inside = false; flight = s.flight; stays = s.stays; entries = s.entries }

-- The keeper after it drew an event at a place.
abbrev pub keeper_with : Event → ℕ → KeeperState → KeeperState
keeper_with event place k = record {
  era = k.era;
  switched = switched_after event k.switched;
  pending = pending_after event k.pending;
  told = k.told ++ told_by event place k.pending;
  entries = k.entries ++ entry place event ∷ [];
}

-- The keeper after an exchange moved the era.
abbrev pub keeper_moved : KeeperState → KeeperState
keeper_moved k = record { era = k.era + 1; switched = false; pending = k.pending; told = k.told; entries = k.entries }

-- The keeper after an exchange failed.
abbrev pub keeper_missed : Miss → KeeperState → KeeperState
keeper_missed miss k = record { era = k.era; switched = k.switched; pending = Some miss; told = k.told; entries = k.entries }
