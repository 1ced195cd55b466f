-- Failed exchanges: the stays that account for one, and the refused switches that tell of one.
use Rattle.std.specs.Prelude.{◌≡◌, ℕ, zero, suc, ◌+◌, ◌≤◌, ◌&&◌, nat_le, Bool, List, [], ◌∷◌, ◌++◌, filter, length, slice_index}
use Rattle.era_model.specs.declared.entry.Entry.{Entry}
use Rattle.era_model.specs.declared.event.Event.{Event}
use Rattle.era_model.specs.declared.event.Event.TheVariants.{Kept}
use Rattle.era_gate.specs.declared.stays.Stay.{Stay}
use Rattle.era_gate.specs.declared.stays.Told.{Told}
use Rattle.era_gate.specs.Acts.{Account}

-- Whether a stay is loose for a failed exchange, by a place and by the numbers below which each stripe's stays were known as ended: it wasn't known as ended, and its floor is at most the place.
abbrev pub is_loose : ℕ → List ℕ → Stay → Bool
is_loose place ended stay = nat_le (slice_index ended stay.stripe) stay.number && nat_le stay.floor place

-- How many stays of the stripes below n are loose.
abbrev pub loose_in : ℕ → ℕ → List ℕ → (ℕ → List Stay) → ℕ
loose_in zero place ended stays = 0
loose_in (suc n) place ended stays = length (filter (is_loose place ended) (stays n)) + loose_in n place ended stays

-- The stays of each stripe.
abbrev pub stays_of : Account → ℕ → List Stay
stays_of a d = (a.stripe d).stays

-- The stays are a stripe's, numbered from a number on, and their floors are at most the places that were drawn.
abbrev pub AreStaysOf : ℕ → ℕ → ℕ → List Stay → Type 0
AreStaysOf d places number [] = Unit {0}
AreStaysOf d places number (stay ∷ stays) =
    (stay.stripe ≡ d) × (stay.number ≡ number) × (stay.floor ≤ places) × AreStaysOf d places (number + 1) stays

-- The place and the count of a refused switch.
abbrev pub kept_by : ℕ → Event → List (ℕ × ℕ)
kept_by place (Kept id inside) = (place, inside) ∷ []
kept_by place event = []

-- The places and counts of all refused switches among entries.
abbrev pub kept_in : List Entry → List (ℕ × ℕ)
kept_in [] = []
kept_in (e ∷ entries) = kept_by e.place e.event ++ kept_in entries

-- The place of a failed exchange that was told, and how many stripes it found inside.
abbrev pub place_and_count : Told → ℕ × ℕ
place_and_count told = (told.place, told.miss.found)
