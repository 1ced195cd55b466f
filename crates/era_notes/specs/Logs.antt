-- The log of a session: all its draws in order, each with its drawer, and the draws of one drawer.
use Rattle.std.specs.Prelude.{ℕ, ◌==◌, List, [], ◌∷◌, length, map, nat_lt, if◌then◌else◌}
use Rattle.era_model.specs.declared.entry.Entry.{Entry}
use Rattle.era_model.specs.declared.event.Event.{Event}
use Rattle.era_model.specs.declared.history.Happening.{Happening}
use Rattle.era_model.specs.declared.history.Happening.TheVariants.{Opened, Happened}
use Rattle.era_model.specs.declared.opening.Opening.{Opening}
use Rattle.era_notes.specs.Notes.{Note}

-- Who drew, as the number of a stripe or another number for the keeper, and the event. A log is a list of these, the latest first; the place of a draw is the number of those before it.
pub record Draw : Type 0 where
  pub drawer : ℕ
  pub event : Event

-- The history of a session that makes these draws.
abbrev pub logged_history : Opening → List Draw → List Happening
logged_history opening [] = Opened opening ∷ []
logged_history opening (draw ∷ earlier) = Happened draw.event ∷ logged_history opening earlier

-- The draws of one drawer.
abbrev pub own_draws : ℕ → List Draw → List Draw
own_draws drawer [] = []
own_draws drawer (draw ∷ earlier) = if draw.drawer == drawer then draw ∷ own_draws drawer earlier else own_draws drawer earlier

-- The entries of one drawer with their places, the latest first.
abbrev pub own_entries : ℕ → List Draw → List Entry
own_entries drawer [] = []
own_entries drawer (draw ∷ earlier) =
    if draw.drawer == drawer then record { place = length earlier; event = draw.event } ∷ own_entries drawer earlier else own_entries drawer earlier

-- The history that one drawer's draws alone make.
abbrev pub drawer_history : Opening → ℕ → List Draw → List Happening
drawer_history opening drawer log = logged_history opening (own_draws drawer log)

-- The draws below a place.
abbrev pub log_below : ℕ → List Draw → List Draw
log_below place [] = []
log_below place (draw ∷ earlier) = if nat_lt (length earlier) place then draw ∷ earlier else log_below place earlier

-- The entries of notes, the latest first.
abbrev pub noted_entries : List Note → List Entry
noted_entries notes = map (λ (note : Note). note.entry) notes
