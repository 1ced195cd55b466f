-- Windows: what holds of a device at all moments between two of its entries, and the moments that belong to a place.
use Rattle.std.specs.Prelude.{ℕ, ◌+◌, ◌≤◌, List, [], ◌∷◌, nat_lt, if◌then◌else◌}
use Rattle.era_base.specs.CrashModel.{State, History, AllBetween, IsCrashImage, clock, state_at}
use Rattle.era_notes.specs.Notes.{Note}

-- Each state between two draws, the moments of both included, has what the entries that were drawn by then give.
abbrev pub HoldsThrough : (List Note → State → Type 0) → History → ℕ → ℕ → List Note → Type 0
HoldsThrough Holds history begun last [] = (begun ≤ last) × AllBetween history begun last (Holds [])
HoldsThrough Holds history begun last (note ∷ earlier) =
    (note.moment ≤ last) × AllBetween history note.moment last (Holds (note ∷ earlier)) × HoldsThrough Holds history begun note.moment earlier

-- The notes of the entries below a place.
abbrev pub notes_below : ℕ → List Note → List Note
notes_below place [] = []
notes_below place (note ∷ earlier) = if nat_lt note.entry.place place then note ∷ earlier else notes_below place earlier

-- The moment of the latest note, or the one at which the session began.
abbrev pub moment_of : ℕ → List Note → ℕ
moment_of begun [] = begun
moment_of begun (note ∷ earlier) = note.moment

-- The first moment of a place's window: that of the last entry below the place, or of the session's beginning.
abbrev pub window_start : ℕ → ℕ → List Note → ℕ
window_start begun place notes = moment_of begun (notes_below place notes)

-- The last moment of a place's window: that of the first entry at the place or behind it, or the last moment of all.
abbrev pub window_end : ℕ → ℕ → List Note → ℕ
window_end last place [] = last
window_end last place (note ∷ earlier) = if nat_lt note.entry.place place then last else window_end note.moment place earlier

-- Moments descend from the last one to that of the session's beginning, and places are below a bound and descend. So no window is empty, and that of the bound ends with the last moment.
abbrev pub AreOrdered : ℕ → ℕ → ℕ → List Note → Type 0
AreOrdered begun last bound [] = begun ≤ last
AreOrdered begun last bound (note ∷ earlier) =
    (note.moment ≤ last) × (note.entry.place + 1 ≤ bound) × AreOrdered begun note.moment note.entry.place earlier

-- A device of a session: its history, the moment at which the session began on it, and its notes.
pub record NotedDevice : Type 0 where
  pub history : History
  pub begun : ℕ
  pub notes : List Note

-- A moment lies in the window of a place.
pub record IsInWindow (device : NotedDevice) (place moment : ℕ) : Type 0 where
  pub begun : window_start device.begun place device.notes ≤ moment
  pub ended : moment ≤ window_end (clock device.history) place device.notes

-- A crash at a place leaves the image of a device.
pub record IsLeftAt (device : NotedDevice) (place : ℕ) (image : List ℕ) : Type 0 where
  pub moment : ℕ
  pub inside : IsInWindow device place moment
  pub left : IsCrashImage (state_at device.history moment) image
