-- Notes: the entries that one device's owner drew, each with the moment of the device and its count of faults then. They are a history by themselves.
use Rattle.std.specs.Prelude.{◌≡◌, ℕ, ◌<◌, ◌≤◌, List, [], ◌∷◌, ◌++◌, Option, Some, None}
use Rattle.era_base.specs.CrashModel.{clock}
use Rattle.era_base.specs.Faults.{Rose}
use Rattle.era_base.specs.declared.disk.Disk.{Ghosts}
use Rattle.era_model.specs.declared.entry.Entry.{Entry}
use Rattle.era_model.specs.declared.event.Event.{Event}
use Rattle.era_model.specs.declared.event.Event.TheVariants.{Cut, Unsettled, Refused}
use Rattle.era_model.specs.declared.event.Why.TheVariants.{DataFault, MetaFault}
use Rattle.era_model.specs.declared.history.Happening.{Happening}
use Rattle.era_model.specs.declared.history.Happening.TheVariants.{Opened, Happened}
use Rattle.era_model.specs.declared.opening.Opening.{Opening}
use Rattle.era_notes.specs.declared.notes.Notes.{Notes}
use Rattle.era_notes.specs.declared.notes.Notes.TheVariants.{Start, After'}

-- An entry, the moment of the clock of its own device at which it was drawn, and the device's count of faults then.
pub record Note : Type 0 where
  pub entry : Entry
  pub moment : ℕ
  pub faults : ℕ

-- An entry as it is noted at a device.
abbrev pub note_at : {D : Type 0} → Ghosts D → Entry → D → Note
note_at disk entry device = record { entry = entry; moment = clock (disk.history device); faults = disk.faults device }

-- The notes, the latest first.
abbrev pub notes_of : {D : Type 0} → Ghosts D → Notes D → List Note
notes_of disk (Start device) = []
notes_of disk (After' entry device marker before) = note_at disk entry.value device.value ∷ notes_of disk before

-- The device as the session began on it.
abbrev pub first_device : {D : Type 0} → Notes D → D
first_device (Start device) = device.value
first_device (After' entry device marker before) = first_device before

-- The moment of the device at which the session began on it.
abbrev pub begun_of : {D : Type 0} → Ghosts D → Notes D → ℕ
begun_of disk notes = clock (disk.history (first_device notes))

-- The device's count of faults as the session began on it.
abbrev pub least_of : {D : Type 0} → Ghosts D → Notes D → ℕ
least_of disk notes = disk.faults (first_device notes)

-- The history of a session that these entries alone make, the latest first.
abbrev pub own_history : Opening → List Note → List Happening
own_history opening [] = Opened opening ∷ []
own_history opening (note ∷ earlier) = Happened note.entry.event ∷ own_history opening earlier

-- The entries in the order in which they were drawn.
abbrev pub entries_of : List Note → List Entry
entries_of [] = []
entries_of (note ∷ earlier) = entries_of earlier ++ note.entry ∷ []

-- Places descend from the latest entry on, all below a bound.
abbrev pub PlacesBelow : ℕ → List Note → Type 0
PlacesBelow bound [] = Unit {0}
PlacesBelow bound (note ∷ earlier) = (note.entry.place < bound) × PlacesBelow note.entry.place earlier

-- The count of faults that an event tells, or none.
abbrev pub told_count : Event → Option ℕ
told_count (Cut id faults) = Some faults
told_count (Unsettled by cut faults) = Some faults
told_count (Refused id kind (DataFault stripe count)) = Some count
told_count (Refused id kind (MetaFault count)) = Some count
told_count event = None

-- The device's count of faults at the latest entry, or as the session began.
abbrev pub last_faults : ℕ → List Note → ℕ
last_faults least [] = least
last_faults least (note ∷ earlier) = note.faults

-- A count that is told, if there is one, is that of the device, which rose since another one.
abbrev pub TellsRisen : Option ℕ → ℕ → ℕ → Type 0
TellsRisen None before faults = Unit {0}
TellsRisen (Some count) before faults = (count ≡ faults) × Rose before count

-- The device's counts of faults never fall, from the session's beginning over its entries up to now; and each count that an entry tells is the device's then, which rose since the entry before.
abbrev pub CountsRise : ℕ → ℕ → List Note → Type 0
CountsRise least now [] = least ≤ now
CountsRise least now (note ∷ earlier) =
    (note.faults ≤ now) × TellsRisen (told_count note.entry.event) (last_faults least earlier) note.faults × CountsRise least note.faults earlier
