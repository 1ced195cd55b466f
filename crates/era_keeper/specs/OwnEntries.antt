-- What each entry of the keeper asks of the keeper's entries before it: the model's condition.
use Rattle.std.specs.Prelude.{◌≡◌, ℕ, ◌≤◌, true, List, [], ◌∷◌}
use Rattle.era_model.specs.declared.event.Event.{Event}
use Rattle.era_model.specs.declared.event.Event.TheVariants.{Go, Done, Cut, Settle, Unsettled, Read, Kept, Refused}
use Rattle.era_model.specs.declared.event.Why.TheVariants.{DataFault}
use Rattle.era_model.specs.declared.history.Happening.{Happening}
use Rattle.era_model.specs.declared.opening.Opening.{Opening}
use Rattle.era_model.specs.Legal.{MayHappen}
use Rattle.era_model.specs.Marking.{is_marked_in, journal_last_era}
use Rattle.era_notes.specs.Notes.{Note, own_history}

-- A keeper's entry may follow its entries so far. How many stripes were inside at most, where the era is kept, isn't told by own entries.
abbrev pub KeeperMay : List Happening → Event → Type 0
KeeperMay h (Go id block era first bytes) = ⊥
KeeperMay h (Done id) = ⊥
KeeperMay h (Cut id faults) = ⊥
KeeperMay h (Settle by cut bytes) = ⊥
KeeperMay h (Unsettled by cut faults) = ⊥
KeeperMay h (Read id sector bytes) = ⊥
KeeperMay h (Kept id inside) = 1 ≤ inside
KeeperMay h (Refused id kind (DataFault stripe count)) = ⊥
KeeperMay h event = MayHappen h event

-- Each entry may follow those before it.
abbrev pub AreKeepersLegal : Opening → List Note → Type 0
AreKeepersLegal opening [] = Unit {0}
AreKeepersLegal opening (note ∷ earlier) = KeeperMay (own_history opening earlier) note.entry.event × AreKeepersLegal opening earlier

-- Where an entry tells that the era was kept, so many stripes were inside at most.
abbrev pub KeepsWithin : ℕ → Event → Type 0
KeepsWithin most (Kept id inside) = inside ≤ most
KeepsWithin most event = Unit {0}

-- Each entry that tells that the era was kept tells of so many stripes at most.
abbrev pub AllKeepWithin : ℕ → List Note → Type 0
AllKeepWithin most [] = Unit {0}
AllKeepWithin most (note ∷ earlier) = KeepsWithin most note.entry.event × AllKeepWithin most earlier

-- A block that is marked in an era has that era or a later one as its last.
abbrev pub MarksAreKept : List Happening → Type 0
MarksAreKept h = (block era : ℕ) → is_marked_in h block era ≡ true → era ≤ journal_last_era h block
