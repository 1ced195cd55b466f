-- Journals: an opening, and entries with the places 0, 1, 2 and so on; and the opening of a first session.
use Rattle.std.specs.Prelude.{◌≡◌, ℕ, ◌+◌, List, [], ◌∷◌, take, Some, None}
use Rattle.era_base.specs.declared.geometry.Geometry.{Geometry}
use Rattle.era_model.specs.declared.entry.Entry.{Entry}
use Rattle.era_model.specs.declared.history.Happening.{Happening}
use Rattle.era_model.specs.declared.history.Happening.TheVariants.{Opened, Happened}
use Rattle.era_model.specs.declared.journal.Journal.{Journal}
use Rattle.era_model.specs.declared.opening.Opening.{Opening}
use Rattle.era_model.specs.Marks.{no_marks}

-- The entries have the places from one on, each once, in order.
abbrev pub AreNumberedFrom : ℕ → List Entry → Type 0
AreNumberedFrom place [] = Unit {0}
AreNumberedFrom place (entry ∷ entries) = (entry.place ≡ place) × AreNumberedFrom (place + 1) entries

-- The history with so many more entries, the first of them the earliest.
abbrev pub history_after : List Happening → List Entry → List Happening
history_after h [] = h
history_after h (entry ∷ entries) = history_after (Happened entry.event ∷ h) entries

-- The history of a session at a place: the opening, and the entries with smaller places.
abbrev pub history_at : Opening → List Entry → ℕ → List Happening
history_at opening entries place = history_after (Opened opening ∷ []) (take place entries)

-- This journal with these contents of the origin at its opening.
abbrev pub with_contents : Journal → List ℕ → Journal
with_contents journal bytes =
    record journal { opening = record journal.opening { contents = record { bytes = Some bytes } } }

-- The opening of a first session that keeps its marks in memory: era 1 without marks, no snapshot, no metadata blocks, one stripe, and these contents of the origin.
abbrev pub session_opening : Geometry → List ℕ → Opening
session_opening g contents = record {
  geometry = g;
  era = 1;
  marks = no_marks g.sectors g.block_sectors 1;
  held = None;
  total = 0;
  stripes = 1;
  contents = record { bytes = Some contents };
}
