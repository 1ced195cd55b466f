-- What the small sessions that are worked out as rows have in common: an origin of 64 blocks of 8 sectors, and metadata of 57 blocks.
use Rattle.std.specs.Prelude.{ℕ, ◌+◌, List, [], ◌∷◌, ◌++◌, replicate, None, Some}
use Rattle.std.proofs.Common.{refl, lit<, lit≤}
use Rattle.era_base.specs.declared.geometry.Geometry.{Geometry}
use Rattle.era_base.specs.declared.ids.CmdId.{CmdId}
use Rattle.era_model.specs.declared.command.Command.{Command}
use Rattle.era_model.specs.declared.command.Task.{Task}
use Rattle.era_model.specs.declared.entry.Entry.{Entry}
use Rattle.era_model.specs.declared.event.Event.{Event}
use Rattle.era_model.specs.declared.history.Happening.{Happening}
use Rattle.era_model.specs.declared.history.Happening.TheVariants.{Opened}
use Rattle.era_model.specs.declared.journal.Journal.{Journal}
use Rattle.era_model.specs.declared.opening.Opening.{Opening}
use Rattle.era_model.specs.Journal.{history_after}
use Rattle.era_model.specs.Marks.{no_marks}

-- An origin of 512 sectors in blocks of 8.
abbrev pub small_geometry : Geometry
small_geometry = record {
  sectors = 512;
  block_sectors = 8;
  some = lit< tt;
  block_size = record { multiple = refl; least = lit≤ tt; greatest = lit≤ tt };
  limited = lit≤ tt;
}

-- A first session with so many stripes, over an origin that begins with these bytes.
abbrev pub small_opening : ℕ → List ℕ → Opening
small_opening stripes contents = record {
  geometry = small_geometry;
  era = 1;
  marks = no_marks 512 8 1;
  held = None;
  total = 57;
  stripes = stripes;
  contents = record { bytes = Some contents };
}

-- Events with their places, the first at the given place.
abbrev pub entries_from : ℕ → List Event → List Entry
entries_from place [] = []
entries_from place (event ∷ events) = record { place = place; event = event } ∷ entries_from (place + 1) events

-- The journal of an opening and its events.
abbrev pub journal_of : Opening → List Event → Journal
journal_of opening events = record { opening = opening; entries = entries_from 0 events }

-- The history of an opening and its events.
abbrev pub history_of : Opening → List Event → List Happening
history_of opening events = history_after (Opened opening ∷ []) (entries_from 0 events)

-- The command of lane 0 with this number.
abbrev pub first_lane : ℕ → CmdId
first_lane number = record { lane = 0; number = number }

-- A command of the stream's line.
abbrev pub command_at : ℕ → CmdId → Task → Command
command_at line id task = record { line = line; id = id; task = task }

-- A sector of the same byte.
abbrev pub sector_of : ℕ → List ℕ
sector_of byte = replicate 512 byte

-- Lines, each with its line feed.
abbrev pub text_of : List (List ℕ) → List ℕ
text_of [] = []
text_of (line ∷ lines) = line ++ 10 ∷ [] ++ text_of lines

-- A block of zeros.
abbrev pub zeros : List ℕ
zeros = replicate 4096 0
