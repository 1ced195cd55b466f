-- A small session that is worked out by hand, with its devices: an origin of one block of one sector, and a metadata disk whose one byte tells whether the block is marked.
use Rattle.std.specs.Prelude.{◌≡◌, ℕ, ◌<◌, ◌==◌, false, true, List, [], ◌∷◌, Option, None, Some, slice_index, if◌then◌else◌}
use Rattle.std.proofs.Common.{refl, lit<, lit≤}
use Rattle.era_base.specs.CrashModel.{State, History}
use Rattle.era_base.specs.declared.geometry.Geometry.{Geometry}
use Rattle.era_model.specs.declared.event.Event.{Event}
use Rattle.era_model.specs.declared.event.Event.TheVariants.{Tried, Mark, Go, Done}
use Rattle.era_model.specs.declared.journal.Journal.{Journal}
use Rattle.era_model.specs.declared.opening.Opening.{Opening}
use Rattle.era_model.specs.Marks.{BlockMarks, no_marks, with_block}
use Rattle.era_model.specs.Rows.{first_lane, journal_of, sector_of}
use Rattle.era_model.specs.RowsOfWrites.{marked_write}
use Rattle.era_notes.specs.Logs.{Draw}
use Rattle.era_notes.specs.Notes.{Note}
use Rattle.era_notes.specs.Windows.{NotedDevice}
use Rattle.era_promise.specs.Calls.{Disks, EndedCall, LeavesBy, Outcome, not_opened, served}
use Rattle.era_promise.specs.Sessions.{PartDevice, SessionDevices}

-- An origin of one sector, which is its one block.
abbrev pub one_block : Geometry
one_block = record {
  sectors = 1;
  block_sectors = 8;
  some = lit< tt;
  block_size = record { multiple = refl; least = lit≤ tt; greatest = lit≤ tt };
  limited = lit≤ tt;
}

-- Marks of that origin in era 1: none, and those of its block.
abbrev pub unmarked : BlockMarks
unmarked = no_marks 1 8 1

abbrev pub marked : BlockMarks
marked = with_block unmarked 0

-- A first session over these marks and an origin that has these bytes.
abbrev pub opened_on : BlockMarks → List ℕ → Opening
opened_on m bytes = record {
  geometry = one_block;
  era = 1;
  marks = m;
  held = None;
  total = 57;
  stripes = 1;
  contents = record { bytes = Some bytes };
}

-- The sector before it was written, and after.
abbrev pub old_bytes : List ℕ
old_bytes = sector_of 0

abbrev pub new_bytes : List ℕ
new_bytes = sector_of 170

-- Its journal: a write of the block, which asks for the mark, marks, is issued, and is acknowledged.
abbrev pub write_events : List Event
write_events = marked_write (first_lane 0) 0 1 170

abbrev pub write_journal : Journal
write_journal = journal_of (opened_on unmarked old_bytes) write_events

-- A disk that reads as these bytes, with nothing pending in its one sector, or with that sector pending.
abbrev pub clean : List ℕ → State
clean bytes = record { seen = bytes; pending = false ∷ [] }

abbrev pub unsynced : List ℕ → State
unsynced bytes = record { seen = bytes; pending = true ∷ [] }

-- An image of such a metadata disk stands for the marks of which its byte tells, 0 or 1, and for no snapshot. It is blank where the byte is 2.
pub record ReadsFlag (image : List ℕ) (m : BlockMarks) (found : Option BlockMarks) : Type 0 where
  pub told : slice_index image 0 < 2
  pub marks : m ≡ (if slice_index image 0 == 1 then marked else unmarked)
  pub held : found ≡ None

abbrev pub IsUnformatted : List ℕ → Type 0
IsUnformatted image = slice_index image 0 ≡ 2

-- An event of the journal at its place, as it is noted at a moment of a device without faults.
abbrev pub note_of : ℕ → Event → ℕ → Note
note_of place event moment = record { entry = record { place = place; event = event }; moment = moment; faults = 0 }

-- The metadata disk: the mark is stored by one call, behind its request and before its entry.
abbrev pub stores_mark : History
stores_mark = record { past = clean (0 ∷ []) ∷ []; now = clean (1 ∷ []) }

-- The metadata disk of the session, with these moments of its two entries.
abbrev pub flag_device : History → ℕ → ℕ → ℕ → NotedDevice
flag_device history begun tried stored = record {
  history = history;
  begun = begun;
  notes = note_of 1 (Mark (first_lane 0) 0 1) stored ∷ note_of 0 (Tried (first_lane 0) 0 1) tried ∷ [];
}

-- The origin's disk: the sector is written, and then synced.
abbrev pub writes_sector : History
writes_sector = record { past = clean old_bytes ∷ unsynced new_bytes ∷ []; now = clean new_bytes }

-- The origin's part of the session, with these moments of its two entries.
abbrev pub sector_device : ℕ → ℕ → PartDevice
sector_device issued done = record {
  part = record { first = 0; blocks = 1; size = 8 };
  device = record {
    history = writes_sector;
    begun = 0;
    notes = note_of 3 (Done (first_lane 0)) done ∷ note_of 2 (Go (first_lane 0) 0 1 0 new_bytes) issued ∷ [];
  };
}

-- The devices of the session: the write is issued before the disk is written, and acknowledged once it is synced.
abbrev pub write_devices : SessionDevices
write_devices = record { parts = sector_device 0 2 ∷ []; metadata = flag_device stores_mark 0 0 1 }

-- The same, with another metadata disk, or with another part.
abbrev pub with_metadata : NotedDevice → SessionDevices
with_metadata metadata = record { parts = sector_device 0 2 ∷ []; metadata = metadata }

abbrev pub with_part : PartDevice → SessionDevices
with_part one = record { parts = one ∷ []; metadata = flag_device stores_mark 0 0 1 }

-- A metadata disk that reads as this byte all the time.
abbrev pub keeps_flag : ℕ → History
keeps_flag flag = record { past = clean (flag ∷ []) ∷ []; now = clean (flag ∷ []) }

-- The metadata disk with the notes of a further entry, which the journal has at the origin's disk.
abbrev pub with_invented_note : NotedDevice
with_invented_note =
    record (flag_device stores_mark 0 0 1) { notes = note_of 3 (Done (first_lane 0)) 1 ∷ (flag_device stores_mark 0 0 1).notes }

-- The metadata disk without notes.
abbrev pub without_notes : NotedDevice
without_notes = record (flag_device stores_mark 0 0 1) { notes = [] }

-- Disks that read as these bytes and this flag, with nothing pending.
abbrev pub disks_of : List ℕ → ℕ → Disks
disks_of bytes flag = record { origin = clean bytes; metadata = clean (flag ∷ []) }

-- The session is served to its end on a blank metadata disk, and then a call is refused.
abbrev pub small_calls : List EndedCall
small_calls =
    record { outcome = not_opened; disks = disks_of new_bytes 1 }
    ∷ record { outcome = served write_journal write_devices 4; disks = disks_of new_bytes 1 } ∷ []

-- A call on disks left others, by what it came to.
abbrev pub SmallCall : Disks → Outcome → Disks → Type 0
SmallCall before outcome after = LeavesBy ReadsFlag IsUnformatted one_block 57 before outcome after

-- The log of the session: the keeper, with the number 1, asks for the mark and stores it, and then the one stripe writes.
abbrev pub marked_log : List Draw
marked_log =
    record { drawer = 1; event = Mark (first_lane 0) 0 1 } ∷ record { drawer = 1; event = Tried (first_lane 0) 0 1 } ∷ []

abbrev pub write_log : List Draw
write_log =
    record { drawer = 0; event = Done (first_lane 0) } ∷ record { drawer = 0; event = Go (first_lane 0) 0 1 0 new_bytes } ∷ marked_log

-- A write that is issued when its mark was only asked for.
abbrev pub early_log : List Draw
early_log =
    record { drawer = 0; event = Go (first_lane 0) 0 1 0 new_bytes } ∷ record { drawer = 1; event = Tried (first_lane 0) 0 1 } ∷ []
