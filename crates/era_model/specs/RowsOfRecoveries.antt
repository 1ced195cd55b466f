-- Small sessions that show what a crash may leave of the metadata, what the end of a session may not leave, and which marks may not be recovered.
use Rattle.std.specs.Prelude.{List, [], ◌∷◌, ◌++◌, Option, None, Some}
use Rattle.era_model.specs.declared.event.Event.{Event}
use Rattle.era_model.specs.declared.event.Event.TheVariants.{Tried, Mark, Read, Roll, Snap, Refused}
use Rattle.era_model.specs.declared.event.Kind.TheVariants.{Write as WriteKind, Checkpoint as CheckpointKind, TakeSnap as TakeSnapKind}
use Rattle.era_model.specs.declared.event.Why.TheVariants.{MetaFault}
use Rattle.era_model.specs.declared.history.Happening.{Happening}
use Rattle.era_model.specs.declared.history.Happening.TheVariants.{Opened, Crashed}
use Rattle.era_model.specs.declared.history.Images.{Images}
use Rattle.era_model.specs.declared.journal.Journal.{Journal}
use Rattle.era_model.specs.Marks.{BlockMarks, no_marks, with_block}
use Rattle.era_model.specs.Rows.{first_lane, history_of, journal_of, sector_of, small_opening}
use Rattle.era_model.specs.RowsOfCrashes.{crash_images, crashed_history, reopened_opening}
use Rattle.era_model.specs.RowsOfWrites.{second_lane}

-- The history of a first session without marks and with these events.
abbrev pub history_with : List Event → List Happening
history_with events = history_of (small_opening 4 []) events

-- What is left of such a session: the origin as it was, these marks and this snapshot.
abbrev pub left_with : BlockMarks → Option BlockMarks → Images
left_with m held = record { contents = record { bytes = Some [] }; marks = m; held = held }

-- Marks of no block, in era 1.
abbrev pub unmarked : BlockMarks
unmarked = no_marks 512 8 1

-- Marks of block 0, in era 1.
abbrev pub first_marked : BlockMarks
first_marked = with_block unmarked 0

-- Marks of the blocks 0 and 1, in era 1.
abbrev pub both_marked : BlockMarks
both_marked = with_block first_marked 1

-- The era moved to 2.
abbrev pub switched_events : List Event
switched_events = Roll (first_lane 0) 2 ∷ []

-- A write asked for the mark of block 0.
abbrev pub tried_events : List Event
tried_events = Tried (first_lane 0) 0 1 ∷ []

-- A write asked for the mark of block 0, and one of another lane for that of block 1.
abbrev pub both_tried_events : List Event
both_tried_events = tried_events ++ Tried second_lane 1 1 ∷ []

-- A snapshot was taken.
abbrev pub snapped_events : List Event
snapped_events = Snap (first_lane 0) 2 ∷ []

-- A snapshot was taken, and block 0 was marked then.
abbrev pub marked_after_snap_events : List Event
marked_after_snap_events = snapped_events ++ Tried (first_lane 1) 0 1 ∷ Mark (first_lane 1) 0 1 ∷ []

-- The era moved to 2, and a write asked for the mark of block 0 then.
abbrev pub tried_after_switch_events : List Event
tried_after_switch_events = switched_events ++ Tried (first_lane 1) 0 2 ∷ []

-- The era moved to 2, and block 0 was marked then.
abbrev pub marked_after_switch_events : List Event
marked_after_switch_events = tried_after_switch_events ++ Mark (first_lane 1) 0 2 ∷ []

-- A session that opened on what a crash left, in era 2, and has no event.
abbrev pub just_reopened_history : List Happening
just_reopened_history = Opened reopened_opening ∷ Crashed crash_images ∷ crashed_history

-- A snapshot was taken, and the metadata disk failed to store the mark of block 0 then.
abbrev pub failed_mark_after_snap_events : List Event
failed_mark_after_snap_events =
    snapped_events ++ Tried (first_lane 1) 0 1 ∷ Refused (first_lane 1) WriteKind (MetaFault 1) ∷ []

-- The era moved to 2, and the metadata disk failed to take a snapshot then.
abbrev pub failed_snap_after_switch_events : List Event
failed_snap_after_switch_events = switched_events ++ Refused (first_lane 1) TakeSnapKind (MetaFault 1) ∷ []

-- The era moved to 2 in memory, and the metadata disk failed to store it.
abbrev pub failed_switch_events : List Event
failed_switch_events = switched_events ++ Refused (first_lane 0) CheckpointKind (MetaFault 1) ∷ []

-- A session whose opening doesn't tell the contents of its origin, and a read of its first sector.
abbrev pub untold_journal : Journal
untold_journal =
    journal_of (record (small_opening 4 []) { contents = record { bytes = None } }) (Read (first_lane 0) 0 (sector_of 85) ∷ [])
