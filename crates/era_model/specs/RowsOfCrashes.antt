-- A small chain of two sessions that shows a failed write, a crash and a reopening.
use Rattle.std.specs.Prelude.{List, [], ◌∷◌, ◌++◌, replicate, None, Some}
use Rattle.era_model.specs.declared.event.Event.{Event}
use Rattle.era_model.specs.declared.event.Event.TheVariants.{Tried, Roll}
use Rattle.era_model.specs.declared.history.Happening.{Happening}
use Rattle.era_model.specs.declared.history.Images.{Images}
use Rattle.era_model.specs.declared.journal.Journal.{Journal}
use Rattle.era_model.specs.declared.opening.Opening.{Opening}
use Rattle.era_model.specs.Chains.{EndedSession, history_of_chain}
use Rattle.era_model.specs.Marks.{no_marks, rolled, with_block}
use Rattle.era_model.specs.Rows.{first_lane, history_of, journal_of, sector_of, small_geometry, small_opening, zeros}
use Rattle.era_model.specs.RowsOfFaults.{cut_events}
use Rattle.era_model.specs.RowsOfWrites.{marked_write}

-- A write of block 0 that is cut, and a write of block 1 that has asked for its mark.
abbrev pub crashed_events : List Event
crashed_events = cut_events ++ Tried (first_lane 1) 1 1 ∷ []

-- The history of the session after `crashed_events`.
abbrev pub crashed_history : List Happening
crashed_history = history_of (small_opening 1 zeros) crashed_events

-- What the crash left: block 0 has neither the old bytes of the cut write's sector nor the new ones, and the mark of block 1 was stored.
abbrev pub crash_images : Images
crash_images = record {
  contents = record { bytes = Some (sector_of 85 ++ replicate 3584 0) };
  marks = with_block (with_block (no_marks 512 8 1) 0) 1;
  held = None;
}

-- The session that crashed, after its last entry.
abbrev pub crashed_session : EndedSession
crashed_session = record { journal = journal_of (small_opening 1 zeros) crashed_events; place = 5; images = crash_images }

-- How the next session opens on it, with four stripes.
abbrev pub reopened_opening : Opening
reopened_opening = record {
  geometry = small_geometry;
  era = 2;
  marks = rolled crash_images.marks;
  held = None;
  total = 57;
  stripes = 4;
  contents = crash_images.contents;
}

-- A write of block 0 in the next session, and an era switch.
abbrev pub reopened_events : List Event
reopened_events = marked_write (first_lane 0) 0 2 170 ++ Roll (first_lane 1) 3 ∷ []

-- The journal of the next session.
abbrev pub reopened_journal : Journal
reopened_journal = journal_of reopened_opening reopened_events

-- The history of both sessions.
abbrev pub reopened_history : List Happening
reopened_history = history_of_chain (crashed_session ∷ []) reopened_journal
