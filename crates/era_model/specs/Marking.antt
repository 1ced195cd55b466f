-- What a history says of marks, of the snapshot and of a command's events.
use Rattle.std.specs.Prelude.{ℕ, ◌==◌, ◌&&◌, ◌||◌, max, nat_le, Bool, false, List, [], ◌∷◌, Option, Some, None, if◌then◌else◌}
use Rattle.era_base.specs.declared.ids.CmdId.{CmdId}
use Rattle.era_model.specs.declared.event.Event.{Event}
use Rattle.era_model.specs.declared.event.Event.TheVariants.{Tried, Mark, Roll, Snap, Dropped, Digest}
use Rattle.era_model.specs.declared.history.Happening.{Happening}
use Rattle.era_model.specs.declared.history.Happening.TheVariants.{Opened, Happened}
use Rattle.era_model.specs.Events.{same_id, drawn_by, is_metadata_answer, is_metadata_fault_of}
use Rattle.era_model.specs.Marks.{BlockMarks, marks_last_era, with_block, rolled}
use Rattle.era_model.specs.Digest.{digested}
use Rattle.era_model.specs.History.{era_of}

-- The era of the block's last mark: in the session, else in the marks of the opening; 0 for never.
abbrev pub journal_last_era : List Happening → ℕ → ℕ
journal_last_era [] block = 0
journal_last_era (Opened opening ∷ earlier) block = marks_last_era opening.marks block
journal_last_era (Happened (Mark id marked era) ∷ earlier) block = if marked == block then era else journal_last_era earlier block
journal_last_era (happening ∷ earlier) block = journal_last_era earlier block

-- The marks: those of the opening, changed by each mark, era switch and digest.
abbrev pub marks_of : List Happening → BlockMarks
marks_of [] = record { sectors = 0; block_sectors = 0; era = 0; array = []; archive = []; current = [] }
marks_of (Opened opening ∷ earlier) = opening.marks
marks_of (Happened (Mark id block era) ∷ earlier) = with_block (marks_of earlier) block
marks_of (Happened (Roll id era) ∷ earlier) = rolled (marks_of earlier)
marks_of (Happened (Digest id era page) ∷ earlier) = digested (marks_of earlier) page
marks_of (happening ∷ earlier) = marks_of earlier

-- The held snapshot of the marks: that of the opening, changed by each taking and dropping.
abbrev pub held_of : List Happening → Option BlockMarks
held_of [] = None
held_of (Opened opening ∷ earlier) = opening.held
held_of (Happened (Snap id block) ∷ earlier) = Some (marks_of earlier)
held_of (Happened (Dropped id) ∷ earlier) = None
held_of (happening ∷ earlier) = held_of earlier

-- Whether the session has a mark of the block in the era.
abbrev pub is_marked_in : List Happening → ℕ → ℕ → Bool
is_marked_in [] block era = false
is_marked_in (Opened opening ∷ earlier) block era = false
is_marked_in (Happened (Mark id marked stored) ∷ earlier) block era = (marked == block && stored == era) || is_marked_in earlier block era
is_marked_in (happening ∷ earlier) block era = is_marked_in earlier block era

-- Whether the session has a request to mark the block in the era.
abbrev pub is_tried_in : List Happening → ℕ → ℕ → Bool
is_tried_in [] block era = false
is_tried_in (Opened opening ∷ earlier) block era = false
is_tried_in (Happened (Tried id tried asked) ∷ earlier) block era = (tried == block && asked == era) || is_tried_in earlier block era
is_tried_in (happening ∷ earlier) block era = is_tried_in earlier block era

-- Whether some event of the session passes the test.
abbrev pub some_event : List Happening → (Event → Bool) → Bool
some_event [] test = false
some_event (Opened opening ∷ earlier) test = false
some_event (Happened event ∷ earlier) test = test event || some_event earlier test
some_event (happening ∷ earlier) test = some_event earlier test

-- The last event of the session that the command drew, or none.
abbrev pub last_drawn : List Happening → CmdId → Option Event
last_drawn [] id = None
last_drawn (Opened opening ∷ earlier) id = None
last_drawn (Happened event ∷ earlier) id = if same_id (drawn_by event) id then Some event else last_drawn earlier id
last_drawn (happening ∷ earlier) id = last_drawn earlier id

-- The first of two moments, where there is one.
abbrev pub first_some : Option (List Happening) → Option (List Happening) → Option (List Happening)
first_some None later = later
first_some (Some moment) later = Some moment

-- The moment at which an era began: the first one, over all sessions, whose era is at least the given one. Era 0 means the same as 1.
abbrev pub era_start : ℕ → List Happening → Option (List Happening)
era_start era [] = None
era_start era (happening ∷ earlier) =
    first_some (era_start era earlier) (if nat_le (max era 1) (era_of (happening ∷ earlier)) then Some (happening ∷ earlier) else None)

-- Whether a mark of the block was asked for in the era or a later one, over all sessions, or the marks of the first opening had the block since that era.
abbrev pub asked_since : List Happening → ℕ → ℕ → Bool
asked_since [] era block = false
asked_since (Opened opening ∷ []) era block = nat_le (max era 1) (marks_last_era opening.marks block)
asked_since (Happened (Tried id tried asked) ∷ earlier) era block =
    (tried == block && nat_le (max era 1) asked) || asked_since earlier era block
asked_since (happening ∷ earlier) era block = asked_since earlier era block

-- The command that last switched the era in this session, where the metadata has drawn nothing but refusals since.
abbrev pub switch_before_refusals : List Happening → Option CmdId
switch_before_refusals [] = None
switch_before_refusals (Opened opening ∷ earlier) = None
switch_before_refusals (Happened (Roll id era) ∷ earlier) = Some id
switch_before_refusals (Happened event ∷ earlier) = if is_metadata_answer event then None else switch_before_refusals earlier
switch_before_refusals (happening ∷ earlier) = switch_before_refusals earlier

-- Whether a command that switched the era, if there is one, was then told that the metadata disk failed.
abbrev pub failed_after_switch : List Happening → Option CmdId → Bool
failed_after_switch h None = false
failed_after_switch h (Some id) = some_event h (is_metadata_fault_of id)

-- Whether the present era stands in memory alone: the metadata disk failed for the command that switched to it, and nothing was stored since.
abbrev pub era_is_volatile : List Happening → Bool
era_is_volatile h = failed_after_switch h (switch_before_refusals h)
