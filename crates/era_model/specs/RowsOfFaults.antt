-- Small sessions that show faults, and snapshots.
use Rattle.std.specs.Prelude.{List, [], ◌∷◌, ◌++◌, false, true, Some}
use Rattle.era_model.specs.declared.event.Event.{Event}
use Rattle.era_model.specs.declared.history.Happening.{Happening}
use Rattle.era_model.specs.declared.journal.Journal.{Journal}
use Rattle.era_model.specs.declared.event.Event.TheVariants.{Tried, Mark, Go, Cut, Settle, Unsettled, Roll, Kept, Snap, Dropped, List as ListEvent, Status, Refused}
use Rattle.era_model.specs.declared.event.Kind.TheVariants.{Write as WriteKind, TakeSnap as TakeSnapKind, DropSnap as DropSnapKind, List as ListKind}
use Rattle.era_model.specs.declared.event.Why.TheVariants.{MetaFault, Held, NoSnap}
use Rattle.era_model.specs.declared.command.Command.{Command}
use Rattle.era_model.specs.declared.command.Request.TheVariants.{Checkpoint, TakeSnap, DropSnap, Status as StatusRequest, List as ListRequest}
use Rattle.era_model.specs.declared.command.Task.TheVariants.{Write, Ask}
use Rattle.era_model.specs.Rows.{command_at, first_lane, history_of, journal_of, sector_of, small_opening, zeros}
use Rattle.era_model.specs.RowsOfWrites.{marked_write}

-- A write, and a write of another block whose mark the metadata disk fails to store.
abbrev pub failed_mark_events : List Event
failed_mark_events =
    marked_write (first_lane 0) 0 1 170
    ++ Tried (first_lane 1) 1 1 ∷ Refused (first_lane 1) WriteKind (MetaFault 1) ∷ []

-- The commands of these writes.
abbrev pub failed_mark_commands : List Command
failed_mark_commands =
    command_at 1 (first_lane 0) (Write 0 (sector_of 170)) ∷ command_at 2 (first_lane 1) (Write 8 (sector_of 187)) ∷ []

-- A write that is cut.
abbrev pub cut_events : List Event
cut_events =
    Tried (first_lane 0) 0 1 ∷ Mark (first_lane 0) 0 1 ∷ Go (first_lane 0) 0 1 0 (sector_of 170) ∷ Cut (first_lane 0) 1 ∷ []

-- The command of this write.
abbrev pub cut_commands : List Command
cut_commands = command_at 1 (first_lane 0) (Write 0 (sector_of 170)) ∷ []

-- A write that is cut, a checkpoint that can't resolve it and keeps the era, and one that resolves it and moves the era.
abbrev pub resolved_events : List Event
resolved_events =
    cut_events
    ++ Unsettled (first_lane 1) (first_lane 0) 2 ∷ Kept (first_lane 1) 1
    ∷ Settle (first_lane 2) (first_lane 0) (sector_of 170) ∷ Roll (first_lane 2) 2 ∷ []

-- The same, but the era moves before the cut write is resolved.
abbrev pub early_switch_events : List Event
early_switch_events =
    cut_events
    ++ Unsettled (first_lane 1) (first_lane 0) 2 ∷ Kept (first_lane 1) 1 ∷ Roll (first_lane 2) 2
    ∷ Settle (first_lane 2) (first_lane 0) (sector_of 170) ∷ []

-- The commands of this session.
abbrev pub resolved_commands : List Command
resolved_commands =
    command_at 1 (first_lane 0) (Write 0 (sector_of 170)) ∷ command_at 2 (first_lane 1) (Ask Checkpoint)
    ∷ command_at 3 (first_lane 2) (Ask Checkpoint) ∷ []

-- A snapshot is taken, refused a second time, told by a status, and listed after a write; then it is dropped, and dropping and listing it are refused.
abbrev pub snapshot_events : List Event
snapshot_events =
    Snap (first_lane 0) 2 ∷ Refused (first_lane 1) TakeSnapKind (Held 2) ∷ Status (first_lane 2) 5 57 1 (Some 2) ∷ []
    ++ marked_write (first_lane 3) 0 1 170
    ++ ListEvent (first_lane 4) 1 true [] ∷ ListEvent (first_lane 5) 1 false ((0, 0) ∷ []) ∷ Dropped (first_lane 6)
    ∷ Refused (first_lane 7) DropSnapKind NoSnap ∷ Refused (first_lane 8) ListKind NoSnap ∷ []

-- The same, but the second dropping is refused before the first one is done.
abbrev pub early_refusal_events : List Event
early_refusal_events =
    Snap (first_lane 0) 2 ∷ Refused (first_lane 1) TakeSnapKind (Held 2) ∷ Status (first_lane 2) 5 57 1 (Some 2) ∷ []
    ++ marked_write (first_lane 3) 0 1 170
    ++ ListEvent (first_lane 4) 1 true [] ∷ ListEvent (first_lane 5) 1 false ((0, 0) ∷ [])
    ∷ Refused (first_lane 7) DropSnapKind NoSnap ∷ Dropped (first_lane 6) ∷ Refused (first_lane 8) ListKind NoSnap ∷ []

-- The commands of this session.
abbrev pub snapshot_commands : List Command
snapshot_commands =
    command_at 1 (first_lane 0) (Ask TakeSnap) ∷ command_at 2 (first_lane 1) (Ask TakeSnap)
    ∷ command_at 3 (first_lane 2) (Ask StatusRequest) ∷ command_at 4 (first_lane 3) (Write 0 (sector_of 170))
    ∷ command_at 5 (first_lane 4) (Ask (ListRequest 1 true)) ∷ command_at 6 (first_lane 5) (Ask (ListRequest 1 false))
    ∷ command_at 7 (first_lane 6) (Ask DropSnap) ∷ command_at 8 (first_lane 7) (Ask DropSnap)
    ∷ command_at 9 (first_lane 8) (Ask (ListRequest 1 true)) ∷ []

-- The history of the session after `failed_mark_events`.
abbrev pub failed_mark_history : List Happening
failed_mark_history = history_of (small_opening 1 []) failed_mark_events

-- The history of the session after `cut_events`.
abbrev pub cut_history : List Happening
cut_history = history_of (small_opening 1 zeros) cut_events

-- The history of the session after `resolved_events`.
abbrev pub resolved_history : List Happening
resolved_history = history_of (small_opening 1 zeros) resolved_events

-- The journal of `resolved_events`.
abbrev pub resolved_journal : Journal
resolved_journal = journal_of (small_opening 1 zeros) resolved_events

-- The journal of `early_switch_events`.
abbrev pub early_switch_journal : Journal
early_switch_journal = journal_of (small_opening 1 zeros) early_switch_events

-- The history of the session after `snapshot_events`.
abbrev pub snapshot_history : List Happening
snapshot_history = history_of (small_opening 4 []) snapshot_events

-- The journal of `snapshot_events`.
abbrev pub snapshot_journal : Journal
snapshot_journal = journal_of (small_opening 4 []) snapshot_events

-- The journal of `early_refusal_events`.
abbrev pub early_refusal_journal : Journal
early_refusal_journal = journal_of (small_opening 4 []) early_refusal_events
