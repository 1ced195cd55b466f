-- Small sessions that are no run of the commands given with them, and one with a digest worker.
use Rattle.std.specs.Prelude.{ℕ, List, [], ◌∷◌, ◌++◌, false, codes, None, Some}
use Rattle.era_base.specs.declared.ids.CmdId.{CmdId}
use Rattle.era_model.specs.declared.command.Command.{Command}
use Rattle.era_model.specs.declared.command.Request.TheVariants.{Checkpoint, TakeSnap, DropSnap, List as ListRequest}
use Rattle.era_model.specs.declared.command.Task.TheVariants.{Write, Read as ReadTask, Ask}
use Rattle.era_model.specs.declared.event.Event.{Event}
use Rattle.era_model.specs.declared.event.Event.TheVariants.{Settle, Unsettled, Roll, Kept, Snap, Dropped, Digest, List as ListEvent, Refused}
use Rattle.era_model.specs.declared.event.Kind.TheVariants.{Digest as DigestKind, List as ListKind}
use Rattle.era_model.specs.declared.event.Why.TheVariants.{NoSnap, Idle}
use Rattle.era_model.specs.declared.history.Happening.{Happening}
use Rattle.era_model.specs.Commands.{Round, digest_command}
use Rattle.era_model.specs.Rows.{command_at, first_lane, history_of, sector_of, small_opening, text_of, zeros}
use Rattle.era_model.specs.RowsOfFaults.{cut_events}
use Rattle.era_model.specs.RowsOfWrites.{marked_write, second_lane}

-- A list is answered as if it were one by the snapshot, and none were held.
abbrev pub refused_list_history : List Happening
refused_list_history = history_of (small_opening 4 []) (Refused (first_lane 0) ListKind NoSnap ∷ [])

-- A list of the marks.
abbrev pub list_commands : List Command
list_commands = command_at 1 (first_lane 0) (Ask (ListRequest 1 false)) ∷ []

-- A write that is cut, and a checkpoint.
abbrev pub checkpoint_commands : List Command
checkpoint_commands =
    command_at 1 (first_lane 0) (Write 0 (sector_of 170)) ∷ command_at 2 (first_lane 1) (Ask Checkpoint) ∷ []

-- A write that is cut, and a checkpoint that resolves it twice.
abbrev pub resolved_twice_history : List Happening
resolved_twice_history =
    history_of (small_opening 1 zeros) (cut_events
    ++ Settle (first_lane 1) (first_lane 0) (sector_of 170) ∷ Settle (first_lane 1) (first_lane 0) (sector_of 170)
    ∷ Roll (first_lane 1) 2 ∷ [])

-- A write that is cut, and a checkpoint that twice can't resolve it.
abbrev pub unresolved_twice_history : List Happening
unresolved_twice_history =
    history_of (small_opening 1 zeros) (cut_events
    ++ Unsettled (first_lane 1) (first_lane 0) 2 ∷ Unsettled (first_lane 1) (first_lane 0) 3 ∷ Kept (first_lane 1) 1 ∷ [])

-- Two writes to one block, and a read of one sector more than they wrote.
abbrev pub longer_read_commands : List Command
longer_read_commands =
    command_at 1 (first_lane 0) (Write 0 (sector_of 170)) ∷ command_at 2 (first_lane 1) (Write 1 (sector_of 187))
    ∷ command_at 3 (first_lane 2) (ReadTask 0 3) ∷ []

-- A write of other bytes than those of the write that was cut.
abbrev pub other_write_commands : List Command
other_write_commands = command_at 1 (first_lane 0) (Write 0 (sector_of 171)) ∷ []

-- A snapshot is taken, and dropped by the next command of its lane.
abbrev pub dropped_history : List Happening
dropped_history = history_of (small_opening 4 []) (Snap (first_lane 0) 2 ∷ Dropped (first_lane 1) ∷ [])

-- The taking alone.
abbrev pub take_commands : List Command
take_commands = command_at 1 (first_lane 0) (Ask TakeSnap) ∷ []

-- The dropping before the taking.
abbrev pub reversed_commands : List Command
reversed_commands = command_at 1 (first_lane 1) (Ask DropSnap) ∷ take_commands

-- A snapshot is taken, and dropped by another lane.
abbrev pub dropped_beside_history : List Happening
dropped_beside_history = history_of (small_opening 4 []) (Snap (first_lane 0) 2 ∷ Dropped second_lane ∷ [])

-- The dropping by the other lane.
abbrev pub drop_beside_commands : List Command
drop_beside_commands = command_at 2 second_lane (Ask DropSnap) ∷ []

-- A write and a checkpoint, with two steps of the digest worker beside them, and a list with a third one.
abbrev pub worked_rounds : List Round
worked_rounds =
    record {
      commands = command_at 1 (first_lane 0) (Write 40 (sector_of 170)) ∷ command_at 2 (first_lane 1) (Ask Checkpoint) ∷ [];
      digests = 0 ∷ 1 ∷ [];
    }
    ∷ record { commands = command_at 4 (first_lane 2) (Ask (ListRequest 1 false)) ∷ []; digests = 2 ∷ [] } ∷ []

-- The command of the digest worker with this number.
abbrev pub digest_worker : ℕ → CmdId
digest_worker number = (digest_command number).id

-- The history of these rounds: the steps transcribe the block's page, drop the set, and find nothing.
abbrev pub worked_history : List Happening
worked_history =
    history_of (small_opening 4 []) (marked_write (first_lane 0) 5 1 170
    ++ Roll (first_lane 1) 2 ∷ Digest (digest_worker 0) 1 (Some 0) ∷ Digest (digest_worker 1) 1 None
    ∷ ListEvent (first_lane 2) 1 false ((5, 5) ∷ []) ∷ Refused (digest_worker 2) DigestKind Idle ∷ [])

-- The text of this session.
abbrev pub worked_text : List ℕ
worked_text =
    text_of (codes "open 1 64" ∷ codes "1 ok t0 m1 g2 d3" ∷ codes "2 era 2 e4" ∷ codes "- digest 1 0 a5"
    ∷ codes "- digest 1 - a6" ∷ codes "4 blocks 5 l7" ∷ codes "- idle f8" ∷ codes "end 2 9" ∷ [])
