-- Small sessions that show writes, marks and lists.
use Rattle.std.specs.Prelude.{ℕ, zero, suc, ◌+◌, List, [], ◌∷◌, ◌++◌, false, codes, decimal, None}
use Rattle.era_model.specs.declared.event.Event.{Event}
use Rattle.era_model.specs.declared.history.Happening.{Happening}
use Rattle.era_model.specs.declared.journal.Journal.{Journal}
use Rattle.era_model.specs.declared.event.Event.TheVariants.{Tried, Mark, Go, Done, Read, Roll, Kept, List as ListEvent, Status}
use Rattle.era_base.specs.declared.ids.CmdId.{CmdId}
use Rattle.era_model.specs.declared.command.Command.{Command}
use Rattle.era_model.specs.declared.command.Request.TheVariants.{Checkpoint, Status as StatusRequest, List as ListRequest}
use Rattle.era_model.specs.declared.command.Task.TheVariants.{Write, Read as ReadTask, Ask}
use Rattle.era_model.specs.Commands.{Round, round_of}
use Rattle.era_model.specs.Rows.{command_at, first_lane, history_of, journal_of, sector_of, small_opening, text_of, zeros}

-- A write of one sector to a block that isn't marked: its request, its mark, the write, and its acknowledgement.
abbrev pub marked_write : CmdId → ℕ → ℕ → ℕ → List Event
marked_write id block era byte =
    Tried id block era ∷ Mark id block era ∷ Go id block era 0 (sector_of byte) ∷ Done id ∷ []

-- One write, and lists since the eras 1, 2 and 0.
abbrev pub listed_events : List Event
listed_events =
    marked_write (first_lane 0) 0 1 170
    ++ ListEvent (first_lane 1) 1 false ((0, 0) ∷ []) ∷ ListEvent (first_lane 2) 2 false []
    ∷ ListEvent (first_lane 3) 0 false ((0, 0) ∷ []) ∷ []

-- The commands of these lists.
abbrev pub listed_commands : List Command
listed_commands =
    command_at 1 (first_lane 0) (Write 0 (sector_of 170)) ∷ command_at 2 (first_lane 1) (Ask (ListRequest 1 false))
    ∷ command_at 3 (first_lane 2) (Ask (ListRequest 2 false)) ∷ command_at 4 (first_lane 3) (Ask (ListRequest 0 false)) ∷ []

-- The events of two writes to one block.
abbrev pub two_writes : List Event
two_writes =
    Tried (first_lane 0) 0 1 ∷ Mark (first_lane 0) 0 1 ∷ Go (first_lane 0) 0 1 0 (sector_of 170) ∷ Done (first_lane 0)
    ∷ Go (first_lane 1) 0 1 1 (sector_of 187) ∷ Done (first_lane 1) ∷ []

-- Two writes to one block, and a read of what they wrote.
abbrev pub read_back_events : List Event
read_back_events = two_writes ++ Read (first_lane 2) 0 (sector_of 170 ++ sector_of 187) ∷ []

-- The same, but the first write is issued before its mark is stored.
abbrev pub early_write_events : List Event
early_write_events =
    Tried (first_lane 0) 0 1 ∷ Go (first_lane 0) 0 1 0 (sector_of 170) ∷ Mark (first_lane 0) 0 1 ∷ Done (first_lane 0)
    ∷ Go (first_lane 1) 0 1 1 (sector_of 187) ∷ Done (first_lane 1)
    ∷ Read (first_lane 2) 0 (sector_of 170 ++ sector_of 187) ∷ []

-- The commands of these writes and the read.
abbrev pub read_back_commands : List Command
read_back_commands =
    command_at 1 (first_lane 0) (Write 0 (sector_of 170)) ∷ command_at 2 (first_lane 1) (Write 1 (sector_of 187))
    ∷ command_at 3 (first_lane 2) (ReadTask 0 2) ∷ []

-- So many checkpoints that each move the era, the first of them to the era 2 by the command of number 1.
abbrev pub checkpoints : ℕ → List Event
checkpoints zero = []
checkpoints (suc count) = checkpoints count ++ Roll (first_lane (count + 1)) (count + 2) ∷ []

-- One write, seventeen checkpoints, a status, and lists since the eras 1 and 2.
abbrev pub merged_events : List Event
merged_events =
    marked_write (first_lane 0) 3 1 170 ++ checkpoints 17
    ++ Status (first_lane 18) 20 57 18 None ∷ ListEvent (first_lane 19) 1 false ((3, 3) ∷ [])
    ∷ ListEvent (first_lane 20) 2 false [] ∷ []

-- So many commands that are checkpoints, the first of them on line 2.
abbrev pub checkpoint_commands : ℕ → List Command
checkpoint_commands zero = []
checkpoint_commands (suc count) =
    checkpoint_commands count ++ command_at (count + 2) (first_lane (count + 1)) (Ask Checkpoint) ∷ []

-- The commands of this session.
abbrev pub merged_commands : List Command
merged_commands =
    command_at 1 (first_lane 0) (Write 24 (sector_of 170)) ∷ checkpoint_commands 17
    ++ command_at 19 (first_lane 18) (Ask StatusRequest) ∷ command_at 20 (first_lane 19) (Ask (ListRequest 1 false))
    ∷ command_at 21 (first_lane 20) (Ask (ListRequest 2 false)) ∷ []

-- The command of lane 1 with the number 0.
abbrev pub second_lane : CmdId
second_lane = record { lane = 1; number = 0 }

-- A write, a checkpoint of another lane that a second write under way makes keep the era, and a checkpoint that moves it.
abbrev pub kept_events : List Event
kept_events =
    marked_write (first_lane 0) 0 1 170
    ++ Kept second_lane 1 ∷ Go (first_lane 1) 0 1 0 (sector_of 187) ∷ Done (first_lane 1) ∷ Roll (first_lane 2) 2 ∷ []

-- The rounds of this session: the second write and the checkpoint of the other lane are in one.
abbrev pub kept_rounds : List Round
kept_rounds =
    round_of (command_at 1 (first_lane 0) (Write 0 (sector_of 170)) ∷ [])
    ∷ round_of (command_at 3 (first_lane 1) (Write 0 (sector_of 187)) ∷ command_at 4 second_lane (Ask Checkpoint) ∷ [])
    ∷ round_of (command_at 6 (first_lane 2) (Ask Checkpoint) ∷ []) ∷ []

-- The replies to so many checkpoints, the first of them on line 2 with the place 4.
abbrev pub checkpoint_lines : ℕ → List (List ℕ)
checkpoint_lines zero = []
checkpoint_lines (suc count) =
    checkpoint_lines count
    ++ (decimal (count + 2) ++ codes " era " ++ decimal (count + 2) ++ codes " e" ++ decimal (count + 4)) ∷ []

-- The text of the session with seventeen checkpoints.
abbrev pub merged_text : List ℕ
merged_text =
    text_of (codes "open 1 64" ∷ codes "1 ok t0 m1 g2 d3" ∷ checkpoint_lines 17
    ++ codes "19 status 8 20/57 18 - q21" ∷ codes "20 blocks 3 l22" ∷ codes "21 blocks - l23" ∷ codes "end 18 24" ∷ [])

-- The history of the session after `listed_events`.
abbrev pub listed_history : List Happening
listed_history = history_of (small_opening 4 []) listed_events

-- The history of the session after `read_back_events`.
abbrev pub read_back_history : List Happening
read_back_history = history_of (small_opening 4 zeros) read_back_events

-- The journal of `read_back_events`.
abbrev pub read_back_journal : Journal
read_back_journal = journal_of (small_opening 4 zeros) read_back_events

-- The journal of `early_write_events`.
abbrev pub early_write_journal : Journal
early_write_journal = journal_of (small_opening 4 zeros) early_write_events

-- The history of the session after `merged_events`.
abbrev pub merged_history : List Happening
merged_history = history_of (small_opening 4 []) merged_events

-- The history of the session after `kept_events`.
abbrev pub kept_history : List Happening
kept_history = history_of (small_opening 1 []) kept_events

-- The history of the session after `two_writes`.
abbrev pub two_writes_history : List Happening
two_writes_history = history_of (small_opening 4 zeros) two_writes
