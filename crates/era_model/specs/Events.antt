-- Events: whose they are, and the letter that a reply gives them.
use Rattle.std.specs.Prelude.{ℕ, ◌==◌, ◌&&◌, Bool, true, false, Option, Some, None}
use Rattle.era_base.specs.declared.ids.CmdId.{CmdId}
use Rattle.era_model.specs.declared.event.Event.{Event}
use Rattle.era_model.specs.declared.event.Event.TheVariants.{Tried, Mark, Go, Done, Cut, Settle, Unsettled, Read, Roll, Kept, Snap, Dropped, Digest, List, Status, Refused}
use Rattle.era_model.specs.declared.event.Why.TheVariants.{MetaFault}

-- Whether two commands are the same one.
abbrev pub same_id : CmdId → CmdId → Bool
same_id first second = first.lane == second.lane && first.number == second.number

-- The command that drew the event: of a resolution, the command that resolved.
abbrev pub drawn_by : Event → CmdId
drawn_by (Tried id block era) = id
drawn_by (Mark id block era) = id
drawn_by (Go id block era first bytes) = id
drawn_by (Done id) = id
drawn_by (Cut id faults) = id
drawn_by (Settle by cut bytes) = by
drawn_by (Unsettled by cut faults) = by
drawn_by (Read id sector bytes) = id
drawn_by (Roll id era) = id
drawn_by (Kept id inside) = id
drawn_by (Snap id block) = id
drawn_by (Dropped id) = id
drawn_by (Digest id era page) = id
drawn_by (List id since snap blocks) = id
drawn_by (Status id used total era held) = id
drawn_by (Refused id kind why) = id

-- The letter of an event in a reply, as its ASCII byte: t, m, g, d, c, s, u, r, e, k, p, x, a, l, q and f.
abbrev pub letter_of : Event → ℕ
letter_of (Tried id block era) = 116
letter_of (Mark id block era) = 109
letter_of (Go id block era first bytes) = 103
letter_of (Done id) = 100
letter_of (Cut id faults) = 99
letter_of (Settle by cut bytes) = 115
letter_of (Unsettled by cut faults) = 117
letter_of (Read id sector bytes) = 114
letter_of (Roll id era) = 101
letter_of (Kept id inside) = 107
letter_of (Snap id block) = 112
letter_of (Dropped id) = 120
letter_of (Digest id era page) = 97
letter_of (List id since snap blocks) = 108
letter_of (Status id used total era held) = 113
letter_of (Refused id kind why) = 102

-- The block that an event of a write names: of a request, of a mark and of a write that was issued.
abbrev pub block_of_event : Event → Option ℕ
block_of_event (Tried id block era) = Some block
block_of_event (Mark id block era) = Some block
block_of_event (Go id block era first bytes) = Some block
block_of_event event = None

-- Whether the event is drawn at the metadata and isn't a refusal.
abbrev pub is_metadata_answer : Event → Bool
is_metadata_answer (Tried id block era) = true
is_metadata_answer (Mark id block era) = true
is_metadata_answer (Roll id era) = true
is_metadata_answer (Kept id inside) = true
is_metadata_answer (Snap id block) = true
is_metadata_answer (Dropped id) = true
is_metadata_answer (Digest id era page) = true
is_metadata_answer (List id since snap blocks) = true
is_metadata_answer (Status id used total era held) = true
is_metadata_answer event = false

-- Whether the event is that a write of the command was issued.
abbrev pub is_go_of : CmdId → Event → Bool
is_go_of id (Go other block era first bytes) = same_id other id
is_go_of id event = false

-- Whether the event is that the command moved to another era.
abbrev pub is_switch_of : CmdId → Event → Bool
is_switch_of id (Roll other era) = same_id other id
is_switch_of id event = false

-- Whether the event is that the command asked to mark its block.
abbrev pub is_request_of : CmdId → Event → Bool
is_request_of id (Tried other block era) = same_id other id
is_request_of id event = false

-- Whether the event is that the metadata disk failed for the command.
abbrev pub is_metadata_fault_of : CmdId → Event → Bool
is_metadata_fault_of id (Refused other kind (MetaFault count)) = same_id other id
is_metadata_fault_of id event = false
