-- What a command comes to, whatever it asks.
use Rattle.std.specs.Prelude.{◌≡◌, ℕ, ◌*◌, ◌/◌, ◌≤◌, length, vec_len}
use Rattle.era_base.specs.declared.disk.Disk.{Ghosts}
use Rattle.era_base.specs.declared.ids.CmdId.{CmdId}
use Rattle.era_model.specs.declared.command.Request.{Request}
use Rattle.era_model.specs.declared.command.Request.TheVariants.{Checkpoint}
use Rattle.era_model.specs.declared.command.Task.{Task}
use Rattle.era_model.specs.declared.command.Task.TheVariants.{Write, Read, Ask}
use Rattle.era_model.specs.declared.reply.Answer.{Answer}
use Rattle.era_session.specs.AtStripes.{WriteDid, session_place}
use Rattle.era_session.specs.Checkpoints.{CheckpointWent}
use Rattle.era_session.specs.Reads.{ReadDid}
use Rattle.era_session.specs.Requests.{KeeperCalled, RequestDrew, RequestWent, request_events}
use Rattle.era_session.specs.declared.rooms.CommandRoom.{CommandRoom}
use Rattle.era_session.specs.declared.rooms.CommandRoom.TheVariants as room
use Rattle.era_session.specs.declared.session.Session.{Session}

-- The memory is that of a request at a session of so many stripes.
abbrev pub IsRequestRoom : ℕ → Request → CommandRoom → Type 0
IsRequestRoom stripes Checkpoint (room.Checkpoint rooms keeper) = vec_len rooms ≡ stripes
IsRequestRoom stripes Checkpoint other = ⊥
IsRequestRoom stripes request (room.Ask keeper) = Unit {0}
IsRequestRoom stripes request other = ⊥

-- The memory is that of a command that does this task, at a session of so many stripes: it has place for its bytes, and a room at each owner that may draw.
abbrev pub IsRoomFor : ℕ → Task → CommandRoom → Type 0
IsRoomFor stripes (Write sector bytes) (room.Write marking at_stripe) = length bytes ≤ at_stripe
IsRoomFor stripes (Read sector count) (room.Read at_stripe into) = (count * 512 ≤ vec_len into) × (count * 512 ≤ at_stripe)
IsRoomFor stripes (Ask request) memory = IsRequestRoom stripes request memory
IsRoomFor stripes task other = ⊥

-- What a request to the metadata did, and that the pass has the receipt of its event.
abbrev pub RequestDid : {D : Type 0} → Ghosts D → CmdId → Request → Answer → Session D → Session D → Type 0
RequestDid disk id Checkpoint answer old new = CheckpointWent disk id answer old new
RequestDid disk id request answer old new =
    KeeperCalled disk (RequestWent disk id request answer) answer old new × RequestDrew (request_events id request answer) old new

-- What a command of this name did by its task, with its answer.
abbrev pub TaskDid : {D : Type 0} → Ghosts D → CmdId → Task → Answer → Session D → Session D → Type 0
TaskDid disk id (Write sector bytes) answer old new = WriteDid disk (session_place old sector (length bytes / 512)) id bytes answer old new
TaskDid disk id (Read sector count) answer old new = ReadDid disk (session_place old sector count) id sector count answer old new
TaskDid disk id (Ask request) answer old new = RequestDid disk id request answer old new
