-- Commands of a stream, in rounds: the events that each of them drew, and the answer that these fix.
use Rattle.std.specs.Prelude.{ℕ, List, [], ◌∷◌, ◌++◌, map, if◌then◌else◌}
use Rattle.era_base.specs.declared.ids.CmdId.{CmdId}
use Rattle.era_model.specs.declared.command.Command.{Command}
use Rattle.era_model.specs.declared.command.Request.TheVariants.{Digest as DigestRequest}
use Rattle.era_model.specs.declared.command.Task.TheVariants.{Ask}
use Rattle.era_model.specs.declared.event.Event.{Event}
use Rattle.era_model.specs.declared.event.Event.TheVariants.{Tried, Mark, Go, Done, Cut, Settle, Unsettled, Read, Roll, Kept, Snap, Dropped, Digest, List as ListEvent, Status, Refused}
use Rattle.era_model.specs.declared.event.Why.{Why}
use Rattle.era_model.specs.declared.event.Why.TheVariants.{DataFault, MetaFault, End, Held, NoSnap, Idle, Memory}
use Rattle.era_model.specs.declared.reply.Answer.{Answer}
use Rattle.era_model.specs.declared.reply.Answer.TheVariants.{Fine, Range, Fault, Found, EraIs, Kept as KeptAnswer, End as EndAnswer, Snap as SnapAnswer, Held as HeldAnswer, NoSnap as NoSnapAnswer, Digest as DigestAnswer, Idle as IdleAnswer, Status as StatusAnswer, Blocks, Memory as MemoryAnswer}
use Rattle.era_model.specs.declared.reply.Device.TheVariants.{Data, Meta}
use Rattle.era_model.specs.declared.history.Happening.{Happening}
use Rattle.era_model.specs.declared.history.Happening.TheVariants.{Opened, Happened, Crashed}
use Rattle.era_model.specs.Events.{same_id, drawn_by}
use Rattle.era_model.specs.History.{next_place}

-- A round: the commands between two barriers of a stream, in its order, and the numbers of those that the digest worker ran beside them, in their order.
pub record Round : Type 0 where
  pub commands : List Command
  pub digests : List ℕ

-- The command of the digest worker, which is lane 64, with this number. It stands on no line of the stream, whose lines are numbered from 1.
abbrev pub digest_command : ℕ → Command
digest_command number = record { line = 0; id = record { lane = 64; number = number }; task = Ask DigestRequest }

-- The commands of a round: those of the stream, and then those of the digest worker.
abbrev pub commands_in : Round → List Command
commands_in round = round.commands ++ map digest_command round.digests

-- The commands of all rounds, in order.
abbrev pub commands_of : List Round → List Command
commands_of [] = []
commands_of (round ∷ rounds) = commands_in round ++ commands_of rounds

-- The round of these commands, without a digest worker.
abbrev pub round_of : List Command → Round
round_of commands = record { commands = commands; digests = [] }

-- That round alone.
abbrev pub one_round : List Command → List Round
one_round commands = round_of commands ∷ []

-- The events that the command drew in the present session, each with its place, in the order of the places.
abbrev pub events_of : List Happening → CmdId → List (ℕ × Event)
events_of [] id = []
events_of (Opened opening ∷ earlier) id = []
events_of (Happened event ∷ earlier) id =
    if same_id (drawn_by event) id then events_of earlier id ++ (next_place earlier, event) ∷ [] else events_of earlier id
events_of (Crashed images ∷ earlier) id = []

-- The answer to a command that was refused.
abbrev pub refusal_answer : Why → Answer
refusal_answer (DataFault stripe count) = Fault Data count
refusal_answer (MetaFault count) = Fault Meta count
refusal_answer End = EndAnswer
refusal_answer (Held block) = HeldAnswer block
refusal_answer NoSnap = NoSnapAnswer
refusal_answer Idle = IdleAnswer
refusal_answer Memory = MemoryAnswer

-- The answer that an event gives to its command. A request, a mark, a write that was issued and a resolution give none, and leave the one before.
abbrev pub answer_after_event : Answer → Event → Answer
answer_after_event before (Tried id block era) = before
answer_after_event before (Mark id block era) = before
answer_after_event before (Go id block era first bytes) = before
answer_after_event before (Done id) = Fine
answer_after_event before (Cut id faults) = Fault Data faults
answer_after_event before (Settle by cut bytes) = before
answer_after_event before (Unsettled by cut faults) = before
answer_after_event before (Read id sector bytes) = Found bytes
answer_after_event before (Roll id era) = EraIs era
answer_after_event before (Kept id inside) = KeptAnswer inside
answer_after_event before (Snap id block) = SnapAnswer block
answer_after_event before (Dropped id) = Fine
answer_after_event before (Digest id era page) = DigestAnswer era page
answer_after_event before (ListEvent id since snap blocks) = Blocks blocks
answer_after_event before (Status id used total era held) = StatusAnswer used total era held
answer_after_event before (Refused id kind why) = refusal_answer why

-- The answer after so many more events of the command.
abbrev pub answer_after : Answer → List (ℕ × Event) → Answer
answer_after before [] = before
answer_after before (event ∷ events) = answer_after (answer_after_event before event.1) events

-- The one answer that a command's events fix: that of its last event, and out of range where it has none.
abbrev pub answer_of : List (ℕ × Event) → Answer
answer_of events = answer_after Range events
