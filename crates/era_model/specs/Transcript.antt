-- The text that a session writes, as a function of its history and its rounds.
use Rattle.std.specs.Prelude.{ℕ, ◌==◌, List, [], ◌∷◌, ◌++◌, Option, Some, None, codes, decimal, if◌then◌else◌}
use Rattle.hex.specs.Hex.{encode_lower}
use Rattle.era_base.specs.Geometry.{blocks_of}
use Rattle.era_base.specs.declared.geometry.Geometry.{Geometry}
use Rattle.era_model.specs.declared.command.Command.{Command}
use Rattle.era_model.specs.declared.event.Event.{Event}
use Rattle.era_model.specs.declared.reply.Answer.{Answer}
use Rattle.era_model.specs.declared.reply.Answer.TheVariants.{Fine, Range, Fault, Found, EraIs, Kept, End, Snap, Held, NoSnap, Digest, Idle, Status, Blocks, Memory}
use Rattle.era_model.specs.declared.reply.Device.{Device}
use Rattle.era_model.specs.declared.reply.Device.TheVariants.{Data, Meta}
use Rattle.era_model.specs.declared.history.Happening.{Happening}
use Rattle.era_model.specs.Events.{letter_of}
use Rattle.era_model.specs.History.{at_opening, era_of, next_place}
use Rattle.era_model.specs.Commands.{Round, digest_command, events_of, answer_of}

-- Why a session stopped: its stream was read to the end, a line was refused for a reason, the source failed with this count of faults, or memory was refused.
pub data Stop : Type 0 where
  ReadToEnd : Stop
  RefusedLine : (line : ℕ) (reason : List ℕ) → Stop
  SourceFault : (count : ℕ) → Stop
  NoMemory : Stop

-- The first line: the era and the number of blocks.
abbrev pub open_line : Geometry → ℕ → List ℕ
open_line g era = codes "open " ++ decimal era ++ codes " " ++ decimal (blocks_of g.sectors g.block_sectors) ++ 10 ∷ []

-- The last line: the era and the number of events.
abbrev pub end_line : ℕ → ℕ → List ℕ
end_line era events = codes "end " ++ decimal era ++ codes " " ++ decimal events ++ 10 ∷ []

-- The letters and places of events.
abbrev pub trail_text : List (ℕ × Event) → List ℕ
trail_text [] = []
trail_text (event ∷ events) = 32 ∷ letter_of event.1 ∷ decimal event.0 ++ trail_text events

-- A run of blocks: its first and its last one, or the one that it has.
abbrev pub run_text : ℕ × ℕ → List ℕ
run_text run = if run.0 == run.1 then decimal run.0 else decimal run.0 ++ codes "-" ++ decimal run.1

-- Further runs, each after a comma.
abbrev pub more_runs_text : List (ℕ × ℕ) → List ℕ
more_runs_text [] = []
more_runs_text (run ∷ runs) = codes "," ++ run_text run ++ more_runs_text runs

-- Runs of blocks, joined by commas, and a dash where there are none.
abbrev pub runs_text : List (ℕ × ℕ) → List ℕ
runs_text [] = codes "-"
runs_text (run ∷ runs) = run_text run ++ more_runs_text runs

-- A number, or a dash.
abbrev pub number_or_dash : Option ℕ → List ℕ
number_or_dash None = codes "-"
number_or_dash (Some number) = decimal number

-- The name of a device in a reply.
abbrev pub device_text : Device → List ℕ
device_text Data = codes "data"
device_text Meta = codes "meta"

-- The status line: the metadata block size in sectors, the used and all metadata blocks, the era, and the block of the snapshot.
abbrev pub status_text : ℕ → ℕ → ℕ → Option ℕ → List ℕ
status_text used total era held =
    codes "8 " ++ decimal used ++ codes "/" ++ decimal total ++ codes " " ++ decimal era ++ codes " " ++ number_or_dash held

-- The text of an answer.
abbrev pub answer_text : Answer → List ℕ
answer_text Fine = codes "ok"
answer_text Range = codes "range"
answer_text (Fault device count) = codes "fault " ++ device_text device ++ codes " " ++ decimal count
answer_text (Found bytes) = codes "data " ++ encode_lower bytes
answer_text (EraIs era) = codes "era " ++ decimal era
answer_text (Kept inside) = codes "kept " ++ decimal inside
answer_text End = codes "end"
answer_text (Snap block) = codes "snap " ++ decimal block
answer_text (Held block) = codes "held " ++ decimal block
answer_text NoSnap = codes "none"
answer_text (Digest era page) = codes "digest " ++ decimal era ++ codes " " ++ number_or_dash page
answer_text Idle = codes "idle"
answer_text (Status used total era held) = codes "status " ++ status_text used total era held
answer_text (Blocks runs) = codes "blocks " ++ runs_text runs
answer_text Memory = codes "memory"

-- A reply: the number of the command's line, its answer, and its events.
abbrev pub reply_line : ℕ → List (ℕ × Event) → List ℕ
reply_line line events = decimal line ++ codes " " ++ answer_text (answer_of events) ++ trail_text events ++ 10 ∷ []

-- The replies to commands, in their order.
abbrev pub replies_text : List Happening → List Command → List ℕ
replies_text h [] = []
replies_text h (command ∷ commands) = reply_line command.line (events_of h command.id) ++ replies_text h commands

-- The line of a command of the digest worker, with a dash in the place of a line's number.
abbrev pub digest_line : List (ℕ × Event) → List ℕ
digest_line events = codes "- " ++ answer_text (answer_of events) ++ trail_text events ++ 10 ∷ []

-- The lines of the digest worker's commands with these numbers, in their order.
abbrev pub digests_text : List Happening → List ℕ → List ℕ
digests_text h [] = []
digests_text h (number ∷ numbers) = digest_line (events_of h (digest_command number).id) ++ digests_text h numbers

-- The lines of rounds: the replies of each of them, and then those of its digest worker.
abbrev pub rounds_text : List Happening → List Round → List ℕ
rounds_text h [] = []
rounds_text h (round ∷ rounds) =
    replies_text h round.commands ++ digests_text h round.digests ++ rounds_text h rounds

-- The line of a stop, none where the stream was read to its end.
abbrev pub stop_line : Stop → List ℕ
stop_line ReadToEnd = []
stop_line (RefusedLine line reason) = codes "line " ++ decimal line ++ codes " " ++ reason ++ 10 ∷ []
stop_line (SourceFault count) = codes "fault source " ++ decimal count ++ 10 ∷ []
stop_line NoMemory = codes "memory" ++ 10 ∷ []

-- The text of a session but for its last line.
abbrev pub unended_transcript : List Happening → List Round → Stop → List ℕ
unended_transcript h rounds stop =
    at_opening [] (λ opening. open_line opening.geometry opening.era) h ++ rounds_text h rounds ++ stop_line stop

-- The whole text of a session.
abbrev pub session_transcript : List Happening → List Round → Stop → List ℕ
session_transcript h rounds stop = unended_transcript h rounds stop ++ end_line (era_of h) (next_place h)
