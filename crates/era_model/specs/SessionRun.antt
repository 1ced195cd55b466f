-- Runs of a stream's commands: what each command may draw, and the order of each lane and of the rounds.
use Rattle.std.specs.Prelude.{◌≡◌, ◌⊎◌, ℕ, ◌/◌, ◌<◌, ◌||◌, Bool, true, false, List, [], ◌∷◌, ◌++◌, length, map, Option, None}
use Rattle.era_base.specs.Geometry.{place_at}
use Rattle.era_base.specs.declared.ids.CmdId.{CmdId}
use Rattle.era_model.specs.declared.event.Event.{Event}
use Rattle.era_model.specs.declared.event.Event.TheVariants.{Snap, Dropped, Digest, List as ListEvent, Status, Refused}
use Rattle.era_model.specs.declared.event.Kind.TheVariants.{TakeSnap as TakeSnapKind, DropSnap as DropSnapKind, Digest as DigestKind, Status as StatusKind, List as ListKind}
use Rattle.era_model.specs.declared.event.Why.TheVariants.{Held, NoSnap, Idle, Memory}
use Rattle.era_model.specs.declared.history.Happening.{Happening}
use Rattle.era_model.specs.declared.history.Happening.TheVariants.{Opened, Happened, Crashed}
use Rattle.era_model.specs.Events.{same_id, drawn_by}
use Rattle.era_model.specs.History.{at_opening}
use Rattle.era_model.specs.declared.command.Command.{Command}
use Rattle.era_model.specs.declared.command.Request.{Request}
use Rattle.era_model.specs.declared.command.Request.TheVariants.{Checkpoint, TakeSnap, DropSnap, Digest as DigestRequest, Status as StatusRequest, List as ListRequest}
use Rattle.era_model.specs.declared.command.Task.{Task}
use Rattle.era_model.specs.declared.command.Task.TheVariants.{Write, Read, Ask}
use Rattle.era_model.specs.Commands.{Round, commands_in, commands_of, events_of}
use Rattle.era_model.specs.CommandEvents.{IsMetaFault, AreWriteEvents, AreReadEvents, AreCheckpointEvents}

-- The events of taking a snapshot: it is taken, one is held already, or the metadata disk failed.
abbrev pub AreTakeEvents : CmdId → List Event → Type 0
AreTakeEvents id events =
    ((block : ℕ) × (events ≡ Snap id block ∷ []))
    ⊎ (((block : ℕ) × (events ≡ Refused id TakeSnapKind (Held block) ∷ [])) ⊎ IsMetaFault id TakeSnapKind events)

-- The events of dropping the snapshot: it is dropped, none is held, or the metadata disk failed.
abbrev pub AreDropEvents : CmdId → List Event → Type 0
AreDropEvents id events =
    (events ≡ Dropped id ∷ [])
    ⊎ ((events ≡ Refused id DropSnapKind NoSnap ∷ []) ⊎ IsMetaFault id DropSnapKind events)

-- The events of a digest: a step, no set is archived, or the metadata disk failed.
abbrev pub AreDigestEvents : CmdId → List Event → Type 0
AreDigestEvents id events =
    ((era : ℕ) × (page : Option ℕ) × (events ≡ Digest id era page ∷ []))
    ⊎ ((events ≡ Refused id DigestKind Idle ∷ []) ⊎ IsMetaFault id DigestKind events)

-- The events of a status: its numbers, or the metadata disk failed.
abbrev pub AreStatusEvents : CmdId → List Event → Type 0
AreStatusEvents id events =
    ((used total era : ℕ) × (held : Option ℕ) × (events ≡ Status id used total era held ∷ [])) ⊎ IsMetaFault id StatusKind events

-- No snapshot is held for a list of the snapshot.
abbrev pub IsListWithoutSnap : CmdId → Bool → List Event → Type 0
IsListWithoutSnap id snap events = (snap ≡ true) × (events ≡ Refused id ListKind NoSnap ∷ [])

-- The events of a list: its blocks, no snapshot is held, memory was refused, or the metadata disk failed.
abbrev pub AreListEvents : CmdId → ℕ → Bool → List Event → Type 0
AreListEvents id since snap events =
    ((blocks : List (ℕ × ℕ)) × (events ≡ ListEvent id since snap blocks ∷ []))
    ⊎ (IsListWithoutSnap id snap events ⊎ ((events ≡ Refused id ListKind Memory ∷ []) ⊎ IsMetaFault id ListKind events))

-- The events of a request to the metadata.
abbrev pub AreRequestEvents : List Happening → CmdId → Request → List Event → Type 0
AreRequestEvents h id Checkpoint events = AreCheckpointEvents h id events
AreRequestEvents h id TakeSnap events = AreTakeEvents id events
AreRequestEvents h id DropSnap events = AreDropEvents id events
AreRequestEvents h id DigestRequest events = AreDigestEvents id events
AreRequestEvents h id StatusRequest events = AreStatusEvents id events
AreRequestEvents h id (ListRequest since snap) events = AreListEvents id since snap events

-- The block of so many sectors from a sector on of the session's origin, and the first sector within it, or none.
abbrev pub place_now : List Happening → ℕ → ℕ → Option (ℕ × ℕ)
place_now h sector count =
    at_opening None (λ opening. place_at opening.geometry.sectors opening.geometry.block_sectors sector count) h

-- The events of a command that does this task.
abbrev pub AreTaskEvents : List Happening → CmdId → Task → List Event → Type 0
AreTaskEvents h id (Write sector bytes) events = AreWriteEvents h id bytes (place_now h sector (length bytes / 512)) events
AreTaskEvents h id (Read sector count) events = AreReadEvents h id sector count (place_now h sector count) events
AreTaskEvents h id (Ask request) events = AreRequestEvents h id request events

-- The events without their places.
abbrev pub without_places : List (ℕ × Event) → List Event
without_places events = map (λ event. event.1) events

-- The events that the command drew in the session are some that it may have.
abbrev pub AreEventsOf : List Happening → Command → Type 0
AreEventsOf h command = AreTaskEvents h command.id command.task (without_places (events_of h command.id))

-- Whether one of the commands has the name.
abbrev pub is_among : CmdId → List Command → Bool
is_among id [] = false
is_among id (command ∷ commands) = same_id command.id id || is_among id commands

-- Each event of the session was drawn by one of the commands.
abbrev pub AreAllDrawnBy : List Command → List Happening → Type 0
AreAllDrawnBy commands [] = Unit {0}
AreAllDrawnBy commands (Opened opening ∷ earlier) = Unit {0}
AreAllDrawnBy commands (Happened event ∷ earlier) = (is_among (drawn_by event) commands ≡ true) × AreAllDrawnBy commands earlier
AreAllDrawnBy commands (Crashed images ∷ earlier) = Unit {0}

-- Each of the commands has events that it may have.
abbrev pub HaveTheirEvents : List Happening → List Command → Type 0
HaveTheirEvents h [] = Unit {0}
HaveTheirEvents h (command ∷ commands) = AreEventsOf h command × HaveTheirEvents h commands

-- The place is smaller than that of each of the events.
abbrev pub IsBefore : ℕ → List (ℕ × Event) → Type 0
IsBefore place [] = Unit {0}
IsBefore place (event ∷ events) = (place < event.0) × IsBefore place events

-- Each of the first events has a smaller place than each of the second ones.
abbrev pub AllBefore : List (ℕ × Event) → List (ℕ × Event) → Type 0
AllBefore [] second = Unit {0}
AllBefore (event ∷ first) second = IsBefore event.0 second × AllBefore first second

-- The command's events stand before those of each of the commands of its lane.
abbrev pub StandsBefore : List Happening → Command → List Command → Type 0
StandsBefore h command [] = Unit {0}
StandsBefore h command (later ∷ commands) =
    (command.id.lane ≡ later.id.lane → AllBefore (events_of h command.id) (events_of h later.id)) × StandsBefore h command commands

-- The places of each lane's commands ascend in the order of the commands.
abbrev pub KeepsLanes : List Happening → List Command → Type 0
KeepsLanes h [] = Unit {0}
KeepsLanes h (command ∷ commands) = StandsBefore h command commands × KeepsLanes h commands

-- The events of each of the commands stand before those of a later one.
abbrev pub AllStandBefore : List Happening → List Command → Command → Type 0
AllStandBefore h [] later = Unit {0}
AllStandBefore h (command ∷ commands) later =
    AllBefore (events_of h command.id) (events_of h later.id) × AllStandBefore h commands later

-- The events of the first commands all stand before those of the later ones.
abbrev pub AreParted : List Happening → List Command → List Command → Type 0
AreParted h first [] = Unit {0}
AreParted h first (command ∷ later) = AllStandBefore h first command × AreParted h first later

-- The places of each round are above those of every earlier round.
abbrev pub KeepsRounds : List Happening → List Round → Type 0
KeepsRounds h [] = Unit {0}
KeepsRounds h (round ∷ rounds) = AreParted h (commands_in round) (commands_of rounds) × KeepsRounds h rounds

-- The session ran the rounds: each event is of one of their commands, each command has events that it may have, each lane's order is kept, and each round is behind the ones before it.
pub record IsRun (h : List Happening) (rounds : List Round) : Type 0 where
  pub drawn : AreAllDrawnBy (commands_of rounds) h
  pub events : HaveTheirEvents h (commands_of rounds)
  pub lanes : KeepsLanes h (commands_of rounds)
  pub borders : KeepsRounds h rounds
