-- Which entries of a session are those of the command that was served last, by its task: the trail of its reply.
use Rattle.std.specs.Prelude.{◌≡◌, ℕ, ◌/◌, ◌≤◌, List, [], ◌++◌, length, map, slice_get, Option, Some, None}
use Rattle.std.specs.Borrow.{Bor}
use Rattle.era_base.specs.declared.ids.CmdId.{CmdId}
use Rattle.era_gate.specs.Receipts.{entries_in}
use Rattle.era_gate.specs.Rule.{Each}
use Rattle.era_model.specs.Commands.{answer_of}
use Rattle.era_model.specs.Events.{drawn_by}
use Rattle.era_model.specs.declared.command.Request.{Request}
use Rattle.era_model.specs.declared.command.Request.TheVariants.{Checkpoint}
use Rattle.era_model.specs.declared.command.Task.{Task}
use Rattle.era_model.specs.declared.command.Task.TheVariants.{Write, Read, Ask}
use Rattle.era_model.specs.declared.entry.Entry.{Entry}
use Rattle.era_model.specs.declared.event.Event.{Event}
use Rattle.era_model.specs.declared.reply.Answer.{Answer}
use Rattle.era_notes.specs.Rooms.{last_in}
use Rattle.era_session.specs.AtStripes.{session_place}
use Rattle.era_session.specs.Chunks.{stripe_trail, stripes_trail, write_trail}
use Rattle.era_session.specs.Receipts.{PassDrew}
use Rattle.era_session.specs.declared.session.Session.{Session}
use Rattle.era_session.specs.declared.trails.TheConstants.{TRAIL_ENTRIES}
use Rattle.era_stripe.specs.Results.{only}

-- The entries of the command at the stripe of a block, and none where the command was of no block.
abbrev pub block_trail : {D : Type 0} → Session D → Option (ℕ × ℕ) → List Entry
block_trail session None = []
block_trail session (Some (block, first)) = stripe_trail (slice_get session.stripes.items (block / session.each))

-- The entries of a write to a block, with those of its mark at the keeper. A write of no block drew none.
abbrev pub written_trail : {D : Type 0} → Session D → Option (ℕ × ℕ) → List Entry
written_trail session None = []
written_trail session (Some place) = write_trail (block_trail session (Some place)) (last_in session.keeper.entries)

-- The entries of a request: of a checkpoint those of all stripes in order, and then those of the keeper, who alone draws for the others.
abbrev pub request_trail : {D : Type 0} → Session D → Request → List Entry
request_trail session Checkpoint = stripes_trail session.stripes.items ++ last_in session.keeper.entries
request_trail session request = last_in session.keeper.entries

-- The entries of the command that was served last and did this task, in the order in which they were drawn.
abbrev pub session_trail : {D : Type 0} → Session D → Task → List Entry
session_trail session (Write sector bytes) = written_trail session (session_place session sector (length bytes / 512))
session_trail session (Read sector count) = block_trail session (session_place session sector count)
session_trail session (Ask request) = request_trail session request

-- The entries of the command at the stripe of a block are these, and there are none exactly where the command was of no block.
abbrev pub IsBlockTrail : {D : Type 0} → Option (ℕ × ℕ) → Session D → Option (Bor (List Entry)) → Type 0
IsBlockTrail None session None = Unit {0}
IsBlockTrail None session (Some entries) = ⊥
IsBlockTrail (Some place) session None = ⊥
IsBlockTrail (Some place) session (Some entries) = entries.now ≡ block_trail session (Some place)

-- What entries that are lent are.
abbrev pub lent : List (Bor Entry) → List Entry
lent entries = map (λ (e : Bor Entry). e.now) entries

-- Entries as a reply tells them: each event with its place.
abbrev pub with_places : List Entry → List (ℕ × Event)
with_places entries = map (λ (e : Entry). (e.place, e.event)) entries

-- Behind a command the pass has the receipts of just the entries of the session's trail, in order, and of no others: each was drawn by the command, there are few, and they fix the answer that it was given.
pub record LeavesTrail {D : Type 0} (id : CmdId) (task : Task) (answer : Answer) (old new : Session D) : Type 0 where
  pub events : List Event
  pub drew : PassDrew events (only id) old.pass new.pass
  pub trail : session_trail new task ≡ entries_in drew.receipts
  pub own : Each (λ (e : Entry). drawn_by e.event ≡ id) (session_trail new task)
  pub answers : answer_of (with_places (session_trail new task)) ≡ answer
  pub few : length (session_trail new task) ≤ TRAIL_ENTRIES
