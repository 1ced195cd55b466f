-- The commands that a session served one after the other, and what it tells of them.
use Rattle.std.specs.Prelude.{◌≡◌, ℕ, ◌+◌, ◌<◌, false, List, [], ◌∷◌, ◌++◌, map}
use Rattle.std.specs.List.{flat_map}
use Rattle.era_account.specs.Account.{HasEnded}
use Rattle.era_base.specs.declared.disk.Disk.{Ghosts}
use Rattle.era_gate.specs.Acts.{Act}
use Rattle.era_gate.specs.Calls.{has_gone, new_pass}
use Rattle.era_model.specs.Commands.{Round, round_of}
use Rattle.era_model.specs.Journal.{history_after}
use Rattle.era_model.specs.Transcript.{reply_line}
use Rattle.era_model.specs.declared.command.Command.{Command}
use Rattle.era_model.specs.declared.entry.Entry.{Entry}
use Rattle.era_model.specs.declared.history.Happening.{Happening}
use Rattle.era_model.specs.declared.history.Happening.TheVariants.{Opened}
use Rattle.era_model.specs.declared.journal.Journal.{Journal}
use Rattle.era_model.specs.declared.opening.Opening.{Opening}
use Rattle.era_model.specs.declared.reply.Answer.{Answer}
use Rattle.era_session.specs.Serving.{TaskDid}
use Rattle.era_session.specs.Sessions.{DrawsAtMost, IsUncut, SameSession, SessionFits, SessionStands}
use Rattle.era_session.specs.Trails.{session_trail, with_places}
use Rattle.era_session.specs.declared.session.Session.{Session}
use Rattle.era_stripe.specs.Results.{only}

-- A command that a session served: its answer, and the entries that it drew, in their order.
pub record Served : Type 0 where
  pub command : Command
  pub answer : Answer
  pub trail : List Entry

-- A session served a command: it fits together before and behind it and stands where it stood, the command had issued no write, it did its task with this answer, and these are the entries of its trail.
pub record HasServed {D : Type 0} (disk : Ghosts D) (one : Served) (old new : Session D) : Type 0 where
  pub fits : SessionFits disk old
  pub fits' : SessionFits disk new
  pub stands : (opening : Opening) → SessionStands disk opening old → SessionStands disk opening new
  pub once : has_gone one.command.id old.pass.part.lanes ≡ false
  pub did : TaskDid disk one.command.id one.command.task one.answer old new
  pub trail : session_trail new one.command.task ≡ one.trail
  pub same : SameSession disk old new
  pub draws : DrawsAtMost 24 (only one.command.id) old.pass new.pass

-- A session served commands, one after the other.
abbrev pub HasServedAll : {D : Type 0} → Ghosts D → List Served → Session D → Session D → Type 0
HasServedAll disk [] old new = new ≡ old
HasServedAll {D} disk (one ∷ more) old new = (between : Session D) × HasServed disk one old between × HasServedAll disk more between new

-- Nothing was drawn in a session yet.
abbrev pub IsNew : {D : Type 0} → Session D → Type 0
IsNew session = session.pass.part ≡ new_pass

-- The commands that were served, in their order.
abbrev pub commands_of : List Served → List Command
commands_of served = map (λ (one : Served). one.command) served

-- The entries that they drew, in their order.
abbrev pub entries_of : List Served → List Entry
entries_of served = flat_map (λ (one : Served). one.trail) served

-- Commands are those of a lane, numbered one after another, the first of them with this number.
abbrev pub AreOfLane : ℕ → ℕ → List Command → Type 0
AreOfLane lane number [] = Unit {0}
AreOfLane lane number (command ∷ commands) =
    (command.id ≡ record { lane = lane; number = number }) × AreOfLane lane (number + 1) commands

-- The replies to commands that were served, in their order.
abbrev pub served_text : List Served → List ℕ
served_text [] = []
served_text (one ∷ more) = reply_line one.command.line (with_places one.trail) ++ served_text more

-- The commands of all rounds, in their order.
abbrev pub joined : List (List Served) → List Served
joined rounds = flat_map (λ (round : List Served). round) rounds

-- The rounds of the commands that were served, without a digest worker.
abbrev pub rounds_of : List (List Served) → List Round
rounds_of rounds = map (λ (round : List Served). round_of (commands_of round)) rounds

-- The whole history of a journal.
abbrev pub history_of : Journal → List Happening
history_of journal = history_after (Opened journal.opening ∷ []) journal.entries

-- A session ran commands of one lane, from its first moment to its end with a journal: it began with nothing drawn and no write cut, and stood in the journal's opening, it served them one after the other, and then it ended.
pub record HasRun {D : Type 0} (disk : Ghosts D) (journal : Journal) (lane : ℕ) (served : List Served) (first last : Session D) (places : ℕ) (acts : List Act) : Type 0 where
  pub begun : IsNew first
  pub uncut : IsUncut first
  pub stands : SessionStands disk journal.opening first
  pub all : HasServedAll disk served first last
  pub lane_is : lane < 64
  pub of_lane : AreOfLane lane 0 (commands_of served)
  pub ended : HasEnded disk journal last places acts
