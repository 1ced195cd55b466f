-- What a session tells, and what its journal accounts for. A definition takes the members of the disk's trait, as `D.Disk`.
use Rattle.std.specs.Prelude.{◌≡◌, ℕ, Bool, true, List, map}
use Rattle.std.specs.List.{flat_map, list_any}
use Rattle.era_account.specs.Account.{session_devices}
use Rattle.era_base.specs.declared.disk.Disk.{Ghosts}
use Rattle.era_journal.specs.SeenDevices.{StandsForMarks}
use Rattle.era_model.specs.Commands.{Round, answer_of, events_of, round_of}
use Rattle.era_model.specs.Legal.{IsLegalJournal}
use Rattle.era_model.specs.SessionRun.{IsRun}
use Rattle.era_model.specs.Transcript.{session_transcript}
use Rattle.era_model.specs.declared.command.Command.{Command}
use Rattle.era_model.specs.declared.journal.Journal.{Journal}
use Rattle.era_model.specs.declared.reply.Answer.{Answer}
use Rattle.era_promise.specs.Sessions.{DevicesFollow, EndsDurable}
use Rattle.era_promise.specs.Survival.{SurvivesCrashes}
use Rattle.era_run.specs.Endings.{told_stop}
use Rattle.era_serve.specs.declared.stop.Stop.{Stop}
use Rattle.era_served.specs.Served.{history_of}
use Rattle.era_session.specs.Openings.{opening_of}
use Rattle.era_session.specs.declared.session.Session.{Session}

-- What a session tells: its journal, the rounds of commands that it ran, and how it stopped.
pub record Told : Type 0 where
  pub journal : Journal
  pub rounds : List (List Command)
  pub stop : Stop

-- The rounds of a session, without a digest worker.
abbrev pub rounds_of : Told → List Round
rounds_of told = map round_of told.rounds

-- The commands that a session ran, in their order.
abbrev pub commands_of : Told → List Command
commands_of told = flat_map (λ (round : List Command). round) told.rounds

-- The whole text of a session.
abbrev pub text_of : Told → List ℕ
text_of told = session_transcript (history_of told.journal) (rounds_of told) (told_stop told.stop)

-- Whether one of the answers that a session gave is of a kind.
abbrev pub some_answer : (Answer → Bool) → Told → Bool
some_answer is told = list_any (λ (command : Command). is (answer_of (events_of (history_of told.journal) command.id))) (commands_of told)

-- The journal of a session accounts for it: its opening is that of the devices as they were lent, it is legal, it is a run of the session's rounds, the devices follow it, in a crash of all of them at any place of it the marks that are found list each block that has changed since an era and only blocks that were asked to be marked, and in the end the metadata is durable.
pub record AccountsFor {D : Type 0} (disk : Ghosts D) (parts : List D) (first last : Session D) (told : Told) : Type 0 where
  pub opening : told.journal.opening ≡ opening_of disk parts first
  pub legal : IsLegalJournal told.journal
  pub run : IsRun (history_of told.journal) (rounds_of told)
  pub follow : disk.tells ≡ true → DevicesFollow StandsForMarks told.journal (session_devices disk last)
  pub survive : disk.tells ≡ true → SurvivesCrashes StandsForMarks told.journal (session_devices disk last)
  pub durable : disk.tells ≡ true → EndsDurable StandsForMarks told.journal (session_devices disk last).metadata
