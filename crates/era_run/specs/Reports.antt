-- What a call for a session reports: a session that was served over its devices, or why none was opened. A definition takes the members of the disk's trait, as `D.Disk`.
use Rattle.std.specs.Prelude.{◌≡◌, ◌⊎◌, ℕ, List, [], ◌∷◌, ◌++◌, map, Option, Some}
use Rattle.era_base.specs.Streams.{GivesFront}
use Rattle.era_base.specs.declared.disk.Disk.{Ghosts}
use Rattle.era_line.specs.declared.table_line.TableLine.{TableLine}
use Rattle.era_model.specs.Commands.{round_of}
use Rattle.era_model.specs.History.{at_opening}
use Rattle.era_model.specs.Transcript.{open_line, rounds_text}
use Rattle.era_model.specs.declared.command.Command.{Command}
use Rattle.era_opening.specs.Loans.{ArePutBack}
use Rattle.era_opening.specs.Openings.{HasOpenedSession, IsUnopened, session_disks}
use Rattle.era_run.specs.Accounts.{AccountsFor, Told, some_answer, text_of}
use Rattle.era_run.specs.Around.{LeavesSource, StreamsAround}
use Rattle.era_run.specs.Endings.{status_of}
use Rattle.era_serve.specs.Stops.{StopsBy}
use Rattle.era_served.specs.Served.{history_of}
use Rattle.era_serve.specs.Answers.{says_fault, says_memory}
use Rattle.era_session.specs.declared.session.Session.{Session}
use Rattle.era_tools.specs.Around.{BayAround, Between, behind, lending}
use Rattle.era_tools.specs.Printing.{Prints}
use Rattle.era_tools.specs.Refusals.{refusal_status, refusal_text}
use Rattle.era_tools.specs.declared.refusal.Refusal.{Refusal}
use Rattle.era_tools.specs.declared.status.Status.{Status}
use Rattle.era_tools.specs.declared.status.Status.TheVariants.{Sink}

-- The text of a session's first line and of its first rounds.
abbrev pub text_up_to : Told → List (List Command) → List ℕ
text_up_to told rounds =
    at_opening [] (λ opening. open_line opening.geometry opening.era) (history_of told.journal) ++ rounds_text (history_of told.journal) (map round_of rounds)

-- The replies of all rounds but the last one were given, behind the first line.
pub record HasReached (told : Told) (before : List ℕ) (given' : Option (List ℕ)) : Type 0 where
  pub earlier : List (List Command)
  pub last : List Command
  pub split : told.rounds ≡ earlier ++ last ∷ []
  pub more : List ℕ
  pub given : given' ≡ Some (before ++ (text_up_to told earlier ++ more))

-- The sink failed at a session's text: a front of it was given, which has the replies of all rounds that were run but the last one.
pub record FailsInText (told : Told) (before : List ℕ) (given' : Option (List ℕ)) : Type 0 where
  pub front : GivesFront before (text_of told) given'
  pub reached : (told.rounds ≡ []) ⊎ HasReached told before given'

-- The whole text of a session was given, and its run ends so; or the sink failed at it.
abbrev pub PrintsSession : Told → Option (List ℕ) → Option (List ℕ) → Status → Status → Type 0
PrintsSession told given given' ended result =
    ((result ≡ ended) × ((before : List ℕ) → given ≡ Some before → given' ≡ Some (before ++ text_of told)))
    ⊎ ((result ≡ Sink) × ((before : List ℕ) → given ≡ Some before → FailsInText told before given'))

-- The status of a session: by how it stopped, and where its stream was read to its end by whether an answer tells a fault, or that memory was refused.
abbrev pub told_status : Told → Status
told_status told = status_of told.stop (some_answer says_fault told) (some_answer says_memory told)

-- A session was served: its devices were opened, its journal accounts for what was done to them, its stream was read up to its stop, its text was given, and its disks were put back.
pub record ServesSession {D : Type 0} (disk : Ghosts D) (bay : BayAround D) (line : TableLine) (stripes : ℕ) (streams : StreamsAround) (result : Status) : Type 0 where
  pub between : Between D
  pub first : Session D
  pub last : Session D
  pub told : Told
  pub opened : HasOpenedSession disk (lending bay between) line stripes first
  pub account : AccountsFor disk opened.opened.parts first last told
  pub stopped : StopsBy streams told.rounds told.stop
  pub printed : PrintsSession told streams.given streams.given' (told_status told) result
  pub back : ArePutBack disk (behind bay between) (session_disks last)

-- No session was opened, for this cause: its line was given, and nothing of the source was taken.
pub record RefusesSession {D : Type 0} (disk : Ghosts D) (bay : BayAround D) (line : TableLine) (stripes : ℕ) (streams : StreamsAround) (result : Status) : Type 0 where
  pub refusal : Refusal
  pub cause : IsUnopened disk bay line stripes refusal
  pub printed : Prints streams.given streams.given' (refusal_text refusal) (refusal_status refusal) result
  pub unread : LeavesSource streams

-- How a call went for a session over the target of a table line, in at most so many stripes.
abbrev pub RunsSession : {D : Type 0} → Ghosts D → BayAround D → TableLine → ℕ → StreamsAround → Status → Type 0
RunsSession disk bay line stripes streams result =
    ServesSession disk bay line stripes streams result ⊎ RefusesSession disk bay line stripes streams result
