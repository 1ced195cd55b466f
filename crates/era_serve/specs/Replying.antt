-- What serving commands comes to, and how far the text of their replies was given.
use Rattle.std.specs.Prelude.{◌≡◌, ℕ, ◌+◌, ◌*◌, ◌<◌, ◌≤◌, ◌||◌, Bool, true, false, List, ◌++◌, All, length, Option, Some}
use Rattle.era_base.specs.declared.disk.Disk.{Ghosts}
use Rattle.era_base.specs.declared.streams.Sink.{Ghosts as SinkMembers}
use Rattle.era_base.specs.Faults.{Rose}
use Rattle.era_base.specs.Streams.{GivesFront}
use Rattle.era_gate.specs.Calls.{has_gone}
use Rattle.era_line.specs.TextBuffer.{Gathers, IsEmpty}
use Rattle.era_line.specs.declared.text_buffer.TextBuffer.{TextBuffer}
use Rattle.era_model.specs.Tasks.{IsTask}
use Rattle.era_model.specs.declared.command.Command.{Command}
use Rattle.era_model.specs.declared.reply.Answer.{Answer}
use Rattle.era_serve.specs.Answers.{says_fault, says_memory, some_fault_in, some_memory_in}
use Rattle.era_serve.specs.declared.replies.Replies.{Replies}
use Rattle.era_served.specs.Served.{AreOfLane, HasServedAll, Served, commands_of, served_text}
use Rattle.era_session.specs.Sessions.{SessionFits}
use Rattle.era_session.specs.declared.session.Session.{Session}

-- Commands of one lane may be served one after the other: the session fits together and has the draws for them, and none of them, nor any later one of the lane, has issued a write.
pub record MayServe {D : Type 0} (disk : Ghosts D) (session : Session D) (commands : List Command) : Type 0 where
  pub fits : SessionFits disk session
  pub lane : ℕ
  pub lane_is : lane < 64
  pub first : ℕ
  pub numbered : AreOfLane lane first commands
  pub fresh : (number : ℕ) → first ≤ number → has_gone (record { lane = lane; number = number }) session.pass.part.lanes ≡ false
  pub tasks : All (λ (command : Command). IsTask command.task) commands
  pub budget : 64 + 24 * length commands ≤ session.pass.part.budget

-- The replies so far, with what the sink was given and its count of faults.
pub record Told : Type 0 where
  pub replies : Replies
  pub given : Option (List ℕ)
  pub faults : ℕ

-- The replies at a sink.
abbrev pub told_at : {K : Type 0} → SinkMembers K → Replies → K → Told
told_at sink replies at = record { replies = replies; given = sink.given at; faults = sink.faults at }

-- Of a text behind what was given before: the buffer holds what wasn't given of it; or, where the sink has failed, a front of it was given.
abbrev pub IsToldBy : Bool → List ℕ → List ℕ → Option (List ℕ) → TextBuffer → Type 0
IsToldBy false before text given buffer = Gathers before text given buffer
IsToldBy true before text given buffer = GivesFront before text given

-- A text stands so far.
abbrev pub Tells : List ℕ → List ℕ → Told → Type 0
Tells before text told = IsToldBy told.replies.lost before text told.given told.replies.text

-- Whether the sink has failed meanwhile: its count of faults rose with it, and is as it was otherwise; once it has failed it isn't asked any more.
pub record LosesBy (old new : Told) : Type 0 where
  pub stays : old.replies.lost ≡ true → new.replies.lost ≡ true
  pub kept : new.replies.lost ≡ old.replies.lost → new.faults ≡ old.faults
  pub rose : old.replies.lost ≡ false → new.replies.lost ≡ true → Rose old.faults new.faults

-- What a command was answered is kept in mind.
pub record HasNoted (answer : Answer) (old new : Replies) : Type 0 where
  pub text : new.text ≡ old.text
  pub lost : new.lost ≡ old.lost
  pub fault : new.some_fault ≡ (old.some_fault || says_fault answer)
  pub memory : new.some_memory ≡ (old.some_memory || says_memory answer)

-- The text goes on by these bytes, up to where the sink failed; and no answer is noted.
pub record HasGiven (bytes : List ℕ) (told told' : Told) : Type 0 where
  pub text : (before text : List ℕ) → Tells before text told → Tells before (text ++ bytes) told'
  pub loses : LosesBy told told'
  pub fault : told'.replies.some_fault ≡ told.replies.some_fault
  pub memory : told'.replies.some_memory ≡ told.replies.some_memory

-- A text was given whole and the buffer is empty; or the sink failed, and was given a front of the text.
abbrev pub IsFlushedBy : Bool → List ℕ → List ℕ → Told → Type 0
IsFlushedBy false before text told = told.given ≡ Some (before ++ text)
IsFlushedBy true before text told = GivesFront before text told.given

-- What the buffer held was given, unless the sink has failed.
pub record HasFlushed (told told' : Told) : Type 0 where
  pub text : (before text : List ℕ) → Tells before text told → IsFlushedBy told'.replies.lost before text told'
  pub empty : told'.replies.lost ≡ false → IsEmpty told'.replies.text
  pub loses : LosesBy told told'
  pub fault : told'.replies.some_fault ≡ told.replies.some_fault
  pub memory : told'.replies.some_memory ≡ told.replies.some_memory

-- What commands were answered is kept in mind.
pub record HasMarked (served : List Served) (old new : Replies) : Type 0 where
  pub fault : new.some_fault ≡ (old.some_fault || some_fault_in served)
  pub memory : new.some_memory ≡ (old.some_memory || some_memory_in served)

-- Commands were served, and the text goes on by their replies, up to where the sink failed.
pub record HasReplied {D : Type 0} (disk : Ghosts D) (commands : List Command) (old new : Session D) (told told' : Told) : Type 0 where
  pub served : List Served
  pub are : commands_of served ≡ commands
  pub all : HasServedAll disk served old new
  pub fits : SessionFits disk new
  pub text : (before text : List ℕ) → Tells before text told → Tells before (text ++ served_text served) told'
  pub loses : LosesBy told told'
  pub marked : HasMarked served told.replies told'.replies

-- The replies to commands were given whole, and the buffer is empty; or the sink failed, and was given a front of them.
abbrev pub IsGivenBy : Bool → List Served → Told → Told → Type 0
IsGivenBy false served told told' = IsEmpty told'.replies.text × ((before : List ℕ) → told.given ≡ Some before → told'.given ≡ Some (before ++ served_text served))
IsGivenBy true served told told' = (before : List ℕ) → told.given ≡ Some before → GivesFront before (served_text served) told'.given

-- A round was run, and its replies were given before anything else is asked; or the sink failed at them, and the round was run all the same.
pub record HasAnswered {D : Type 0} (disk : Ghosts D) (commands : List Command) (old new : Session D) (told told' : Told) : Type 0 where
  pub served : List Served
  pub are : commands_of served ≡ commands
  pub all : HasServedAll disk served old new
  pub fits : SessionFits disk new
  pub given : IsGivenBy told'.replies.lost served told told'
  pub loses : LosesBy told told'
  pub marked : HasMarked served told.replies told'.replies

-- Nothing of a round was run, since memory for it was refused.
pub record HasRunNothing {D : Type 0} (old new : Session D) (told told' : Told) : Type 0 where
  pub session : new ≡ old
  pub same : told' ≡ told
