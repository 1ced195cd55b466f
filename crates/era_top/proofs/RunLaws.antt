-- What the journal of a run tells: its replies are those of the outcomes, and its commands are a run.
use Rattle.std.proofs.Common.{◌≡◌, ◌⊎◌, ℕ, ◌+◌, ◌/◌, Bool, true, false, ◌||◌, List, [], ◌∷◌, ◌++◌, length, Option, Some, None, refl, ap, sym, ◌∙◌, subst, ap₂, inl, inr}
use Rattle.era_base.specs.Geometry.{place_at}
use Rattle.era_base.specs.declared.geometry.Geometry.{Geometry}
use Rattle.era_model.specs.declared.event.Event.{Event}
use Rattle.era_model.specs.declared.event.Event.TheVariants.{Tried, Mark, Go, Done as DoneEvent, Cut as CutEvent}
use Rattle.era_model.specs.declared.history.Happening.{Happening}
use Rattle.era_model.specs.declared.reply.Answer.TheVariants.{Fault}
use Rattle.era_model.specs.declared.reply.Device.TheVariants.{Data}
use Rattle.era_model.specs.CommandEvents.{AreCheckpointEvents, AreWriteEvents, IsOutcome, IsTriedWrite}
use Rattle.era_model.specs.declared.command.Command.{Command}
use Rattle.era_model.specs.Commands.{answer_of, events_of}
use Rattle.era_model.specs.History.{at_opening}
use Rattle.era_model.specs.Journal.{session_opening}
use Rattle.era_model.specs.SessionRun.{AreListEvents, AreTaskEvents, HaveTheirEvents, place_now, without_places}
use Rattle.era_model.specs.Transcript.{reply_line, replies_text}
use Rattle.era_model.specs.declared.command.Request.TheVariants.{Checkpoint, List as ListRequest}
use Rattle.era_model.specs.declared.command.Task.{Task}
use Rattle.era_model.specs.declared.command.Task.TheVariants.{Write as WriteTask, Ask}
use Rattle.era_top.specs.declared.outcome.Outcome.{Outcome}
use Rattle.era_top.specs.declared.outcome.Outcome.TheVariants.{OutOfRange, Done, Cut, Moved, LastEra, Listed, NoMemory}
use Rattle.era_top.specs.Outcomes.{EventSubject, era_after, event_count, ended_events, is_issued, lacks_memory, outcome_events, outcome_line, answers_text}
use Rattle.era_top.specs.Runs.{lane_zero, commands_from, place_of_write, some_lack, subject_of, tasks_of, AreNumbered, subject_of_write, FitsList, FitsPlace, FitsTask, AreAnswered, Write}
use Rattle.era_top.specs.Answered.{says_memory, some_says_memory, EndInFault}
use Rattle.era_top.proofs.Journals.{at_opening-known}

-- a reply doesn't depend on what the events name
reply-any : (subject : EventSubject) (line start : ℕ) (outcome : Outcome) → reply_line line (outcome_events subject start outcome) ≡ outcome_line line start outcome
reply-any subject line start OutOfRange = refl
reply-any subject line start (Done true) = refl
reply-any subject line start (Done false) = refl
reply-any subject line start (Cut true faults) = refl
reply-any subject line start (Cut false faults) = refl
reply-any subject line start (Moved era) = refl
reply-any subject line start LastEra = refl
reply-any subject line start (Listed blocks) = refl
reply-any subject line start NoMemory = refl

-- the replies to commands that have the events of their outcomes are those of the outcomes
pub answered-replies : (g : Geometry) (h : List Happening) (number era start : ℕ) (commands : List Command) (outcomes : List Outcome) (next : ℕ) → AreNumbered number commands
    → AreAnswered g h number era start (tasks_of commands) outcomes next → replies_text h commands ≡ answers_text start commands outcomes
answered-replies g h number era start [] [] next numbered answered = refl
answered-replies g h number era start [] (outcome ∷ outcomes) next numbered answered = absurd answered
answered-replies g h number era start (command ∷ commands) [] next numbered answered = absurd answered
answered-replies g h number era start (command ∷ commands) (outcome ∷ outcomes) next numbered answered =
    ap₂ (λ first rest. first ++ rest)
    (ap (λ id. reply_line command.line (events_of h id)) numbered.0
    ∙ ap (λ events. reply_line command.line events) answered.1
    ∙ reply-any (subject_of g number era command.task) command.line start outcome)
    (answered-replies g h (number + 1) (era_after era outcome) (start + event_count outcome) commands outcomes next numbered.1 answered.2)

-- the answer to a command says that memory was refused exactly where its outcome does
answer-lacks : (subject : EventSubject) (start : ℕ) (outcome : Outcome) → says_memory (answer_of (outcome_events subject start outcome)) ≡ lacks_memory outcome
answer-lacks subject start OutOfRange = refl
answer-lacks subject start (Done true) = refl
answer-lacks subject start (Done false) = refl
answer-lacks subject start (Cut true faults) = refl
answer-lacks subject start (Cut false faults) = refl
answer-lacks subject start (Moved era) = refl
answer-lacks subject start LastEra = refl
answer-lacks subject start (Listed blocks) = refl
answer-lacks subject start NoMemory = refl

-- memory was refused for a command exactly where an outcome says so
pub answered-lack : (g : Geometry) (h : List Happening) (number era start : ℕ) (commands : List Command) (outcomes : List Outcome) (next : ℕ) → AreNumbered number commands
    → AreAnswered g h number era start (tasks_of commands) outcomes next → some_says_memory h commands ≡ some_lack outcomes
answered-lack g h number era start [] [] next numbered answered = refl
answered-lack g h number era start [] (outcome ∷ outcomes) next numbered answered = absurd answered
answered-lack g h number era start (command ∷ commands) [] next numbered answered = absurd answered
answered-lack g h number era start (command ∷ commands) (outcome ∷ outcomes) next numbered answered =
    ap₂ (λ first rest. first || rest)
    (ap (λ id. says_memory (answer_of (events_of h id))) numbered.0
    ∙ ap (λ events. says_memory (answer_of events)) answered.1 ∙ answer-lacks (subject_of g number era command.task) start outcome)
    (answered-lack g h (number + 1) (era_after era outcome) (start + event_count outcome) commands outcomes next numbered.1 answered.2)

answer-cut : (subject : EventSubject) (start : ℕ) (marks : Bool) (count : ℕ) → answer_of (outcome_events subject start (Cut marks count)) ≡ Fault Data count
answer-cut subject start true count = refl
answer-cut subject start false count = refl

-- where the last outcome is a cut, the last command was answered with its fault
pub answered-fault : (g : Geometry) (h : List Happening) (number era start : ℕ) (commands : List Command) (before : List Outcome) (marks : Bool) (count next : ℕ) → AreNumbered number commands
    → AreAnswered g h number era start (tasks_of commands) (before ++ Cut marks count ∷ []) next → EndInFault h commands count
answered-fault g h number era start [] [] marks count next numbered answered = absurd answered
answered-fault g h number era start [] (outcome ∷ before) marks count next numbered answered = absurd answered
answered-fault g h number era start (command ∷ []) [] marks count next numbered answered = record {
  before = [];
  last = command;
  among = refl;
  answer = ap (λ id. answer_of (events_of h id)) numbered.0 ∙ ap answer_of answered.1 ∙ answer-cut (subject_of g number era command.task) start marks count;
}
answered-fault g h number era start (command ∷ second ∷ commands) [] marks count next numbered answered = absurd answered.2
answered-fault g h number era start (command ∷ commands) (outcome ∷ before) marks count next numbered answered =
    let rest = answered-fault g h (number + 1) (era_after era outcome) (start + event_count outcome) commands before marks count next numbered.1 answered.2 in
    record { before = command ∷ rest.before; last = rest.last; among = ap (λ all. command ∷ all) rest.among; answer = rest.answer }

issued-without_mark : (h : List Happening) (subject : EventSubject) (start : ℕ) (ended : Event) → IsOutcome subject.id ended → IsTriedWrite h subject.id subject.block subject.first subject.bytes (without_places (ended_events false subject start ended))
issued-without_mark h subject start ended ends = record {
  before = [];
  settled = inl refl;
  rest = Go subject.id subject.block subject.era subject.first subject.bytes ∷ ended ∷ [];
  outcome = inr (inr (record { era = subject.era; mark = []; marking = inl refl; ended = ended; outcome = ends; joined = refl }));
  joined = refl;
}

issued-with_mark : (h : List Happening) (subject : EventSubject) (start : ℕ) (ended : Event) → IsOutcome subject.id ended → IsTriedWrite h subject.id subject.block subject.first subject.bytes (without_places (ended_events true subject start ended))
issued-with_mark h subject start ended ends = record {
  before = [];
  settled = inl refl;
  rest = Tried subject.id subject.block subject.era ∷ Mark subject.id subject.block subject.era ∷ Go subject.id subject.block subject.era subject.first subject.bytes ∷ ended ∷ [];
  outcome = inr (inr (record {
    era = subject.era;
    mark = Tried subject.id subject.block subject.era ∷ Mark subject.id subject.block subject.era ∷ [];
    marking = inr refl;
    ended = ended;
    outcome = ends;
    joined = refl;
  }));
  joined = refl;
}

events-at_block : (h : List Happening) (subject : EventSubject) (start : ℕ) (outcome : Outcome) → is_issued outcome ≡ true → IsTriedWrite h subject.id subject.block subject.first subject.bytes (without_places (outcome_events subject start outcome))
events-at_block h subject start OutOfRange issued = absurd (cc)
events-at_block h subject start (Done true) issued = issued-with_mark h subject start (DoneEvent subject.id) (inl refl)
events-at_block h subject start (Done false) issued = issued-without_mark h subject start (DoneEvent subject.id) (inl refl)
events-at_block h subject start (Cut true faults) issued = issued-with_mark h subject start (CutEvent subject.id faults) (inr (faults, refl))
events-at_block h subject start (Cut false faults) issued = issued-without_mark h subject start (CutEvent subject.id faults) (inr (faults, refl))
events-at_block h subject start (Moved era) issued = absurd (cc)
events-at_block h subject start LastEra issued = absurd (cc)
events-at_block h subject start (Listed blocks) issued = absurd (cc)
events-at_block h subject start NoMemory issued = absurd (cc)

events-placed : (h : List Happening) (number era start : ℕ) (write : Write) (place : Option (ℕ × ℕ)) (outcome : Outcome) → FitsPlace place outcome → AreWriteEvents h (lane_zero number) write.bytes place (without_places (outcome_events (subject_of_write number era write place) start outcome))
events-placed h number era start write None outcome fits =
    ap (λ o. without_places (outcome_events (subject_of_write number era write None) start o)) fits
events-placed h number era start write (Some place) outcome fits = inr (events-at_block h (subject_of_write number era write (Some place)) start outcome fits)

checkpoint-events : (g : Geometry) (h : List Happening) (number era start : ℕ) (outcome : Outcome) → (outcome ≡ Moved (era + 1)) ⊎ (outcome ≡ LastEra) → AreCheckpointEvents h (lane_zero number) (without_places (outcome_events (subject_of g number era (Ask Checkpoint)) start outcome))
checkpoint-events g h number era start outcome (inl moved) =
    rw moved (record { before = []; resolutions = tt; rest = _; outcome = inl (era + 1, refl); joined = refl })
checkpoint-events g h number era start outcome (inr last) =
    rw last (record { before = []; resolutions = tt; rest = _; outcome = inr (inr (inr (inl refl))); joined = refl })

list-events : (g : Geometry) (number era start since : ℕ) (outcome : Outcome) → FitsList outcome → AreListEvents (lane_zero number) since false (without_places (outcome_events (subject_of g number era (Ask (ListRequest since false))) start outcome))
list-events g number era start since OutOfRange fits = absurd fits
list-events g number era start since (Done marks) fits = absurd fits
list-events g number era start since (Cut marks faults) fits = absurd fits
list-events g number era start since (Moved next) fits = absurd fits
list-events g number era start since LastEra fits = absurd fits
list-events g number era start since (Listed blocks) fits = inl (blocks, refl)
list-events g number era start since NoMemory fits = inr (inr (inl refl))

-- a command that has the events of its outcome has events that it may have
task-events : (g : Geometry) (contents : List ℕ) (h : List Happening) (number era start : ℕ) (task : Task) (outcome : Outcome) → at_opening None (λ opening. Some opening) h ≡ Some (session_opening g contents) → FitsTask g era task outcome
    → AreTaskEvents h (lane_zero number) task (without_places (outcome_events (subject_of g number era task) start outcome))
task-events g contents h number era start (WriteTask sector bytes) outcome opened fits =
    let write : Write = record { sector = sector; bytes = bytes } in
    let placed : place_now h write.sector (length write.bytes / 512) ≡ place_of_write g write
    = at_opening-known None (λ opening. place_at opening.geometry.sectors opening.geometry.block_sectors write.sector (length write.bytes / 512)) (session_opening g contents) h opened in
    subst (λ place. AreWriteEvents h (lane_zero number) write.bytes place (without_places (outcome_events (subject_of_write number era write (place_of_write g write)) start outcome))) (sym placed)
    (events-placed h number era start write (place_of_write g write) outcome fits)
task-events g contents h number era start (Ask Checkpoint) outcome opened fits = checkpoint-events g h number era start outcome fits
task-events g contents h number era start (Ask (ListRequest since false)) outcome opened fits = list-events g number era start since outcome fits
task-events g contents h number era start task outcome opened fits = absurd fits

-- each of the commands that have the events of their outcomes has events that it may have
pub answered-events : (g : Geometry) (contents : List ℕ) (h : List Happening) (number era start : ℕ) (tasks : List Task) (outcomes : List Outcome) (next : ℕ) → at_opening None (λ opening. Some opening) h ≡ Some (session_opening g contents) → AreAnswered g h number era start tasks outcomes next → HaveTheirEvents h (commands_from number tasks)
answered-events g contents h number era start [] outcomes next opened answered = tt
answered-events g contents h number era start (task ∷ tasks) [] next opened answered = absurd answered
answered-events g contents h number era start (task ∷ tasks) (outcome ∷ outcomes) next opened answered = (
  subst (λ events. AreTaskEvents h (lane_zero number) task (without_places events)) (sym answered.1)
      (task-events g contents h number era start task outcome opened answered.0),
  answered-events g contents h (number + 1) (era_after era outcome) (start + event_count outcome) tasks outcomes next opened answered.2,
)
