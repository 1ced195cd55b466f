-- The order of a run's commands, and that its journal is a run; the opening of a first session is legal.
use Rattle.std.proofs.Common.{ℕ, ◌+◌, ◌<◌, ◌≤◌, Bool, true, false, List, [], ◌∷◌, replicate, slice_index_or, All, refl, sym, subst, suc, zero, arith}
use Rattle.std.proofs.lemmas.List.{length-replicate}
use Rattle.std.proofs.lemmas.List.Elements.{All-nil, All-cons, All-same}
use Rattle.era_base.specs.declared.geometry.Geometry.{Geometry}
use Rattle.era_model.specs.declared.event.Event.{Event}
use Rattle.era_model.specs.declared.event.Event.TheVariants.{Tried, Mark, Go}
use Rattle.era_model.specs.declared.history.Happening.{Happening}
use Rattle.era_model.specs.declared.history.Happening.TheVariants.{Opened}
use Rattle.era_model.specs.declared.command.Command.{Command}
use Rattle.era_model.specs.Commands.{events_of}
use Rattle.era_model.specs.Journal.{session_opening}
use Rattle.era_model.specs.Legal.{IsLegal}
use Rattle.era_model.specs.Marks.{no_marks}
use Rattle.era_model.specs.SessionRun.{AreAllDrawnBy, HaveTheirEvents, AllBefore, IsBefore, StandsBefore, KeepsLanes, IsRun}
use Rattle.era_model.specs.Validity.{AreValidMarks}
use Rattle.era_model.specs.declared.command.Task.{Task}
use Rattle.era_top.specs.declared.outcome.Outcome.{Outcome}
use Rattle.era_top.specs.declared.outcome.Outcome.TheVariants.{OutOfRange, Done, Cut, Moved, LastEra, Listed, NoMemory}
use Rattle.era_top.specs.Outcomes.{EventSubject, era_after, event_count, ended_events, outcome_events}
use Rattle.era_top.specs.Runs.{lane_zero, command_of, commands_from, subject_of, tasks_of, AreAnswered, AreNumbered, IsJournalOf}
use Rattle.era_top.specs.Sessions.{joined, rounds_of}
use Rattle.era_model.specs.History.{next_place}
use Rattle.era_top.proofs.Relined.{drawn-relined, events-relined, lanes-relined, numbered-relined}
use Rattle.era_top.proofs.RoundRuns.{commands-joined, numbered-rounds}
use Rattle.era_top.proofs.RunLaws.{answered-events}

-- Each event has a place from the first bound on and below the second one.
abbrev Between : ℕ → ℕ → List (ℕ × Event) → Type 0
Between low high events = All (λ event. (low ≤ event.0) × (event.0 < high)) events

two-between : (low high : ℕ) (first second : ℕ × Event) → low ≤ first.0 → first.0 < high → low ≤ second.0 → second.0 < high → Between low high (first ∷ second ∷ [])
two-between low high first second a b c d =
    let P : ℕ × Event → Type 0 = λ event. (low ≤ event.0) × (event.0 < high) in
    All-cons P first (second ∷ []) (a, b) (All-cons P second [] (c, d) (All-nil P))

four-between : (low high : ℕ) (first second : ℕ × Event) (rest : List (ℕ × Event)) → low ≤ first.0 → first.0 < high → low ≤ second.0 → second.0 < high → Between low high rest → Between low high (first ∷ second ∷ rest)
four-between low high first second rest a b c d others =
    let P : ℕ × Event → Type 0 = λ event. (low ≤ event.0) × (event.0 < high) in
    All-cons P first (second ∷ rest) (a, b) (All-cons P second rest (c, d) others)

one-between : (place : ℕ) (event : Event) → Between place (place + 1) ((place, event) ∷ [])
one-between place event =
    let P : ℕ × Event → Type 0 = λ event. (place ≤ event.0) × (event.0 < place + 1) in
    All-cons P (place, event) [] (omega arith, omega arith) (All-nil P)

ended-between : (marks : Bool) (subject : EventSubject) (place : ℕ) (ended : Event) → Between place (place + event_count (Done marks)) (ended_events marks subject place ended)
ended-between true subject place ended =
    four-between place (place + 4) (place, Tried subject.id subject.block subject.era) (place + 1, Mark subject.id subject.block subject.era)
    ((place + 2, Go subject.id subject.block subject.era subject.first subject.bytes) ∷ (place + 3, ended) ∷ [])
    (omega arith) (omega arith) (omega arith) (omega arith)
    (two-between place (place + 4) (place + 2, Go subject.id subject.block subject.era subject.first subject.bytes) (place + 3, ended)
    (omega arith) (omega arith) (omega arith) (omega arith))
ended-between false subject place ended =
    two-between place (place + 2) (place, Go subject.id subject.block subject.era subject.first subject.bytes) (place + 1, ended)
    (omega arith) (omega arith) (omega arith) (omega arith)

outcome-between : (subject : EventSubject) (place : ℕ) (outcome : Outcome) → Between place (place + event_count outcome) (outcome_events subject place outcome)
outcome-between subject place OutOfRange = All-nil _
outcome-between subject place (Done marks) = ended-between marks subject place _
outcome-between subject place (Cut marks faults) = ended-between marks subject place _
outcome-between subject place (Moved era) = one-between place _
outcome-between subject place LastEra = one-between place _
outcome-between subject place (Listed blocks) = one-between place _
outcome-between subject place NoMemory = one-between place _

-- the events of an answered command have the places from its first one on, as many as its outcome says
answered-between : (g : Geometry) (h : List Happening) (number era start : ℕ) (task : Task) (tasks : List Task) (outcome : Outcome) (outcomes : List Outcome) (next : ℕ) → AreAnswered g h number era start (task ∷ tasks) (outcome ∷ outcomes) next → Between start (start + event_count outcome) (events_of h (lane_zero number))
answered-between g h number era start task tasks outcome outcomes next answered =
    All-same (λ event. (start ≤ event.0) × (event.0 < start + event_count outcome)) _ _ answered.1 (outcome-between (subject_of g number era task) start outcome)

place-before : (place from high : ℕ) (second : List (ℕ × Event)) → place < from → Between from high second → IsBefore place second
place-before place from high [] before above = tt
place-before place from high (event ∷ second) before above = (
  (let first = (above 0 event (omega arith)).0 in omega arith),
  place-before place from high second before (λ k d kept. above (suc k) d (omega arith)),
)

between-before : (low middle from high : ℕ) (first second : List (ℕ × Event)) → middle ≤ from → Between low middle first → Between from high second → AllBefore first second
between-before low middle from high [] second ordered below above = tt
between-before low middle from high (event ∷ first) second ordered below above = (
  place-before event.0 from high second (let last = (below 0 event (omega arith)).1 in omega arith) above,
  between-before low middle from high first second ordered (λ k d kept. below (suc k) d (omega arith)) above,
)

answered-after : (g : Geometry) (h : List Happening) (command : Command) (low middle number era start : ℕ) (tasks : List Task) (outcomes : List Outcome) (next : ℕ) → Between low middle (events_of h command.id) → middle ≤ start → AreAnswered g h number era start tasks outcomes next → StandsBefore h command (commands_from number tasks)
answered-after g h command low middle number era start [] outcomes next below ordered answered = tt
answered-after g h command low middle number era start (task ∷ tasks) [] next below ordered answered = absurd answered
answered-after g h command low middle number era start (task ∷ tasks) (outcome ∷ outcomes) next below ordered answered = (
  (λ same. between-before low middle start (start + event_count outcome) _ _ ordered below (answered-between g h number era start task tasks outcome outcomes next answered)),
  answered-after g h command low middle (number + 1) (era_after era outcome) (start + event_count outcome) tasks outcomes next below (omega arith) answered.2,
)

-- the places of the commands that have the events of their outcomes ascend in their order
pub answered-lanes : (g : Geometry) (h : List Happening) (number era start : ℕ) (tasks : List Task) (outcomes : List Outcome) (next : ℕ) → AreAnswered g h number era start tasks outcomes next → KeepsLanes h (commands_from number tasks)
answered-lanes g h number era start [] outcomes next answered = tt
answered-lanes g h number era start (task ∷ tasks) [] next answered = absurd answered
answered-lanes g h number era start (task ∷ tasks) (outcome ∷ outcomes) next answered = (
  answered-after g h (command_of number task) start (start + event_count outcome) (number + 1) (era_after era outcome) (start + event_count outcome) tasks outcomes next
      (answered-between g h number era start task tasks outcome outcomes next answered) (omega arith) answered.2,
  answered-lanes g h (number + 1) (era_after era outcome) (start + event_count outcome) tasks outcomes next answered.2,
)

-- the journal of commands that were run in rounds is a run of these rounds
pub journal-run : (g : Geometry) (contents : List ℕ) (rounds : List (List Command)) (outcomes : List Outcome) (h : List Happening) → AreNumbered 0 (joined rounds)
    → IsJournalOf g contents (tasks_of (joined rounds)) outcomes h → IsRun h (rounds_of rounds)
journal-run g contents rounds outcomes h numbered journal =
    let commands = joined rounds in
    let tasks = tasks_of commands in
    let same = numbered-relined 0 commands numbered in
    let all = sym (commands-joined rounds) in
    let lanes = lanes-relined h (commands_from 0 tasks) commands same (answered-lanes g h 0 1 0 tasks outcomes (next_place h) journal.answered) in
    record {
      drawn = subst (λ commands. AreAllDrawnBy commands h) all (drawn-relined (commands_from 0 tasks) commands h same journal.drawn);
      events = subst (λ commands. HaveTheirEvents h commands) all
          (events-relined h (commands_from 0 tasks) commands same (answered-events g contents h 0 1 0 tasks outcomes (next_place h) journal.opened journal.answered));
      lanes = subst (λ commands. KeepsLanes h commands) all lanes;
      borders = numbered-rounds h rounds numbered lanes;
    }

zero-entries : (blocks block : ℕ) → slice_index_or (replicate blocks 0) block 0 ≤ 0
zero-entries zero block = omega arith
zero-entries (suc blocks) zero = omega arith
zero-entries (suc blocks) (suc block) = zero-entries blocks block

pub no_marks-valid : (sectors block_sectors : ℕ) → AreValidMarks (no_marks sectors block_sectors 1)
no_marks-valid sectors block_sectors = record {
  begun = omega arith;
  array_size = length-replicate _ _;
  current_size = length-replicate _ _;
  archive = tt;
  few_sets = omega arith;
  entries = λ block. zero-entries _ block;
}

-- a first session of an origin may open so
pub opening-legal : (g : Geometry) (contents : List ℕ) → IsLegal (Opened (session_opening g contents) ∷ [])
opening-legal g contents = (
  record {
    valid = no_marks-valid g.sectors g.block_sectors;
    sectors = refl;
    block_sectors = refl;
    era = refl;
    held = tt;
    some_stripe = omega arith;
    few_stripes = omega arith;
  },
  tt,
)
