-- The steps of one write in the journal behind its mark: the write itself, and how it ended.
use Rattle.std.proofs.Common.{◌≡◌, ℕ, ◌+◌, ◌*◌, ◌/◌, ◌%◌, ◌<◌, ◌≤◌, Bool, true, false, ◌==◌, List, [], ◌∷◌, ◌++◌, length, Some, None, refl, ap, sym, ◌∙◌, subst, arith}
use Rattle.std.specs.Prelude.{option_map, if◌then◌else◌}
use Rattle.std.proofs.lemmas.List.{length_push}
use Rattle.era_base.specs.declared.geometry.Geometry.{Geometry}
use Rattle.era_base.specs.Bytes.{splice}
use Rattle.era_base.specs.Faults.{Rose}
use Rattle.era_base.specs.Geometry.{blocks_of, place_at}
use Rattle.era_model.specs.declared.event.Event.{Event}
use Rattle.era_model.specs.declared.event.Event.TheVariants.{Go, Done as DoneEvent, Cut as CutEvent}
use Rattle.era_model.specs.declared.history.Happening.{Happening}
use Rattle.era_model.specs.declared.history.Happening.TheVariants.{Happened}
use Rattle.era_model.specs.Commands.{events_of}
use Rattle.era_model.specs.Conditions.{MayGo}
use Rattle.era_model.specs.Counts.{FaultyDisk, CountsAreWithin}
use Rattle.era_model.specs.Events.{drawn_by, is_go_of}
use Rattle.era_model.specs.History.{at_opening, blocks_at, in_flight, next_place, content}
use Rattle.era_model.specs.Journal.{session_opening}
use Rattle.era_model.specs.Marks.{BlockMarks}
use Rattle.era_model.specs.SessionRun.{AreAllDrawnBy}
use Rattle.era_model.specs.StreamLists.{block_written, ListsNameWritten}
use Rattle.era_model.specs.declared.command.Task.{Task}
use Rattle.era_top.specs.declared.outcome.Outcome.{Outcome}
use Rattle.era_top.specs.declared.outcome.Outcome.TheVariants.{Done, Cut}
use Rattle.era_top.specs.Outcomes.{EventSubject, ended_events, era_after_all, event_count, is_issued, outcome_events}
use Rattle.era_top.specs.Runs.{command_of, commands_from, lane_zero, place_of_write, subject_of, subject_of_write, task_of_write, AreAnswered, IsJournalOf, IsBetween, MarksWritten}
use Rattle.era_top.proofs.Journals.{same_command, other_number, other_number_back, at_opening-known, own-event, other-event, answered-kept, answered-push, drawn-last, era_after_all-push}
use Rattle.era_top.proofs.StreamSteps.{lists-push, stream-write}
use Rattle.era_top.proofs.TaskCommands.{commands_from-push}
use Rattle.era_top.proofs.WriteMarks.{Issue, IsReady, fresh-after, go_place, issue_at, mark_events}

-- The journal after a write was issued to a block that is ready, and ended.
abbrev pub ended_with : ℕ → Issue → Event → List Happening → List Happening
ended_with n issue ended h = Happened ended ∷ Happened (Go (lane_zero n) issue.place.0 issue.era issue.place.1 issue.write.bytes) ∷ h

-- the events of a write, put together
ended-shape : (marks : Bool) (subject : EventSubject) (start : ℕ) (ended : Event)
    → mark_events marks subject start ++ (go_place marks start, Go subject.id subject.block subject.era subject.first subject.bytes) ∷ [] ++ (go_place marks start + 1, ended) ∷ [] ≡ ended_events marks subject start ended
ended-shape false subject start ended = refl
ended-shape true subject start ended = rw (let e : start + 2 + 1 ≡ start + 3 = omega arith in e) refl

ended-count : (marks : Bool) (start : ℕ) → go_place marks start + 1 + 1 ≡ start + (if marks then 4 else 2)
ended-count false start = omega arith
ended-count true start = omega arith

-- a write may be issued to a block that is ready
go-legal : (g : Geometry) (contents : List ℕ) (tasks : List Task) (outcomes : List Outcome) (issue : Issue) (marks : BlockMarks) (before h : List Happening)
    → IsReady g contents tasks outcomes issue marks before h → issue.place.0 < blocks_of g.sectors g.block_sectors
    → issue.place.0 * g.block_sectors + issue.place.1 ≡ issue.write.sector → length issue.write.bytes % 512 ≡ 0
    → MayGo h (lane_zero (length tasks)) issue.place.0 issue.era issue.place.1 issue.write.bytes
go-legal g contents tasks outcomes issue marks before h ready within sector whole =
    let opening = session_opening g contents in
    let count = length issue.write.bytes / 512 in
    record {
      of_origin = subst (λ b. issue.place.0 < b) (sym (at_opening-known 0 blocks_at opening h ready.opened)) within;
      whole = whole;
      place = ap (λ s. at_opening None (λ o. place_at o.geometry.sectors o.geometry.block_sectors s count) h)
          (at_opening-known 0 (λ o. issue.place.0 * o.geometry.block_sectors + issue.place.1) opening h ready.opened ∙ sector)
          ∙ at_opening-known None (λ o. place_at o.geometry.sectors o.geometry.block_sectors issue.write.sector count) opening h ready.opened
          ∙ ready.placed;
      marked = ready.has_mark;
      present = sym ready.era;
      alone = rw ready.quiet refl;
      once = ready.no_go;
    }

-- the events of the write, once it has ended
own-ended : (g : Geometry) (contents : List ℕ) (tasks : List Task) (outcomes : List Outcome) (issue : Issue) (marks : BlockMarks) (before h : List Happening) (ended : Event)
    → IsReady g contents tasks outcomes issue marks before h → drawn_by ended ≡ lane_zero (length tasks)
    → events_of (ended_with (length tasks) issue ended h) (lane_zero (length tasks)) ≡ ended_events issue.marks (issue_at (length tasks) issue) issue.start ended
own-ended g contents tasks outcomes issue marks before h ended ready drawn =
    let n = length tasks in
    let go = Go (lane_zero n) issue.place.0 issue.era issue.place.1 issue.write.bytes in
    own-event (Happened go ∷ h) ended n _ (go_place issue.marks issue.start + 1) drawn (own-event h go n _ (go_place issue.marks issue.start) refl ready.own ready.next) (ap (λ p. p + 1) ready.next)
    ∙ ended-shape issue.marks (issue_at n issue) issue.start ended

-- What is told of the last event of a write: it is the write's own, and issues nothing.
record Ends (n : ℕ) (ended : Event) : Type 0 where
  pub drawn : drawn_by ended ≡ lane_zero n
  pub no_go : (m : ℕ) → is_go_of (lane_zero m) ended ≡ false

-- the events of earlier commands stay
ended-kept : (g : Geometry) (contents : List ℕ) (tasks : List Task) (outcomes : List Outcome) (issue : Issue) (marks : BlockMarks) (before h : List Happening) (ended : Event)
    → IsReady g contents tasks outcomes issue marks before h → Ends (length tasks) ended
    → (m : ℕ) → m < length tasks → events_of (ended_with (length tasks) issue ended h) (lane_zero m) ≡ events_of before (lane_zero m)
ended-kept g contents tasks outcomes issue marks before h ended ready ends m less =
    let n = length tasks in
    let go = Go (lane_zero n) issue.place.0 issue.era issue.place.1 issue.write.bytes in
    let apart = other_number_back n m (omega arith) in
    other-event (Happened go ∷ h) ended n m ends.drawn apart ∙ other-event h go n m refl apart ∙ ready.kept m less

-- The facts of a write that was issued behind some commands, and of how it ended.
pub record IsIssued (g : Geometry) (contents : List ℕ) (tasks : List Task) (outcomes : List Outcome) (issue : Issue) (marks : BlockMarks) (before h : List Happening) : Type 0 where
  pub ready : IsReady g contents tasks outcomes issue marks before h
  pub journal : IsJournalOf g contents tasks outcomes before
  pub era : issue.era ≡ era_after_all 1 outcomes
  pub start : issue.start ≡ next_place before
  pub within : issue.place.0 < blocks_of g.sectors g.block_sectors
  pub sector : issue.place.0 * g.block_sectors + issue.place.1 ≡ issue.write.sector
  pub whole : length issue.write.bytes % 512 ≡ 0

-- the commands with this write behind them are answered, however it ended
ended-answered : (g : Geometry) (contents : List ℕ) (tasks : List Task) (outcomes : List Outcome) (issue : Issue) (marks : BlockMarks) (before h : List Happening) (ended : Event) (outcome : Outcome)
    → IsIssued g contents tasks outcomes issue marks before h → Ends (length tasks) ended → is_issued outcome ≡ true
    → outcome_events (issue_at (length tasks) issue) issue.start outcome ≡ ended_events issue.marks (issue_at (length tasks) issue) issue.start ended
    → event_count outcome ≡ (if issue.marks then 4 else 2)
    → AreAnswered g (ended_with (length tasks) issue ended h) 0 1 0 (tasks ++ task_of_write issue.write ∷ []) (outcomes ++ outcome ∷ []) (next_place h + 1 + 1)
ended-answered g contents tasks outcomes issue marks before h ended outcome issued ends is shape counted =
    let n = length tasks in
    let ready = issued.ready in
    let after = ended_with n issue ended h in
    let kept : AreAnswered g after 0 1 0 tasks outcomes (next_place before) =
    answered-kept g before after 0 1 0 tasks outcomes (next_place before)
    (λ m less. ended-kept g contents tasks outcomes issue marks before h ended ready ends m (omega arith)) issued.journal.answered in
    let subject : issue_at n issue ≡ subject_of_write n (era_after_all 1 outcomes) issue.write (place_of_write g issue.write) =
    ap (λ era. record { id = lane_zero n; era = era; block = issue.place.0; first = issue.place.1; bytes = issue.write.bytes; since = 0 }) issued.era
    ∙ ap (subject_of_write n (era_after_all 1 outcomes) issue.write) (sym ready.placed) in
    let own : events_of after (lane_zero n) ≡ outcome_events (subject_of g n (era_after_all 1 outcomes) (task_of_write issue.write)) (next_place before) outcome =
    own-ended g contents tasks outcomes issue marks before h ended ready ends.drawn ∙ sym shape
    ∙ ap (λ subject. outcome_events subject issue.start outcome) subject
    ∙ ap (λ start. outcome_events (subject_of g n (era_after_all 1 outcomes) (task_of_write issue.write)) start outcome) issued.start in
    answered-push g after 0 1 0 tasks outcomes (next_place before) (task_of_write issue.write) outcome (next_place h + 1 + 1) kept
    (rw ready.placed is)
    (subst (λ k. events_of after (lane_zero k) ≡ outcome_events (subject_of g k (era_after_all 1 outcomes) (task_of_write issue.write)) (next_place before) outcome)
    (let e : n ≡ 0 + n = omega arith in e) own)
    (let c = ended-count issue.marks issue.start in let s = issued.start in let x = ready.next in omega (arith, counted))

-- each event is of one of the commands
ended-drawn : (g : Geometry) (contents : List ℕ) (tasks : List Task) (outcomes : List Outcome) (issue : Issue) (marks : BlockMarks) (before h : List Happening) (ended : Event)
    → IsReady g contents tasks outcomes issue marks before h → Ends (length tasks) ended
    → AreAllDrawnBy (commands_from 0 (tasks ++ task_of_write issue.write ∷ [])) (ended_with (length tasks) issue ended h)
ended-drawn g contents tasks outcomes issue marks before h ended ready ends =
    let go = Go (lane_zero (length tasks)) issue.place.0 issue.era issue.place.1 issue.write.bytes in
    drawn-last tasks (task_of_write issue.write) (Happened go ∷ h) ended ends.drawn (drawn-last tasks (task_of_write issue.write) h go refl ready.drawn)

-- the commands with one more behind them
pub commands-more : (tasks : List Task) (task : Task) → commands_from 0 (tasks ++ task ∷ []) ≡ commands_from 0 tasks ++ command_of (length tasks) task ∷ []
commands-more tasks task = commands_from-push 0 tasks task ∙ ap (λ n. commands_from 0 tasks ++ command_of n task ∷ []) (let e : 0 + length tasks ≡ length tasks = omega arith in e)

-- a write is no list
ended-lists : (g : Geometry) (contents : List ℕ) (tasks : List Task) (outcomes : List Outcome) (issue : Issue) (marks : BlockMarks) (before h : List Happening) (ended : Event)
    → IsIssued g contents tasks outcomes issue marks before h → Ends (length tasks) ended
    → ListsNameWritten g (ended_with (length tasks) issue ended h) (commands_from 0 (tasks ++ task_of_write issue.write ∷ []))
ended-lists g contents tasks outcomes issue marks before h ended issued ends =
    let after = ended_with (length tasks) issue ended h in
    subst (λ commands. ListsNameWritten g after commands) (sym (commands-more tasks (task_of_write issue.write)))
    (lists-push g tasks (command_of (length tasks) (task_of_write issue.write)) before after issued.journal.lists
    (ended-kept g contents tasks outcomes issue marks before h ended issued.ready ends)
    (λ since asks. absurd (cc)))

-- the write of a command is found, where it is the only one in flight
pub go-flight : (n : ℕ) (issue : Issue) (h : List Happening) → in_flight h ≡ []
    → in_flight (ended_with n issue (DoneEvent (lane_zero n)) h) ≡ []
go-flight n issue h quiet = rw (same_command n, quiet) refl

-- an acknowledged write is in its block, and no other block has changed
pub done-content : (n : ℕ) (issue : Issue) (h : List Happening) (block : ℕ)
    → content (ended_with n issue (DoneEvent (lane_zero n)) h) block
    ≡ (if issue.place.0 == block then splice (content h block) (issue.place.1 * 512) issue.write.bytes else content h block)
done-content n issue h block = rw (same_command n) refl

-- the journal after a write was acknowledged
pub done-journal : (g : Geometry) (contents : List ℕ) (tasks : List Task) (outcomes : List Outcome) (issue : Issue) (marks : BlockMarks) (before h : List Happening)
    → IsIssued g contents tasks outcomes issue marks before h
    → IsJournalOf g contents (tasks ++ task_of_write issue.write ∷ []) (outcomes ++ Done issue.marks ∷ []) (ended_with (length tasks) issue (DoneEvent (lane_zero (length tasks))) h)
done-journal g contents tasks outcomes issue marks before h issued =
    let n = length tasks in
    let ready = issued.ready in
    let ends : Ends n (DoneEvent (lane_zero n)) = record { drawn = refl; no_go = λ m. refl } in
    record {
      opened = ready.opened;
      ongoing = ready.ongoing;
      legal = (
        ready.ongoing,
        record { writing = rw (same_command n) refl },
        (ready.ongoing, go-legal g contents tasks outcomes issue marks before h ready issued.within issued.sector issued.whole, ready.legal),
      );
      era = ready.era ∙ issued.era ∙ sym (era_after_all-push 1 outcomes (Done issue.marks));
      answered = ended-answered g contents tasks outcomes issue marks before h (DoneEvent (lane_zero n)) (Done issue.marks) issued ends refl refl refl;
      drawn = ended-drawn g contents tasks outcomes issue marks before h (DoneEvent (lane_zero n)) ready ends;
      lists = ended-lists g contents tasks outcomes issue marks before h (DoneEvent (lane_zero n)) issued ends;
    }

-- a write in range is one of its block
write-block : (g : Geometry) (issue : Issue) → place_of_write g issue.write ≡ Some issue.place → block_written g (task_of_write issue.write) ≡ Some issue.place.0
write-block g issue placed = ap (λ place. option_map (λ p. p.0) place) placed

-- and between that write and the next command
pub done-between : (g : Geometry) (contents : List ℕ) (tasks : List Task) (outcomes : List Outcome) (issue : Issue) (marks : BlockMarks) (before h : List Happening)
    → IsIssued g contents tasks outcomes issue marks before h → MarksWritten g (commands_from 0 tasks) issue.era before
    → IsBetween g (tasks ++ task_of_write issue.write ∷ []) marks issue.era (ended_with (length tasks) issue (DoneEvent (lane_zero (length tasks))) h)
done-between g contents tasks outcomes issue marks before h issued stream =
    let n = length tasks in
    let ready = issued.ready in
    let go = Go (lane_zero n) issue.place.0 issue.era issue.place.1 issue.write.bytes in
    let after = ended_with n issue (DoneEvent (lane_zero n)) h in
    record {
      quiet = go-flight n issue h ready.quiet;
      follow = record {
        sectors = ready.follow.sectors;
        block_sectors = ready.follow.block_sectors;
        valid = ready.follow.valid;
        present = ready.follow.present;
        current = ready.follow.current;
        lasts = ready.follow.lasts;
        none_later = ready.follow.none_later;
      };
      stream = subst (λ commands. MarksWritten g commands issue.era after) (sym (commands-more tasks (task_of_write issue.write)))
          (stream-write g (commands_from 0 tasks) (command_of n (task_of_write issue.write)) issue.era issue.place.0 before after stream
          (write-block g issue ready.placed) refl issued.within ready.lasts);
      fresh = λ m later. let far : n < m = (let e = length_push tasks (task_of_write issue.write) in omega arith) in
          fresh-after (Happened go ∷ h) (DoneEvent (lane_zero n)) n m refl far refl (fresh-after h go n m refl far (other_number n m far) (ready.fresh m far));
      no_fault = λ at now. (tt, (tt, ready.no_fault at now));
      untold = ready.untold;
    }

-- the journal after a write was cut, whose fault the disk tells
pub cut-journal : (g : Geometry) (contents : List ℕ) (tasks : List Task) (outcomes : List Outcome) (issue : Issue) (marks : BlockMarks) (before h : List Happening) (faults : ℕ)
    → IsIssued g contents tasks outcomes issue marks before h
    → IsJournalOf g contents (tasks ++ task_of_write issue.write ∷ []) (outcomes ++ Cut issue.marks faults ∷ []) (ended_with (length tasks) issue (CutEvent (lane_zero (length tasks)) faults) h)
cut-journal g contents tasks outcomes issue marks before h faults issued =
    let n = length tasks in
    let ready = issued.ready in
    let ended = CutEvent (lane_zero n) faults in
    let ends : Ends n ended = record { drawn = refl; no_go = λ m. refl } in
    record {
      opened = ready.opened;
      ongoing = ready.ongoing;
      legal = (
        ready.ongoing,
        record { writing = rw (same_command n) refl; rose = rw (same_command n) (rw (ready.untold) tt) },
        (ready.ongoing, go-legal g contents tasks outcomes issue marks before h ready issued.within issued.sector issued.whole, ready.legal),
      );
      era = ready.era ∙ issued.era ∙ sym (era_after_all-push 1 outcomes (Cut issue.marks faults));
      answered = ended-answered g contents tasks outcomes issue marks before h ended (Cut issue.marks faults) issued ends refl refl refl;
      drawn = ended-drawn g contents tasks outcomes issue marks before h ended ready ends;
      lists = ended-lists g contents tasks outcomes issue marks before h ended issued ends;
    }

-- the one fault that was told is within the counts of the disk
pub cut-counts : (n : ℕ) (issue : Issue) (h : List Happening) (faults old now : ℕ) → ((at_opening now : FaultyDisk → ℕ) → CountsAreWithin at_opening now h) → Rose old faults → faults ≤ now
    → CountsAreWithin (λ _. old) (λ _. now) (ended_with n issue (CutEvent (lane_zero n) faults) h)
cut-counts n issue h faults old now no_fault rose enough = (rw (same_command n) (rose, enough), (tt, no_fault (λ _. old) (λ _. now)))
