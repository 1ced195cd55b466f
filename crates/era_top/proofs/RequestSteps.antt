-- A checkpoint or a list behind the other commands of a run.
use Rattle.std.proofs.Common.{◌≡◌, ℕ, ◌+◌, ◌<◌, ◌≤◌, ◌&&◌, Bool, true, false, List, [], ◌∷◌, ◌++◌, length, Some, None, refl, ap, sym, ◌∙◌, subst, inl, inr, arith}
use Rattle.std.specs.Prelude.{max, nat_le, nat_lt}
use Rattle.std.proofs.lemmas.Bool.{cases_lt}
use Rattle.std.proofs.lemmas.Bool.Decides.{nat_tests}
use Rattle.std.proofs.lemmas.List.{length_push}
use Rattle.era_base.specs.declared.geometry.Geometry.{Geometry}
use Rattle.era_base.specs.CrashModel.{State}
use Rattle.era_base.specs.Geometry.{blocks_of}
use Rattle.era_model.specs.declared.event.Event.{Event}
use Rattle.era_model.specs.declared.event.Event.TheVariants.{Roll, List as ListEvent, Refused}
use Rattle.era_model.specs.declared.event.Kind.TheVariants.{List as ListKind}
use Rattle.era_model.specs.declared.event.Why.TheVariants.{Memory}
use Rattle.era_model.specs.declared.history.Happening.{Happening}
use Rattle.era_model.specs.declared.history.Happening.TheVariants.{Happened}
use Rattle.era_model.specs.Commands.{events_of, answer_of}
use Rattle.era_model.specs.Conditions.{ListsExactly}
use Rattle.era_model.specs.Counts.{FaultyDisk, CountsAreWithin, last_count}
use Rattle.era_model.specs.Events.{drawn_by, is_go_of}
use Rattle.era_model.specs.History.{at_opening, blocks_at, blocks_now, content, era_of, in_flight, next_place}
use Rattle.era_model.specs.Journal.{session_opening}
use Rattle.era_model.specs.Legal.{MayHappen}
use Rattle.era_model.specs.Marking.{is_marked_in, journal_last_era}
use Rattle.era_model.specs.Marks.{BlockMarks, blocks_of_marks, marks_last_era, rolled, written_since}
use Rattle.era_model.specs.MarkLaws.{SwitchKeepsMarks}
use Rattle.era_model.specs.StreamLists.{era_behind, IsListAnswer, IsWrittenSince, ListsNameWritten, NamesWritten}
use Rattle.era_model.specs.declared.command.Request.{Request}
use Rattle.era_model.specs.declared.command.Request.TheVariants.{Checkpoint, List as ListRequest}
use Rattle.era_model.specs.declared.command.Task.{Task}
use Rattle.era_model.specs.declared.command.Task.TheVariants.{Ask}
use Rattle.era_top.specs.declared.outcome.Outcome.{Outcome}
use Rattle.era_top.specs.declared.outcome.Outcome.TheVariants.{Moved, Listed, NoMemory}
use Rattle.era_top.specs.Outcomes.{era_after, era_after_all, event_count, is_cut_outcome, outcome_events}
use Rattle.era_top.specs.Runs.{command_of, commands_from, lane_zero, subject_of, FitsTask, FollowJournal, MarksWritten}
use Rattle.era_top.specs.Steps.{Running}
use Rattle.era_top.proofs.Journals.{other_number_back, at_opening-known, own-event, other-event, answered-kept, answered-push, drawn-more, drawn-last, era_after_all-push}
use Rattle.era_top.proofs.MarkSteps.{blocks-same, follow-roll}
use Rattle.era_top.proofs.RunLoop.{some_cut-push}
use Rattle.era_top.proofs.StreamSteps.{era_behind-next, era_behind-same, lists-push, stream-quiet, written-none}
use Rattle.era_top.proofs.WriteMarks.{fresh-after}
use Rattle.era_top.proofs.WriteSteps.{commands-more}

-- What is told of the one event of a request, behind a journal in this era: it is the request's own and may happen, it issues no write and tells no fault, and it is the event that the outcome says.
pub record IsAnswered (g : Geometry) (n era : ℕ) (request : Request) (outcome : Outcome) (h : List Happening) (event : Event) : Type 0 where
  pub drawn : drawn_by event ≡ lane_zero n
  pub no_go : (m : ℕ) → is_go_of (lane_zero m) event ≡ false
  pub may : MayHappen h event
  pub fits : FitsTask g era (Ask request) outcome
  pub events : (start : ℕ) → outcome_events (subject_of g n era (Ask request)) start outcome ≡ (start, event) ∷ []
  pub count : event_count outcome ≡ 1
  pub no_cut : is_cut_outcome outcome ≡ false
  pub quiet : in_flight (Happened event ∷ h) ≡ in_flight h
  pub same : (block : ℕ) → content (Happened event ∷ h) block ≡ content h block
  pub lasts : (block : ℕ) → journal_last_era (Happened event ∷ h) block ≡ journal_last_era h block
  pub no_fault : (at_opening now : FaultyDisk → ℕ) → CountsAreWithin at_opening now h → CountsAreWithin at_opening now (Happened event ∷ h)
  pub untold : (disk : FaultyDisk) → last_count (Happened event ∷ h) disk ≡ last_count h disk
  pub present : era_of (Happened event ∷ h) ≡ era_after era outcome

-- a request was answered behind the other commands
pub running-answered : (g : Geometry) (contents : List ℕ) (tasks : List Task) (outcomes : List Outcome) (marks marks' : BlockMarks) (tells : Bool) (faults faults' : ℕ) (disk disk' : State) (h : List Happening)
    (request : Request) (outcome : Outcome) (event : Event)
    → Running g contents tasks outcomes marks tells faults faults' disk disk' h
    → IsAnswered g (length tasks) (era_after_all 1 outcomes) request outcome h event
    → FollowJournal g marks' (era_after (era_after_all 1 outcomes) outcome) (Happened event ∷ h)
    → era_after (era_after_all 1 outcomes) outcome ≡ era_behind (commands_from 0 tasks ++ command_of (length tasks) (Ask request) ∷ [])
    → era_after_all 1 outcomes ≤ era_after (era_after_all 1 outcomes) outcome
    → ((since : ℕ) → Ask request ≡ Ask (ListRequest since false)
    → IsListAnswer g (commands_from 0 tasks) since (answer_of (outcome_events (subject_of g (length tasks) (era_after_all 1 outcomes) (Ask request)) (next_place h) outcome)))
    → Running g contents (tasks ++ Ask request ∷ []) (outcomes ++ outcome ∷ []) marks' tells faults faults' disk disk' (Happened event ∷ h)
running-answered g contents tasks outcomes marks marks' tells faults faults' disk disk' h request outcome event run is follow behind later names =
    let n = length tasks in
    let task = Ask request in
    let era = era_after_all 1 outcomes in
    let after = Happened event ∷ h in
    let fresh = (run.between.fresh n (omega arith)).no_event in
    let kept : (m : ℕ) → m < n → events_of after (lane_zero m) ≡ events_of h (lane_zero m) =
    λ m less. other-event h event n m is.drawn (other_number_back n m less) in
    let own : events_of after (lane_zero n) ≡ outcome_events (subject_of g n era task) (next_place h) outcome =
    own-event h event n [] (next_place h) is.drawn fresh refl ∙ sym (is.events (next_place h)) in
    let pushed : era_after_all 1 (outcomes ++ outcome ∷ []) ≡ era_after era outcome = era_after_all-push 1 outcomes outcome in
    let more = commands-more tasks task in
    record {
      journal = record {
        opened = run.journal.opened;
        ongoing = run.journal.ongoing;
        legal = (run.journal.ongoing, is.may, run.journal.legal);
        era = is.present ∙ sym pushed;
        answered = answered-push g after 0 1 0 tasks outcomes (next_place h) task outcome (next_place h + 1)
            (answered-kept g h after 0 1 0 tasks outcomes (next_place h) (λ m less. kept m (omega arith)) run.journal.answered)
            is.fits
            (subst (λ k. events_of after (lane_zero k) ≡ outcome_events (subject_of g k era task) (next_place h) outcome) (let e : n ≡ 0 + n = omega arith in e) own)
            (ap (λ count. next_place h + count) (sym is.count));
        drawn = drawn-last tasks task h event is.drawn (drawn-more tasks task h run.journal.drawn);
        lists = subst (λ commands. ListsNameWritten g after commands) (sym more)
            (lists-push g tasks (command_of n task) h after run.journal.lists kept
            (λ since asks. subst (λ events. IsListAnswer g (commands_from 0 tasks) since (answer_of events)) (sym own) (names since asks)));
      };
      between = record {
        quiet = is.quiet ∙ run.between.quiet;
        follow = subst (λ e. FollowJournal g marks' e after) (sym pushed) follow;
        stream = rw pushed (subst (λ commands. MarksWritten g commands (era_after era outcome) after) (sym more)
            (stream-quiet g (commands_from 0 tasks) (command_of n task) era (era_after era outcome) h after run.between.stream refl behind later is.lasts));
        fresh = λ m past. let far : n < m = (let e = length_push tasks task in omega arith) in
            fresh-after h event n m is.drawn far (is.no_go m) (run.between.fresh m (omega arith));
        no_fault = λ at now. is.no_fault at now (run.between.no_fault at now);
        untold = λ faulty. is.untold faulty ∙ run.between.untold faulty;
      };
      count = length_push outcomes outcome ∙ ap (λ k. k + 1) run.count ∙ sym (length_push tasks task);
      no_cut = some_cut-push outcomes outcome run.no_cut ∙ is.no_cut;
      kept = run.kept;
      reads = λ told seen block within. is.same block ∙ run.reads told seen block within;
      clean = λ told block written. run.clean told block
          (written-none g (commands_from 0 tasks) (command_of n task) 1 block refl (subst (λ commands. IsWrittenSince g commands 1 block) more written));
    }

-- marks that follow a journal follow it behind an event that marks nothing and moves no era
pub follow-event : (g : Geometry) (m : BlockMarks) (era : ℕ) (h h' : List Happening) → FollowJournal g m era h
    → ((block e : ℕ) → is_marked_in h' block e ≡ is_marked_in h block e) → ((block : ℕ) → journal_last_era h' block ≡ journal_last_era h block)
    → FollowJournal g m era h'
follow-event g m era h h' follow marked lasts = record {
  sectors = follow.sectors;
  block_sectors = follow.block_sectors;
  valid = follow.valid;
  present = follow.present;
  current = λ block. follow.current block ∙ sym (marked block era);
  lasts = λ block. follow.lasts block ∙ sym (lasts block);
  none_later = λ block later past. marked block later ∙ follow.none_later block later past;
}

-- a checkpoint moved the era
pub running-moved : (g : Geometry) (contents : List ℕ) (tasks : List Task) (outcomes : List Outcome) (marks : BlockMarks) (tells : Bool) (faults faults' : ℕ) (disk disk' : State) (h : List Happening) (era : ℕ)
    → Running g contents tasks outcomes marks tells faults faults' disk disk' h → era ≡ marks.era + 1 → SwitchKeepsMarks marks
    → Running g contents (tasks ++ Ask Checkpoint ∷ []) (outcomes ++ Moved era ∷ []) (rolled marks) tells faults faults' disk disk' (Happened (Roll (lane_zero (length tasks)) era) ∷ h)
running-moved g contents tasks outcomes marks tells faults faults' disk disk' h era run is keeps =
    let n = length tasks in
    let present = era_after_all 1 outcomes in
    let next : era ≡ present + 1 = is ∙ ap (λ e. e + 1) run.between.follow.present in
    running-answered g contents tasks outcomes marks (rolled marks) tells faults faults' disk disk' h Checkpoint (Moved era) (Roll (lane_zero n) era) run
    (record {
      drawn = refl;
      no_go = λ m. refl;
      may = record { next = next ∙ ap (λ e. e + 1) (sym run.journal.era); quiet = run.between.quiet };
      fits = inl (ap (λ e. Moved e) next);
      events = λ start. refl;
      count = refl;
      no_cut = refl;
      quiet = refl;
      same = λ block. refl;
      lasts = λ block. refl;
      no_fault = λ at now within. (tt, within);
      untold = λ faulty. refl;
      present = refl;
    })
    (subst (λ e. FollowJournal g (rolled marks) e (Happened (Roll (lane_zero n) e) ∷ h)) (sym next) (follow-roll g marks present (lane_zero n) h run.between.follow keeps))
    (next ∙ ap (λ e. e + 1) run.between.stream.stream_era ∙ sym (era_behind-next (commands_from 0 tasks) (command_of n (Ask Checkpoint)) refl))
    (omega (arith, next))
    (λ since asks. absurd (cc))

-- a list tells its blocks, or that memory was refused
list-names : (g : Geometry) (tasks : List Task) (marks : BlockMarks) (era : ℕ) (h : List Happening) (since : ℕ) (blocks : List (ℕ × ℕ)) → FollowJournal g marks era h → MarksWritten g (commands_from 0 tasks) era h
    → ListsExactly (blocks_of_marks marks) (written_since marks since) blocks → NamesWritten g (commands_from 0 tasks) since blocks
list-names g tasks marks era h since blocks follow stream lists = record {
  maximal = lists.maximal;
  exact = λ block. (
    (λ covered.
        let tested : (nat_lt block (blocks_of_marks marks) && written_since marks since block) ≡ true = sym (lists.exact block) ∙ covered in
        (stream.written since block).0 (let e = follow.lasts block in at-least block tested e)),
    (λ written.
        let less = (stream.written since block).1 written in
        lists.exact block ∙ both block (inside block less) (let e = follow.lasts block in omega arith)),
  );
}
  where
    and-right : (a b : Bool) → (a && b) ≡ true → b ≡ true
    and-right true b is = is
    and-right false b is = absurd (cc)

    at-least : (block : ℕ) → (nat_lt block (blocks_of_marks marks) && written_since marks since block) ≡ true → marks_last_era marks block ≡ journal_last_era h block → max since 1 ≤ journal_last_era h block
    at-least block tested same =
        let late : nat_le (max since 1) (marks_last_era marks block) ≡ true = and-right (nat_lt block (blocks_of_marks marks)) (written_since marks since block) tested in
        subst (λ last. max since 1 ≤ last) same (grind (arith, nat_tests))

    inside : (block : ℕ) → max since 1 ≤ journal_last_era h block → block < blocks_of g.sectors g.block_sectors
    inside block less = elim (cases_lt block (blocks_of g.sectors g.block_sectors)) [
      | inl within ↦ within
      | inr past ↦ absurd (let none = stream.within block past in omega arith)
    ]

    lt-true : (a b : ℕ) → a < b → nat_lt a b ≡ true
    lt-true a b less = grind (arith, nat_tests)

    le-true : (a b : ℕ) → a ≤ b → nat_le a b ≡ true
    le-true a b less = grind (arith, nat_tests)

    both : (block : ℕ) → block < blocks_of g.sectors g.block_sectors → max since 1 ≤ marks_last_era marks block → (nat_lt block (blocks_of_marks marks) && written_since marks since block) ≡ true
    both block within late =
        rw (lt-true block (blocks_of_marks marks) (let e = blocks-same g marks era h follow in omega arith), le-true (max since 1) (marks_last_era marks block) late) refl

-- a list may name what the marks have
list-legal : (g : Geometry) (contents : List ℕ) (marks : BlockMarks) (era since : ℕ) (h : List Happening) (blocks : List (ℕ × ℕ)) → at_opening None (λ o. Some o) h ≡ Some (session_opening g contents) → FollowJournal g marks era h
    → ListsExactly (blocks_of_marks marks) (written_since marks since) blocks → ListsExactly (blocks_now h) (λ block. nat_le (max since 1) (journal_last_era h block)) blocks
list-legal g contents marks era since h blocks opened follow lists = record {
  maximal = lists.maximal;
  exact = λ block. lists.exact block
      ∙ ap (λ count. nat_lt block count && written_since marks since block) (blocks-same g marks era h follow ∙ sym (at_opening-known 0 blocks_at (session_opening g contents) h opened))
      ∙ ap (λ last. nat_lt block (blocks_now h) && nat_le (max since 1) last) (follow.lasts block);
}

-- a list named its blocks
pub running-listed : (g : Geometry) (contents : List ℕ) (tasks : List Task) (outcomes : List Outcome) (marks : BlockMarks) (tells : Bool) (faults faults' : ℕ) (disk disk' : State) (h : List Happening) (since : ℕ) (blocks : List (ℕ × ℕ))
    → Running g contents tasks outcomes marks tells faults faults' disk disk' h → ListsExactly (blocks_of_marks marks) (written_since marks since) blocks
    → Running g contents (tasks ++ Ask (ListRequest since false) ∷ []) (outcomes ++ Listed blocks ∷ []) marks tells faults faults' disk disk' (Happened (ListEvent (lane_zero (length tasks)) since false blocks) ∷ h)
running-listed g contents tasks outcomes marks tells faults faults' disk disk' h since blocks run lists =
    let n = length tasks in
    let present = era_after_all 1 outcomes in
    let event = ListEvent (lane_zero n) since false blocks in
    running-answered g contents tasks outcomes marks marks tells faults faults' disk disk' h (ListRequest since false) (Listed blocks) event run
    (record {
      drawn = refl;
      no_go = λ m. refl;
      may = list-legal g contents marks present since h blocks run.journal.opened run.between.follow lists;
      fits = tt;
      events = λ start. refl;
      count = refl;
      no_cut = refl;
      quiet = refl;
      same = λ block. refl;
      lasts = λ block. refl;
      no_fault = λ at now within. (tt, within);
      untold = λ faulty. refl;
      present = run.journal.era;
    })
    (follow-event g marks present h (Happened event ∷ h) run.between.follow (λ block e. refl) (λ block. refl))
    (run.between.stream.stream_era ∙ sym (era_behind-same (commands_from 0 tasks) (command_of n (Ask (ListRequest since false))) refl))
    (omega arith)
    (λ asked asks. let same : since ≡ asked = cc in
    subst (λ e. NamesWritten g (commands_from 0 tasks) e blocks) same (list-names g tasks marks present h since blocks run.between.follow run.between.stream lists))

-- memory for a list was refused, or the era was the last one
pub running-lacked : (g : Geometry) (contents : List ℕ) (tasks : List Task) (outcomes : List Outcome) (marks : BlockMarks) (tells : Bool) (faults faults' : ℕ) (disk disk' : State) (h : List Happening) (since : ℕ)
    → Running g contents tasks outcomes marks tells faults faults' disk disk' h
    → Running g contents (tasks ++ Ask (ListRequest since false) ∷ []) (outcomes ++ NoMemory ∷ []) marks tells faults faults' disk disk' (Happened (Refused (lane_zero (length tasks)) ListKind Memory) ∷ h)
running-lacked g contents tasks outcomes marks tells faults faults' disk disk' h since run =
    let n = length tasks in
    let present = era_after_all 1 outcomes in
    let event = Refused (lane_zero n) ListKind Memory in
    running-answered g contents tasks outcomes marks marks tells faults faults' disk disk' h (ListRequest since false) NoMemory event run
    (record {
      drawn = refl;
      no_go = λ m. refl;
      may = refl;
      fits = tt;
      events = λ start. refl;
      count = refl;
      no_cut = refl;
      quiet = refl;
      same = λ block. refl;
      lasts = λ block. refl;
      no_fault = λ at now within. (tt, within);
      untold = λ faulty. refl;
      present = run.journal.era;
    })
    (follow-event g marks present h (Happened event ∷ h) run.between.follow (λ block e. refl) (λ block. refl))
    (run.between.stream.stream_era ∙ sym (era_behind-same (commands_from 0 tasks) (command_of n (Ask (ListRequest since false))) refl))
    (omega arith)
    (λ asked asks. tt)
