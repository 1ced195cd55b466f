-- One task more in a run of commands, by how it went, and the end of the run.
use Rattle.std.proofs.Common.{◌≡◌, ℕ, ◌+◌, ◌*◌, ◌%◌, ◌<◌, ◌≤◌, Bool, true, false, List, [], ◌∷◌, ◌++◌, length, get_or, take, refl, ap, sym, ◌∙◌, subst, arith}
use Rattle.std.proofs.lemmas.List.{get_or-map, length-map, length-take-le, take_all, take_more}
use Rattle.era_base.specs.declared.geometry.Geometry.{Geometry}
use Rattle.era_base.specs.CrashModel.{State, IsClean}
use Rattle.era_model.specs.declared.history.Happening.{Happening}
use Rattle.era_model.specs.Marks.{BlockMarks}
use Rattle.era_model.specs.StreamLists.{IsWrittenSince}
use Rattle.era_model.specs.Writes.{block_bytes}
use Rattle.era_top.specs.Runs.{IsServedTask}
use Rattle.era_model.specs.declared.command.Command.{Command}
use Rattle.era_model.specs.declared.command.Request.{Request}
use Rattle.era_model.specs.declared.command.Request.TheVariants.{Checkpoint, List as ListRequest}
use Rattle.era_model.specs.declared.command.Task.{Task}
use Rattle.era_model.specs.declared.command.Task.TheVariants.{Write as WriteTask, Ask}
use Rattle.era_top.specs.declared.outcome.Outcome.{Outcome}
use Rattle.era_top.specs.declared.outcome.Outcome.TheVariants.{OutOfRange, Done, Cut, Moved, LastEra, Listed, NoMemory}
use Rattle.era_top.specs.Outcomes.{era_after_all, is_cut_outcome}
use Rattle.era_top.specs.Runs.{commands_from, task_of_write, tasks_of, IsJournalOf, IsBetween, Write}
use Rattle.era_top.specs.Steps.{AnswersRequest, HaveRun, MovesEra, Running, TaskWent, TellsBlocks, WriteWent}
use Rattle.era_top.proofs.RequestSteps.{running-lacked, running-listed, running-moved}
use Rattle.era_top.proofs.RunLoop.{running-range}
use Rattle.era_top.proofs.RunSteps.{running-cut, running-done}
use Rattle.era_top.proofs.StreamSteps.{era_behind-few}
use Rattle.era_top.proofs.TaskCommands.{length-commands_from}

-- all commands were run
pub running-end : (g : Geometry) (contents : List ℕ) (all tasks : List Task) (outcomes : List Outcome) (marks : BlockMarks) (tells : Bool) (faults faults' : ℕ) (disk disk' : State) (h : List Happening)
    → Running g contents tasks outcomes marks tells faults faults' disk disk' h → tasks ≡ all
    → HaveRun g contents all outcomes tells marks.era faults faults' disk disk' h
running-end g contents all tasks outcomes marks tells faults faults' disk disk' h run same =
    let front : tasks ≡ take (length outcomes) all = same ∙ sym (take_all (length outcomes) all (let e = run.count in let f = ap length same in omega arith)) in
    record {
      count = (let e = run.count in let f = ap length same in omega arith);
      whole = λ _. run.count ∙ ap length same;
      journal = subst (λ ts. IsJournalOf g contents ts outcomes h) front run.journal;
      present = run.between.follow.present ∙ sym run.journal.era;
      counts = run.between.no_fault (λ _. faults) (λ _. faults');
      rose = λ cut. absurd (let none = run.no_cut in cc);
      kept = λ _. run.kept;
      quiet = λ _. run.between.quiet;
      stopped = λ cut. absurd (let none = run.no_cut in cc);
      last = λ cut. absurd (let none = run.no_cut in cc);
      reads = λ told is block within. record {
        size = ap length (sym (run.reads told is block within));
        same = λ offset _. ap (λ bytes. get_or bytes offset 0) (sym (run.reads told is block within));
      };
      clean = λ told _. subst (λ ts. (block : ℕ) → IsWrittenSince g (commands_from 0 ts) 1 block → IsClean disk') front (run.clean told);
    }

-- the same facts of a run, where the marks, the count and the disk are those that stayed
pub running-same : (g : Geometry) (contents : List ℕ) (tasks : List Task) (outcomes : List Outcome) (marks marks' : BlockMarks) (tells : Bool) (faults faults' faults'' : ℕ) (disk disk' disk'' : State) (h : List Happening)
    → Running g contents tasks outcomes marks tells faults faults' disk disk' h → marks' ≡ marks → faults'' ≡ faults' → (tells ≡ true → disk'' ≡ disk')
    → Running g contents tasks outcomes marks' tells faults faults'' disk disk'' h
running-same g contents tasks outcomes marks marks' tells faults faults' faults'' disk disk' disk'' h run same_marks same_faults same_disk = record {
  journal = run.journal;
  between = subst (λ m. IsBetween g tasks m (era_after_all 1 outcomes) h) (sym same_marks) run.between;
  count = run.count;
  no_cut = run.no_cut;
  kept = same_faults ∙ run.kept;
  reads = λ told is block within. run.reads told is block within ∙ ap (λ state. block_bytes g.block_sectors state.seen block) (sym (same_disk told));
  clean = λ told block written. subst IsClean (sym (same_disk told)) (run.clean told block written);
}

-- a write that wasn't cut, behind the others
write-on : (g : Geometry) (contents : List ℕ) (tasks : List Task) (outcomes : List Outcome) (marks marks' : BlockMarks) (tells : Bool) (faults faults' faults'' : ℕ) (disk disk' disk'' : State) (h : List Happening) (write : Write) (outcome : Outcome)
    → Running g contents tasks outcomes marks tells faults faults' disk disk' h → length write.bytes % 512 ≡ 0 → (tells ≡ true → length disk'.seen ≡ g.sectors * 512)
    → WriteWent g write tells marks marks' faults' faults'' disk' disk'' outcome → is_cut_outcome outcome ≡ false
    → (h' : List Happening) × Running g contents (tasks ++ task_of_write write ∷ []) (outcomes ++ outcome ∷ []) marks' tells faults faults'' disk disk'' h'
write-on g contents tasks outcomes marks marks' tells faults faults' faults'' disk disk' disk'' h write OutOfRange run whole sized went none = (
  h,
  running-same g contents _ _ marks marks' tells faults faults' faults'' disk disk' disk'' h
      (running-range g contents tasks outcomes marks tells faults faults' disk disk' h write run went.0) went.1 went.2 went.3,
)
write-on g contents tasks outcomes marks marks' tells faults faults' faults'' disk disk' disk'' h write (Done first) run whole sized went none =
    subst (λ count. (h' : List Happening) × Running g contents (tasks ++ task_of_write write ∷ []) (outcomes ++ Done first ∷ []) marks' tells faults count disk disk'' h') (sym went.1)
    (running-done g contents tasks outcomes marks marks' tells faults faults' disk disk' disk'' h write first run went.0 whole sized went.2)
write-on g contents tasks outcomes marks marks' tells faults faults' faults'' disk disk' disk'' h write (Cut first told) run whole sized went none = absurd (cc)
write-on g contents tasks outcomes marks marks' tells faults faults' faults'' disk disk' disk'' h write (Moved era) run whole sized went none = absurd went
write-on g contents tasks outcomes marks marks' tells faults faults' faults'' disk disk' disk'' h write LastEra run whole sized went none = absurd went
write-on g contents tasks outcomes marks marks' tells faults faults' faults'' disk disk' disk'' h write (Listed blocks) run whole sized went none = absurd went
write-on g contents tasks outcomes marks marks' tells faults faults' faults'' disk disk' disk'' h write NoMemory run whole sized went none = absurd went

-- a session of few commands isn't in the last era
not-last : (g : Geometry) (contents : List ℕ) (tasks : List Task) (outcomes : List Outcome) (marks : BlockMarks) (tells : Bool) (faults faults' : ℕ) (disk disk' : State) (h : List Happening)
    → Running g contents tasks outcomes marks tells faults faults' disk disk' h → length tasks ≤ 65536 → marks.era ≡ 4294967295 → ⊥
not-last g contents tasks outcomes marks tells faults faults' disk disk' h run few last =
    let count = length-commands_from 0 tasks in
    let bound = era_behind-few (commands_from 0 tasks) in
    let era = run.between.stream.stream_era in
    let present = run.between.follow.present in
    omega (arith, count, bound, era, present, last)

-- a checkpoint behind the others
checkpoint-on : (g : Geometry) (contents : List ℕ) (tasks : List Task) (outcomes : List Outcome) (marks marks' : BlockMarks) (tells : Bool) (faults faults' : ℕ) (disk disk' : State) (h : List Happening) (outcome : Outcome)
    → Running g contents tasks outcomes marks tells faults faults' disk disk' h → length tasks ≤ 65536 → MovesEra marks marks' outcome
    → (h' : List Happening) × Running g contents (tasks ++ Ask Checkpoint ∷ []) (outcomes ++ outcome ∷ []) marks' tells faults faults' disk disk' h'
checkpoint-on g contents tasks outcomes marks marks' tells faults faults' disk disk' h (Moved era) run few moved = (
  _,
  running-same g contents _ _ _ marks' tells faults faults' faults' disk disk' disk' _
      (running-moved g contents tasks outcomes marks tells faults faults' disk disk' h era run moved.1 moved.3) moved.2 refl (λ told. refl),
)
checkpoint-on g contents tasks outcomes marks marks' tells faults faults' disk disk' h LastEra run few moved =
    absurd (not-last g contents tasks outcomes marks tells faults faults' disk disk' h run few moved.0)
checkpoint-on g contents tasks outcomes marks marks' tells faults faults' disk disk' h OutOfRange run few moved = absurd moved
checkpoint-on g contents tasks outcomes marks marks' tells faults faults' disk disk' h (Done first) run few moved = absurd moved
checkpoint-on g contents tasks outcomes marks marks' tells faults faults' disk disk' h (Cut first told) run few moved = absurd moved
checkpoint-on g contents tasks outcomes marks marks' tells faults faults' disk disk' h (Listed blocks) run few moved = absurd moved
checkpoint-on g contents tasks outcomes marks marks' tells faults faults' disk disk' h NoMemory run few moved = absurd moved

-- a list behind the others
list-on : (g : Geometry) (contents : List ℕ) (tasks : List Task) (outcomes : List Outcome) (marks : BlockMarks) (tells : Bool) (faults faults' : ℕ) (disk disk' : State) (h : List Happening) (since : ℕ) (outcome : Outcome)
    → Running g contents tasks outcomes marks tells faults faults' disk disk' h → TellsBlocks marks since outcome
    → (h' : List Happening) × Running g contents (tasks ++ Ask (ListRequest since false) ∷ []) (outcomes ++ outcome ∷ []) marks tells faults faults' disk disk' h'
list-on g contents tasks outcomes marks tells faults faults' disk disk' h since (Listed blocks) run told =
    (_, running-listed g contents tasks outcomes marks tells faults faults' disk disk' h since blocks run told)
list-on g contents tasks outcomes marks tells faults faults' disk disk' h since NoMemory run told =
    (_, running-lacked g contents tasks outcomes marks tells faults faults' disk disk' h since run)
list-on g contents tasks outcomes marks tells faults faults' disk disk' h since OutOfRange run told = absurd told
list-on g contents tasks outcomes marks tells faults faults' disk disk' h since (Done first) run told = absurd told
list-on g contents tasks outcomes marks tells faults faults' disk disk' h since (Cut first count) run told = absurd told
list-on g contents tasks outcomes marks tells faults faults' disk disk' h since (Moved era) run told = absurd told
list-on g contents tasks outcomes marks tells faults faults' disk disk' h since LastEra run told = absurd told

-- a request behind the others
request-on : (g : Geometry) (contents : List ℕ) (tasks : List Task) (outcomes : List Outcome) (marks marks' : BlockMarks) (tells : Bool) (faults faults' : ℕ) (disk disk' : State) (h : List Happening) (request : Request) (outcome : Outcome)
    → Running g contents tasks outcomes marks tells faults faults' disk disk' h → length tasks ≤ 65536 → AnswersRequest marks marks' request outcome
    → (h' : List Happening) × Running g contents (tasks ++ Ask request ∷ []) (outcomes ++ outcome ∷ []) marks' tells faults faults' disk disk' h'
request-on g contents tasks outcomes marks marks' tells faults faults' disk disk' h Checkpoint outcome run few answers =
    checkpoint-on g contents tasks outcomes marks marks' tells faults faults' disk disk' h outcome run few answers
request-on g contents tasks outcomes marks marks' tells faults faults' disk disk' h (ListRequest since false) outcome run few answers =
    let on = list-on g contents tasks outcomes marks tells faults faults' disk disk' h since outcome run answers.1 in
    (on.0, running-same g contents _ _ marks marks' tells faults faults' faults' disk disk' disk' on.0 on.1 answers.0 refl (λ told. refl))
request-on g contents tasks outcomes marks marks' tells faults faults' disk disk' h request outcome run few answers = absurd answers

-- a task that wasn't cut, behind the others
pub went-on : (g : Geometry) (contents : List ℕ) (tasks : List Task) (outcomes : List Outcome) (marks marks' : BlockMarks) (tells : Bool) (faults faults' faults'' : ℕ) (disk disk' disk'' : State) (h : List Happening) (task : Task) (outcome : Outcome)
    → Running g contents tasks outcomes marks tells faults faults' disk disk' h → length tasks ≤ 65536 → IsServedTask task → (tells ≡ true → length disk'.seen ≡ g.sectors * 512)
    → TaskWent g task tells marks marks' faults' faults'' disk' disk'' outcome → is_cut_outcome outcome ≡ false
    → (h' : List Happening) × Running g contents (tasks ++ task ∷ []) (outcomes ++ outcome ∷ []) marks' tells faults faults'' disk disk'' h'
went-on g contents tasks outcomes marks marks' tells faults faults' faults'' disk disk' disk'' h (WriteTask sector bytes) outcome run few payload sized went none =
    write-on g contents tasks outcomes marks marks' tells faults faults' faults'' disk disk' disk'' h (record { sector = sector; bytes = bytes }) outcome run payload.whole sized went none
went-on g contents tasks outcomes marks marks' tells faults faults' faults'' disk disk' disk'' h (Ask request) outcome run few payload sized went none =
    let on = request-on g contents tasks outcomes marks marks' tells faults faults' disk disk' h request outcome run few went.0 in
    (on.0, running-same g contents _ _ marks' marks' tells faults faults' faults'' disk disk' disk'' on.0 on.1 refl went.1 (λ told. went.2))
went-on g contents tasks outcomes marks marks' tells faults faults' faults'' disk disk' disk'' h task outcome run few payload sized went none = absurd went

-- a write that was cut, behind the others
write-cut : (g : Geometry) (contents : List ℕ) (all tasks : List Task) (outcomes : List Outcome) (marks marks' : BlockMarks) (tells : Bool) (faults faults' faults'' : ℕ) (disk disk' disk'' : State) (h : List Happening) (write : Write) (outcome : Outcome)
    → Running g contents tasks outcomes marks tells faults faults' disk disk' h → length write.bytes % 512 ≡ 0
    → take (length tasks + 1) all ≡ tasks ++ task_of_write write ∷ [] → length tasks < length all
    → WriteWent g write tells marks marks' faults' faults'' disk' disk'' outcome → is_cut_outcome outcome ≡ true
    → (h' : List Happening) × HaveRun g contents all (outcomes ++ outcome ∷ []) tells marks'.era faults faults'' disk disk'' h'
write-cut g contents all tasks outcomes marks marks' tells faults faults' faults'' disk disk' disk'' h write (Cut first told) run whole front within went is =
    running-cut g contents all tasks outcomes marks marks' tells faults faults' faults'' told disk disk' disk'' h write first run went.0 whole went.1 went.2 front within
write-cut g contents all tasks outcomes marks marks' tells faults faults' faults'' disk disk' disk'' h write OutOfRange run whole front within went is = absurd (cc)
write-cut g contents all tasks outcomes marks marks' tells faults faults' faults'' disk disk' disk'' h write (Done first) run whole front within went is = absurd (cc)
write-cut g contents all tasks outcomes marks marks' tells faults faults' faults'' disk disk' disk'' h write (Moved era) run whole front within went is = absurd (cc)
write-cut g contents all tasks outcomes marks marks' tells faults faults' faults'' disk disk' disk'' h write LastEra run whole front within went is = absurd (cc)
write-cut g contents all tasks outcomes marks marks' tells faults faults' faults'' disk disk' disk'' h write (Listed blocks) run whole front within went is = absurd (cc)
write-cut g contents all tasks outcomes marks marks' tells faults faults' faults'' disk disk' disk'' h write NoMemory run whole front within went is = absurd (cc)

-- a request is never cut
pub request-uncut : (marks marks' : BlockMarks) (request : Request) (outcome : Outcome) → AnswersRequest marks marks' request outcome → is_cut_outcome outcome ≡ true → ⊥
request-uncut marks marks' Checkpoint (Cut first told) answers is = answers
request-uncut marks marks' (ListRequest since false) (Cut first told) answers is = answers.1
request-uncut marks marks' request (Cut first told) answers is = answers
request-uncut marks marks' request OutOfRange answers is = absurd (cc)
request-uncut marks marks' request (Done first) answers is = absurd (cc)
request-uncut marks marks' request (Moved era) answers is = absurd (cc)
request-uncut marks marks' request LastEra answers is = absurd (cc)
request-uncut marks marks' request (Listed blocks) answers is = absurd (cc)
request-uncut marks marks' request NoMemory answers is = absurd (cc)

-- a task that was cut, behind the others
pub went-cut : (g : Geometry) (contents : List ℕ) (all tasks : List Task) (outcomes : List Outcome) (marks marks' : BlockMarks) (tells : Bool) (faults faults' faults'' : ℕ) (disk disk' disk'' : State) (h : List Happening) (task : Task) (outcome : Outcome)
    → Running g contents tasks outcomes marks tells faults faults' disk disk' h → IsServedTask task
    → take (length tasks + 1) all ≡ tasks ++ task ∷ [] → length tasks < length all
    → TaskWent g task tells marks marks' faults' faults'' disk' disk'' outcome → is_cut_outcome outcome ≡ true
    → (h' : List Happening) × HaveRun g contents all (outcomes ++ outcome ∷ []) tells marks'.era faults faults'' disk disk'' h'
went-cut g contents all tasks outcomes marks marks' tells faults faults' faults'' disk disk' disk'' h (WriteTask sector bytes) outcome run payload front within went is =
    write-cut g contents all tasks outcomes marks marks' tells faults faults' faults'' disk disk' disk'' h (record { sector = sector; bytes = bytes }) outcome run payload.whole front within went is
went-cut g contents all tasks outcomes marks marks' tells faults faults' faults'' disk disk' disk'' h (Ask request) outcome run payload front within went is =
    absurd (request-uncut marks marks' request outcome went.0 is)
went-cut g contents all tasks outcomes marks marks' tells faults faults' faults'' disk disk' disk'' h task outcome run payload front within went is = absurd went

-- one task more of all commands
pub front-more : (all : List Command) (i : ℕ) (command : Command) → i < length all → command ≡ get_or all i command
    → take (i + 1) (tasks_of all) ≡ take i (tasks_of all) ++ command.task ∷ []
front-more all i command within is =
    take_more (tasks_of all) i command.task (simp length-map within)
    ∙ ap (λ t. take i (tasks_of all) ++ t ∷ []) (get_or-map (λ (c : Command). c.task) all i command command.task within ∙ ap (λ c. c.task) (sym is))

pub front-length : (all : List Command) (i : ℕ) → i < length all → length (take i (tasks_of all)) ≡ i
front-length all i within = length-take-le i (tasks_of all) (simp length-map (omega arith))
