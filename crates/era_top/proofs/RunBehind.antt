-- Commands that are run behind others of the same session.
use Rattle.std.proofs.Common.{◌≡◌, ℕ, ◌+◌, ◌*◌, ◌<◌, ◌≤◌, Bool, true, false, List, [], ◌∷◌, ◌++◌, length, get_or, take, ap, sym, ◌∙◌, subst, append_assoc, length-append, arith}
use Rattle.std.proofs.Math.Seq.{take-append-add}
use Rattle.std.proofs.lemmas.List.{append-nil, length-map, take_all}
use Rattle.era_base.specs.declared.geometry.Geometry.{Geometry}
use Rattle.era_base.specs.CrashModel.{State}
use Rattle.era_base.specs.Faults.{Rose}
use Rattle.era_model.specs.declared.command.Command.{Command}
use Rattle.era_model.specs.declared.command.Task.{Task}
use Rattle.era_model.specs.declared.command.Task.TheVariants.{Write as WriteTask, Ask}
use Rattle.era_model.specs.declared.history.Happening.{Happening}
use Rattle.era_model.specs.Marks.{BlockMarks}
use Rattle.era_top.specs.Runs.{IsServedTask}
use Rattle.era_top.specs.declared.outcome.Outcome.{Outcome}
use Rattle.era_top.specs.declared.outcome.Outcome.TheVariants.{OutOfRange, Done, Cut, Moved, LastEra, Listed, NoMemory}
use Rattle.era_top.specs.Outcomes.{is_cut_outcome}
use Rattle.era_top.specs.Runs.{some_cut, tasks_of, Write}
use Rattle.era_top.specs.Steps.{HaveRun, HaveRunOn, Running, TaskWent, WriteWent}
use Rattle.era_top.proofs.RunLoop.{some_cut-push}
use Rattle.era_top.proofs.TaskSteps.{went-on, went-cut, running-end, front-more, front-length, request-uncut}

-- none of the commands was run yet
pub behind-none : (g : Geometry) (contents : List ℕ) (before : List Task) (done outcomes : List Outcome) (marks : BlockMarks) (tells : Bool) (faults faults' : ℕ) (disk disk' : State) (h : List Happening)
    → outcomes ≡ [] → Running g contents before done marks tells faults faults' disk disk' h
    → Running g contents (before ++ []) (done ++ outcomes) marks tells faults faults' disk disk' h
behind-none g contents before done outcomes marks tells faults faults' disk disk' h none run =
    subst (λ (tasks : List Task). Running g contents tasks (done ++ outcomes) marks tells faults faults' disk disk' h) (sym (append-nil before))
    (subst (λ (all : List Outcome). Running g contents before all marks tells faults faults' disk disk' h) (sym (ap (λ (l : List Outcome). done ++ l) none ∙ append-nil done)) run)

-- the command at an index stands behind those before it
behind-more : (before : List Task) (all : List Command) (i : ℕ) (command : Command) → i < length all → command ≡ get_or all i command
    → (before ++ take i (tasks_of all)) ++ command.task ∷ [] ≡ before ++ take (i + 1) (tasks_of all)
behind-more before all i command within is =
    append_assoc before (take i (tasks_of all)) (command.task ∷ []) ∙ ap (λ (l : List Task). before ++ l) (sym (front-more all i command within is))

-- as many as those before it
behind-length : (before : List Task) (all : List Command) (i : ℕ) → i < length all → length (before ++ take i (tasks_of all)) ≡ length before + i
behind-length before all i within = length-append before (take i (tasks_of all)) ∙ ap (λ n. length before + n) (front-length all i within)

module _ (g : Geometry) (contents : List ℕ) (before : List Task) (all : List Command) (i : ℕ) (command : Command) (done outcomes : List Outcome) (marks marks' : BlockMarks) (tells : Bool)
    (faults faults' faults'' : ℕ) (disk disk' disk'' : State) (h : List Happening) (outcome : Outcome) where
  -- one of the commands was run
  pub behind-on : i < length all → command ≡ get_or all i command → length before + length (tasks_of all) ≤ 65536
      → Running g contents (before ++ take i (tasks_of all)) (done ++ outcomes) marks tells faults faults' disk disk' h
      → IsServedTask command.task → (tells ≡ true → length disk'.seen ≡ g.sectors * 512)
      → TaskWent g command.task tells marks marks' faults' faults'' disk' disk'' outcome → is_cut_outcome outcome ≡ false
      → (h' : List Happening) × Running g contents (before ++ take (i + 1) (tasks_of all)) (done ++ (outcomes ++ outcome ∷ [])) marks' tells faults faults'' disk disk'' h'
  behind-on within is few run served sized went none =
      let size = behind-length before all i within in
      let count = length-map all (λ (c : Command). c.task) in
      let on = went-on g contents (before ++ take i (tasks_of all)) (done ++ outcomes) marks marks' tells faults faults' faults'' disk disk' disk'' h command.task outcome
      run (omega (arith, size, within, few, count)) served sized went none in (
        on.0,
        subst (λ (tasks : List Task). Running g contents tasks (done ++ (outcomes ++ outcome ∷ [])) marks' tells faults faults'' disk disk'' on.0) (behind-more before all i command within is)
            (subst (λ (l : List Outcome). Running g contents ((before ++ take i (tasks_of all)) ++ command.task ∷ []) l marks' tells faults faults'' disk disk'' on.0) (append_assoc done outcomes (outcome ∷ [])) on.1),
      )

  -- one of the commands was a write that was cut
  pub behind-cut : i < length all → command ≡ get_or all i command
      → Running g contents (before ++ take i (tasks_of all)) (done ++ outcomes) marks tells faults faults' disk disk' h
      → IsServedTask command.task
      → TaskWent g command.task tells marks marks' faults' faults'' disk' disk'' outcome → is_cut_outcome outcome ≡ true
      → HaveRunOn g contents (before ++ tasks_of all) (done ++ (outcomes ++ outcome ∷ [])) marks' tells faults faults'' disk disk''
  behind-cut within is run served went cut =
      let size = behind-length before all i within in
      let count = length-map all (λ (c : Command). c.task) in
      let here = before ++ take i (tasks_of all) in
      let whole = length-append before (tasks_of all) in
      let front : take (length here + 1) (before ++ tasks_of all) ≡ here ++ command.task ∷ [] =
      ap (λ n. take n (before ++ tasks_of all)) (let e : length here + 1 ≡ length before + (i + 1) = omega (arith, size) in e)
      ∙ take-append-add before (tasks_of all) (i + 1)
      ∙ sym (behind-more before all i command within is) in
      let joined = append_assoc done outcomes (outcome ∷ []) in
      let ended = went-cut g contents (before ++ tasks_of all) here (done ++ outcomes) marks marks' tells faults faults' faults'' disk disk' disk'' h command.task outcome
      run served front (omega (arith, size, within, whole, count)) went cut in
      let stopped : some_cut (done ++ (outcomes ++ outcome ∷ [])) ≡ true =
      ap some_cut (sym joined) ∙ some_cut-push (done ++ outcomes) outcome run.no_cut ∙ cut in
      record {
        journal = ended.0;
        run = subst (λ (l : List Outcome). HaveRun g contents (before ++ tasks_of all) l tells marks'.era faults faults'' disk disk'' ended.0) joined ended.1;
        on = λ none. absurd (let e = stopped in cc);
      }

-- all of the commands were run
pub behind-end : (g : Geometry) (contents : List ℕ) (before : List Task) (all : List Command) (i : ℕ) (outcomes : List Outcome) (marks : BlockMarks) (tells : Bool) (faults faults' : ℕ) (disk disk' : State) (h : List Happening)
    → length all ≤ i → Running g contents (before ++ take i (tasks_of all)) outcomes marks tells faults faults' disk disk' h
    → HaveRunOn g contents (before ++ tasks_of all) outcomes marks tells faults faults' disk disk'
behind-end g contents before all i outcomes marks tells faults faults' disk disk' h past run =
    let same : before ++ take i (tasks_of all) ≡ before ++ tasks_of all =
    ap (λ (l : List Task). before ++ l) (take_all i (tasks_of all) (rw (length-map all (λ (c : Command). c.task)) past)) in
    record {
      journal = h;
      run = running-end g contents (before ++ tasks_of all) (before ++ take i (tasks_of all)) outcomes marks tells faults faults' disk disk' h run same;
      on = λ _. subst (λ (tasks : List Task). Running g contents tasks outcomes marks tells faults faults' disk disk' h) same run;
    }

-- a task that was cut raised the count of the disk's faults, and any other leaves it
cut-write : (g : Geometry) (write : Write) (tells : Bool) (marks marks' : BlockMarks) (faults faults' : ℕ) (disk disk' : State) (outcome : Outcome)
    → WriteWent g write tells marks marks' faults faults' disk disk' outcome → is_cut_outcome outcome ≡ true → Rose faults faults'
cut-write g write tells marks marks' faults faults' disk disk' (Cut first told) went is = went.1.rose
cut-write g write tells marks marks' faults faults' disk disk' OutOfRange went is = absurd (cc)
cut-write g write tells marks marks' faults faults' disk disk' (Done first) went is = absurd (cc)
cut-write g write tells marks marks' faults faults' disk disk' (Moved era) went is = absurd went
cut-write g write tells marks marks' faults faults' disk disk' LastEra went is = absurd went
cut-write g write tells marks marks' faults faults' disk disk' (Listed blocks) went is = absurd went
cut-write g write tells marks marks' faults faults' disk disk' NoMemory went is = absurd went

uncut-write : (g : Geometry) (write : Write) (tells : Bool) (marks marks' : BlockMarks) (faults faults' : ℕ) (disk disk' : State) (outcome : Outcome)
    → WriteWent g write tells marks marks' faults faults' disk disk' outcome → is_cut_outcome outcome ≡ false → faults' ≡ faults
uncut-write g write tells marks marks' faults faults' disk disk' OutOfRange went is = went.2
uncut-write g write tells marks marks' faults faults' disk disk' (Done first) went is = went.1
uncut-write g write tells marks marks' faults faults' disk disk' (Cut first told) went is = absurd (cc)
uncut-write g write tells marks marks' faults faults' disk disk' (Moved era) went is = absurd went
uncut-write g write tells marks marks' faults faults' disk disk' LastEra went is = absurd went
uncut-write g write tells marks marks' faults faults' disk disk' (Listed blocks) went is = absurd went
uncut-write g write tells marks marks' faults faults' disk disk' NoMemory went is = absurd went

pub uncut-kept : (g : Geometry) (task : Task) (tells : Bool) (marks marks' : BlockMarks) (faults faults' : ℕ) (disk disk' : State) (outcome : Outcome)
    → TaskWent g task tells marks marks' faults faults' disk disk' outcome → is_cut_outcome outcome ≡ false → faults' ≡ faults
uncut-kept g (WriteTask sector bytes) tells marks marks' faults faults' disk disk' outcome went is =
    uncut-write g (record { sector = sector; bytes = bytes }) tells marks marks' faults faults' disk disk' outcome went is
uncut-kept g (Ask request) tells marks marks' faults faults' disk disk' outcome went is = went.1
uncut-kept g task tells marks marks' faults faults' disk disk' outcome went is = absurd went

pub cut-rose : (g : Geometry) (task : Task) (tells : Bool) (marks marks' : BlockMarks) (faults faults' : ℕ) (disk disk' : State) (outcome : Outcome)
    → TaskWent g task tells marks marks' faults faults' disk disk' outcome → is_cut_outcome outcome ≡ true → Rose faults faults'
cut-rose g (WriteTask sector bytes) tells marks marks' faults faults' disk disk' outcome went is =
    cut-write g (record { sector = sector; bytes = bytes }) tells marks marks' faults faults' disk disk' outcome went is
cut-rose g (Ask request) tells marks marks' faults faults' disk disk' outcome went is = absurd (request-uncut marks marks' request outcome went.0 is)
cut-rose g task tells marks marks' faults faults' disk disk' outcome went is = absurd went
