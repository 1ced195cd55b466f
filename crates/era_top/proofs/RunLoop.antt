-- A run of commands: where none was run yet, and a write out of range behind the others.
use Rattle.std.proofs.Common.{◌≡◌, ℕ, ◌+◌, ◌||◌, Bool, true, false, List, [], ◌∷◌, ◌++◌, length, None, refl, ap, sym, ◌∙◌, subst, arith}
use Rattle.std.specs.Prelude.{option_map}
use Rattle.std.proofs.lemmas.List.{length_push}
use Rattle.std.proofs.lemmas.List.Folds.{list_any-append}
use Rattle.era_base.specs.declared.geometry.Geometry.{Geometry}
use Rattle.era_base.specs.CrashModel.{State}
use Rattle.era_base.specs.Geometry.{blocks_of}
use Rattle.era_model.specs.declared.history.Happening.{Happening}
use Rattle.era_model.specs.declared.history.Happening.TheVariants.{Opened}
use Rattle.era_model.specs.Commands.{events_of}
use Rattle.era_model.specs.History.{next_place}
use Rattle.era_model.specs.Journal.{session_opening}
use Rattle.era_model.specs.Marks.{BlockMarks, no_marks}
use Rattle.era_model.specs.StreamLists.{block_written, IsWrittenSince, ListsNameWritten}
use Rattle.era_model.specs.Writes.{block_bytes}
use Rattle.era_model.specs.declared.command.Task.{Task}
use Rattle.era_top.specs.declared.outcome.Outcome.{Outcome}
use Rattle.era_top.specs.declared.outcome.Outcome.TheVariants.{OutOfRange}
use Rattle.era_top.specs.Outcomes.{era_after_all, is_cut_outcome}
use Rattle.era_top.specs.Runs.{command_of, commands_from, lane_zero, place_of_write, some_cut, task_of_write, FollowJournal, MarksWritten, Write}
use Rattle.era_top.specs.Steps.{Running}
use Rattle.era_top.proofs.Journals.{answered-push, drawn-more, era_after_all-push}
use Rattle.era_top.proofs.RunOrder.{no_marks-valid, opening-legal}
use Rattle.era_top.proofs.MarkSteps.{no_marks-last, none-has}
use Rattle.era_top.proofs.StreamSteps.{era_behind-same, lists-push, never-empty, stream-quiet, written-none}
use Rattle.era_top.proofs.WriteSteps.{commands-more}

pub some_cut-push : (outcomes : List Outcome) (outcome : Outcome) → some_cut outcomes ≡ false → some_cut (outcomes ++ outcome ∷ []) ≡ is_cut_outcome outcome
some_cut-push outcomes outcome none = list_any-append is_cut_outcome outcomes (outcome ∷ []) ∙ rw none (or-right (is_cut_outcome outcome))
  where
    or-right : (b : Bool) → (b || false) ≡ b
    or-right true = refl
    or-right false = refl

-- nothing was written yet
none-written : (g : Geometry) (since block : ℕ) → IsWrittenSince g [] since block → ⊥
none-written g since block written = never-empty written.before written.write written.after written.among

-- nothing was run yet
pub running-none : (g : Geometry) (contents : List ℕ) (marks : BlockMarks) (tells : Bool) (faults : ℕ) (disk : State)
    → marks ≡ no_marks g.sectors g.block_sectors 1
    → Running g contents [] [] marks tells faults faults disk disk (Opened (session_opening g contents) ∷ [])
running-none g contents marks tells faults disk none = rw none (record {
  journal = record {
    opened = refl;
    ongoing = refl;
    legal = opening-legal g contents;
    era = refl;
    answered = refl;
    drawn = tt;
    lists = λ before after list since among asks. absurd (never-empty before list after among);
  };
  between = record {
    quiet = refl;
    follow = record {
      sectors = refl;
      block_sectors = refl;
      valid = no_marks-valid g.sectors g.block_sectors;
      present = refl;
      current = λ block. none-has (blocks_of g.sectors g.block_sectors) block;
      lasts = λ block. refl;
      none_later = λ block later past. refl;
    };
    stream = record {
      stream_era = refl;
      written = λ since block. (
        (λ less. absurd (let e = no_marks-last g.sectors g.block_sectors 1 block in omega arith)),
        (λ written. absurd (none-written g since block written)),
      );
      bounded = λ block. let e = no_marks-last g.sectors g.block_sectors 1 block in omega arith;
      within = λ block past. no_marks-last g.sectors g.block_sectors 1 block;
    };
    fresh = λ number some. record { no_event = refl; no_go = refl };
    no_fault = λ at now. tt;
    untold = λ disk. refl;
  };
  count = refl;
  no_cut = refl;
  kept = refl;
  reads = λ told is block within. ap (λ bytes. block_bytes g.block_sectors bytes block) is;
  clean = λ told block written. absurd (none-written g 1 block written);
})

-- a write out of range changes nothing
pub running-range : (g : Geometry) (contents : List ℕ) (tasks : List Task) (outcomes : List Outcome) (marks : BlockMarks) (tells : Bool) (faults faults' : ℕ) (disk disk' : State) (h : List Happening) (write : Write)
    → Running g contents tasks outcomes marks tells faults faults' disk disk' h → place_of_write g write ≡ None
    → Running g contents (tasks ++ task_of_write write ∷ []) (outcomes ++ OutOfRange ∷ []) marks tells faults faults' disk disk' h
running-range g contents tasks outcomes marks tells faults faults' disk disk' h write run none =
    let n = length tasks in
    let task = task_of_write write in
    let fresh = (run.between.fresh n (omega arith)).no_event in
    let writes_none : block_written g task ≡ None = ap (λ place. option_map (λ p. p.0) place) none in
    let era_same : era_after_all 1 (outcomes ++ OutOfRange ∷ []) ≡ era_after_all 1 outcomes = era_after_all-push 1 outcomes OutOfRange in
    let more = commands-more tasks task in
    record {
      journal = record {
        opened = run.journal.opened;
        ongoing = run.journal.ongoing;
        legal = run.journal.legal;
        era = run.journal.era ∙ sym era_same;
        answered = answered-push g h 0 1 0 tasks outcomes (next_place h) task OutOfRange (next_place h) run.journal.answered (rw none refl)
            (subst (λ k. events_of h (lane_zero k) ≡ []) (let e : n ≡ 0 + n = omega arith in e) fresh) (omega arith);
        drawn = drawn-more tasks task h run.journal.drawn;
        lists = subst (λ commands. ListsNameWritten g h commands) (sym more)
            (lists-push g tasks (command_of n task) h h run.journal.lists (λ m less. refl) (λ since asks. absurd (cc)));
      };
      between = record {
        quiet = run.between.quiet;
        follow = subst (λ era. FollowJournal g marks era h) (sym era_same) run.between.follow;
        stream = rw era_same (subst (λ commands. MarksWritten g commands (era_after_all 1 outcomes) h) (sym more)
            (stream-quiet g (commands_from 0 tasks) (command_of n task) (era_after_all 1 outcomes) (era_after_all 1 outcomes) h h run.between.stream writes_none
            (run.between.stream.stream_era ∙ sym (era_behind-same (commands_from 0 tasks) (command_of n task) refl)) (omega arith) (λ block. refl)));
        fresh = λ number later. run.between.fresh number (let e = length_push tasks task in omega arith);
        no_fault = run.between.no_fault;
        untold = run.between.untold;
      };
      count = length_push outcomes OutOfRange ∙ ap (λ k. k + 1) run.count ∙ sym (length_push tasks task);
      no_cut = some_cut-push outcomes OutOfRange run.no_cut;
      kept = run.kept;
      reads = run.reads;
      clean = λ told block written. run.clean told block
          (written-none g (commands_from 0 tasks) (command_of n task) 1 block writes_none (subst (λ commands. IsWrittenSince g commands 1 block) more written));
    }
