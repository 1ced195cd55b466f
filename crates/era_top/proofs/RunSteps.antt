-- A write that was issued, in a run of commands: acknowledged, or cut.
use Rattle.std.proofs.Common.{◌≡◌, ℕ, ◌+◌, ◌*◌, ◌%◌, ◌<◌, Bool, true, false, ◌&&◌, ◌||◌, ◌==◌, List, [], ◌∷◌, ◌++◌, length, get_or, take, refl, ap, sym, ◌∙◌, subst, arith}
use Rattle.std.specs.Prelude.{if◌then◌else◌, nat_le, nat_lt}
use Rattle.std.proofs.lemmas.List.{length_push}
use Rattle.era_base.specs.declared.geometry.Geometry.{Geometry}
use Rattle.era_base.specs.Bytes.{splice}
use Rattle.era_base.specs.CrashModel.{State}
use Rattle.era_base.specs.Faults.{Rose}
use Rattle.era_model.specs.declared.event.Event.TheVariants.{Done as DoneEvent, Cut as CutEvent}
use Rattle.era_model.specs.declared.history.Happening.{Happening}
use Rattle.era_model.specs.History.{in_flight, next_place}
use Rattle.era_model.specs.Marks.{BlockMarks, with_block}
use Rattle.era_model.specs.Writes.{block_bytes, is_written_at}
use Rattle.era_model.specs.declared.command.Task.{Task}
use Rattle.era_top.specs.declared.outcome.Outcome.{Outcome}
use Rattle.era_top.specs.declared.outcome.Outcome.TheVariants.{Done, Cut}
use Rattle.era_top.specs.Outcomes.{era_after_all}
use Rattle.era_top.specs.Runs.{lane_zero, some_cut, task_of_write, IsJournalOf, IsBetween, Write}
use Rattle.era_top.specs.Steps.{Marks, HoldsWrite, IsTorn, TellsFault, HaveRun, Running}
use Rattle.era_top.proofs.Journals.{same_command, era_after_all-push}
use Rattle.era_top.proofs.WriteMarks.{Issue, IsReady, ready-marked, ready-unmarked}
use Rattle.era_top.proofs.WriteSteps.{IsIssued, ended_with, done-journal, done-between, done-content, cut-journal, cut-counts}
use Rattle.era_top.proofs.BlockWrites.{stored-block, torn-block}
use Rattle.era_top.proofs.Splices.{part-length}
use Rattle.era_top.proofs.RunLoop.{some_cut-push}

or-left-false : (a b : Bool) → (a || b) ≡ false → a ≡ false
or-left-false false b h = refl
or-left-false true b h = absurd (cc)

-- The write that is issued, behind a journal in the era.
abbrev issue_of : Write → ℕ × ℕ → ℕ → Bool → List Happening → Issue
issue_of write place era first h = record { write = write; place = place; era = era; marks = first; start = next_place h }

-- the journal can be made ready for a write, by its block's mark where it needs one
readied : (g : Geometry) (contents : List ℕ) (tasks : List Task) (outcomes : List Outcome) (marks marks' : BlockMarks) (h : List Happening) (write : Write) (first : Bool)
    → IsJournalOf g contents tasks outcomes h → IsBetween g tasks marks (era_after_all 1 outcomes) h → (marked : Marks g write marks marks' first)
    → (journal : List Happening) × IsReady g contents tasks outcomes (issue_of write marked.place (era_after_all 1 outcomes) first h) (with_block marks marked.place.0) h journal
readied g contents tasks outcomes marks marks' h write true journal between marked =
    (_, ready-unmarked g contents tasks outcomes marks h write marked.place journal between marked.placed.found marked.placed.block marked.was marked.lasts)
readied g contents tasks outcomes marks marks' h write false journal between marked =
    (_, ready-marked g contents tasks outcomes marks h write marked.place journal between marked.placed.found marked.placed.block marked.was marked.lasts marked.bounded)

-- a byte that no write in flight covers isn't covered by the one that was cut
not-written : (n : ℕ) (issue : Issue) (h : List Happening) (block offset : ℕ) (told : ℕ) → in_flight h ≡ []
    → is_written_at (in_flight (ended_with n issue (CutEvent (lane_zero n) told) h)) block offset ≡ false
    → ((issue.place.0 == block) && (nat_le (issue.place.1 * 512) offset && nat_lt offset (issue.place.1 * 512 + length issue.write.bytes))) ≡ false
not-written n issue h block offset told quiet outside =
    or-left-false _ _ (rw (same_command n, quiet) at outside)

-- a write that was cut stays in flight
some-flight : (n : ℕ) (issue : Issue) (h : List Happening) (told : ℕ) → in_flight h ≡ [] → in_flight (ended_with n issue (CutEvent (lane_zero n) told) h) ≡ [] → ⊥
some-flight n issue h told quiet empty = let none = rw (same_command n, quiet) at empty in absurd (cc)

-- the write that was issued behind the commands so far
issued-facts : (g : Geometry) (contents : List ℕ) (tasks : List Task) (outcomes : List Outcome) (marks marks' : BlockMarks) (h journal : List Happening) (write : Write) (first : Bool)
    → IsJournalOf g contents tasks outcomes h → (marked : Marks g write marks marks' first) → length write.bytes % 512 ≡ 0
    → IsReady g contents tasks outcomes (issue_of write marked.place (era_after_all 1 outcomes) first h) (with_block marks marked.place.0) h journal
    → IsIssued g contents tasks outcomes (issue_of write marked.place (era_after_all 1 outcomes) first h) (with_block marks marked.place.0) h journal
issued-facts g contents tasks outcomes marks marks' h journal write first was marked whole ready = record {
  ready = ready;
  journal = was;
  era = refl;
  start = refl;
  within = marked.placed.block;
  sector = marked.placed.sector;
  whole = whole;
}

-- one write more was acknowledged
pub running-done : (g : Geometry) (contents : List ℕ) (tasks : List Task) (outcomes : List Outcome) (marks marks' : BlockMarks) (tells : Bool) (faults faults' : ℕ) (disk disk' disk'' : State) (h : List Happening) (write : Write) (first : Bool)
    → Running g contents tasks outcomes marks tells faults faults' disk disk' h → Marks g write marks marks' first → length write.bytes % 512 ≡ 0
    → (tells ≡ true → length disk'.seen ≡ g.sectors * 512) → (tells ≡ true → HoldsWrite write disk' disk'')
    → (h' : List Happening) × Running g contents (tasks ++ task_of_write write ∷ []) (outcomes ++ Done first ∷ []) marks' tells faults faults' disk disk'' h'
running-done g contents tasks outcomes marks marks' tells faults faults' disk disk' disk'' h write first run marked whole sized stored =
    let place = marked.place in
    let era = era_after_all 1 outcomes in
    let made = readied g contents tasks outcomes marks marks' h write first run.journal run.between marked in
    let issue = issue_of write place era first h in
    let issued = issued-facts g contents tasks outcomes marks marks' h made.0 write first run.journal marked whole made.1 in
    let n = length tasks in (
      ended_with n issue (DoneEvent (lane_zero n)) made.0,
      record {
        journal = done-journal g contents tasks outcomes issue (with_block marks place.0) h made.0 issued;
        between = subst (λ m. IsBetween g (tasks ++ task_of_write write ∷ []) m (era_after_all 1 (outcomes ++ Done first ∷ [])) (ended_with n issue (DoneEvent (lane_zero n)) made.0)) (sym marked.now)
            (subst (λ e. IsBetween g (tasks ++ task_of_write write ∷ []) (with_block marks place.0) e (ended_with n issue (DoneEvent (lane_zero n)) made.0)) (sym (era_after_all-push 1 outcomes (Done first)))
            (done-between g contents tasks outcomes issue (with_block marks place.0) h made.0 issued run.between.stream));
        count = length_push outcomes (Done first) ∙ ap (λ k. k + 1) run.count ∙ sym (length_push tasks (task_of_write write));
        no_cut = some_cut-push outcomes (Done first) run.no_cut;
        kept = run.kept;
        reads = λ told is block within.
            done-content n issue made.0 block
            ∙ ap (λ bytes. if place.0 == block then splice bytes (place.1 * 512) write.bytes else bytes) (made.1.same block ∙ run.reads told is block within)
            ∙ sym (ap (λ bytes. block_bytes g.block_sectors bytes block) (stored told).seen
            ∙ stored-block g write place block disk'.seen marked.placed whole (sized told));
        clean = λ told block written. (stored told).clean;
      },
    )

some_cut-last : (outcomes : List Outcome) (first : Bool) (faults : ℕ) → some_cut outcomes ≡ false → some_cut (outcomes ++ Cut first faults ∷ []) ≡ false → ⊥
some_cut-last outcomes first faults none last = absurd (let e : some_cut (outcomes ++ Cut first faults ∷ []) ≡ true = some_cut-push outcomes (Cut first faults) none in cc)

-- a write was cut, and the run ends
pub running-cut : (g : Geometry) (contents : List ℕ) (all tasks : List Task) (outcomes : List Outcome) (marks marks' : BlockMarks) (tells : Bool) (faults faults' faults'' told : ℕ) (disk disk' disk'' : State) (h : List Happening) (write : Write) (first : Bool)
    → Running g contents tasks outcomes marks tells faults faults' disk disk' h → Marks g write marks marks' first → length write.bytes % 512 ≡ 0
    → TellsFault faults' faults'' told → (tells ≡ true → IsTorn write disk' disk'')
    → take (length tasks + 1) all ≡ tasks ++ task_of_write write ∷ [] → length tasks < length all
    → (h' : List Happening) × HaveRun g contents all (outcomes ++ Cut first told ∷ []) tells marks'.era faults faults'' disk disk'' h'
running-cut g contents all tasks outcomes marks marks' tells faults faults' faults'' told disk disk' disk'' h write first run marked whole fault torn front within =
    let place = marked.place in
    let era = era_after_all 1 outcomes in
    let made = readied g contents tasks outcomes marks marks' h write first run.journal run.between marked in
    let issue = issue_of write place era first h in
    let issued = issued-facts g contents tasks outcomes marks marks' h made.0 write first run.journal marked whole made.1 in
    let n = length tasks in
    let size : length (outcomes ++ Cut first told ∷ []) ≡ length tasks + 1 = length_push outcomes (Cut first told) ∙ ap (λ k. k + 1) run.count in
    let rose : Rose faults told = subst (λ k. Rose k told) run.kept (subst (λ k. Rose faults' k) (sym fault.told_now) fault.rose) in (
      ended_with n issue (CutEvent (lane_zero n) told) made.0,
      record {
        count = rw size (omega arith);
        whole = λ none. absurd (some_cut-last outcomes first told run.no_cut none);
        journal = rw (size, front) (cut-journal g contents tasks outcomes issue (with_block marks place.0) h made.0 told issued);
        present = ap (λ m. m.era) marked.now ∙ run.between.follow.present ∙ sym made.1.era;
        counts = cut-counts n issue made.0 told faults faults'' made.1.no_fault rose (let e = fault.told_now in omega arith);
        rose = λ _. subst (λ k. Rose faults k) fault.told_now rose;
        kept = λ none. absurd (some_cut-last outcomes first told run.no_cut none);
        quiet = λ none. absurd (some_cut-last outcomes first told run.no_cut none);
        stopped = λ _ empty. some-flight n issue made.0 told made.1.quiet empty;
        last = λ _. record { before = outcomes; marks = first; last = ap (λ k. outcomes ++ Cut first k ∷ []) fault.told_now };
        reads = λ tell is block within_origin.
            let same = made.1.same block ∙ run.reads tell is block within_origin in
            record {
              size = part-length (block * g.block_sectors * 512) (g.block_sectors * 512) disk''.seen disk'.seen (torn tell).bytes ∙ ap length (sym same);
              same = λ offset outside.
                  torn-block g write place block offset disk' disk'' marked.placed whole (torn tell) (not-written n issue made.0 block offset told made.1.quiet outside)
                  ∙ ap (λ bytes. get_or bytes offset 0) (sym same);
            };
        clean = λ tell none. absurd (some_cut-last outcomes first told run.no_cut none);
      },
    )
