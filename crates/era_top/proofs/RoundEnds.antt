-- How a session ends at a round that was run: by a write that was cut, or by the sink's failure at its replies.
use Rattle.std.proofs.Common.{◌≡◌, ℕ, ◌+◌, true, false, List, [], ◌∷◌, ◌++◌, length, take, Option, Some, All, refl, ap, sym, ◌∙◌, subst, append_assoc, length-append, inl, inr, arith}
use Rattle.std.proofs.Math.Seq.{take-append-add}
use Rattle.std.proofs.lemmas.List.{length-map, map-append, take-map, take_all}
use Rattle.std.proofs.lemmas.List.Folds.{list_any-append}
use Rattle.std.proofs.lemmas.List.Sums.{sum_by-append}
use Rattle.era_base.specs.declared.geometry.Geometry.{Geometry}
use Rattle.era_base.specs.CrashModel.{State}
use Rattle.era_base.specs.Streams.{GivesFront}
use Rattle.era_model.specs.declared.command.Command.{Command}
use Rattle.era_model.specs.History.{in_flight, next_place}
use Rattle.era_model.specs.Transcript.{ReadToEnd, end_line}
use Rattle.era_plan.specs.Reading.{HasGivenRound}
use Rattle.era_plan.specs.declared.stream_reader.Lines.{Lines}
use Rattle.era_top.specs.declared.outcome.Outcome.{Outcome}
use Rattle.era_top.specs.declared.progress.Progress.{Progress}
use Rattle.era_tools.specs.declared.status.Status.{Status}
use Rattle.era_tools.specs.declared.status.Status.TheVariants.{Fault, Sink}
use Rattle.era_top.specs.Answering.{EndsAtRound, HasNoRoom, HasRunRound, RoundAround}
use Rattle.era_top.specs.Outcomes.{answers_text, event_count, is_cut_outcome, outcome_line, total_events}
use Rattle.era_top.specs.Runs.{some_cut, tasks_of, AreAnswered, AreNumbered, IsJournalOf, IsServedCommand}
use Rattle.era_top.specs.Endings.{GoesOn, HasRunLast}
use Rattle.era_top.specs.Sessions.{Around, joined}
use Rattle.era_tools.specs.Printing.{Prints}
use Rattle.era_top.specs.Steps.{HaveRunOn}
use Rattle.era_top.proofs.Gives.{gives_front-within}
use Rattle.era_top.proofs.RoundRuns.{joined-push}
use Rattle.era_top.proofs.RunLaws.{answered-fault}
use Rattle.era_top.proofs.SessionSteps.{RanRounds, behind-text, prints-behind, session-right}
use Rattle.era_top.proofs.SessionEnds.{comes-next, goes-no_room}
use Rattle.era_top.proofs.Numbered.{numbered-behind, numbered-next, numbered-take}
use Rattle.era_top.proofs.SoFar.{SoFar, GivesNext, answers-behind, behind_read, behind_run, few-commands}

-- the replies to commands that were run are those of the first ones
answers-take : (place : ℕ) (commands : List Command) (outcomes : List Outcome) → answers_text place (take (length outcomes) commands) outcomes ≡ answers_text place commands outcomes
answers-take place commands [] = refl
answers-take place [] (outcome ∷ outcomes) = refl
answers-take place (command ∷ commands) (outcome ∷ outcomes) =
    ap (λ rest. outcome_line command.line place outcome ++ rest) (answers-take (place + event_count outcome) commands outcomes)

module _ (g : Geometry) (contents : List ℕ) (around : Around) (given given' given'' : Option (List ℕ)) (session session' : Progress) (lines lines' : Lines) (round : List Command)
    (left : Option (List ℕ)) (faults : ℕ) (disk_faults : ℕ) (disk : State) (outcomes : List Outcome) where
  abbrev after : Around
  after = behind_run (behind_read around left faults) disk_faults disk

  abbrev here : RoundAround
  here = record {
    session = session;
    session' = session';
    tells = around.tells;
    faults = around.disk_faults';
    faults' = disk_faults;
    disk = around.disk';
    disk' = disk;
    given = given';
    given' = given'';
  }

  -- the rounds with the part of the last one that was run
  abbrev with_last : List (List Command) → List (List Command)
  with_last rounds = rounds ++ take (length outcomes) round ∷ []

  -- the run of all rounds
  run-on : (so : SoFar g contents around given given' session lines) → HasGivenRound so.at round lines'.counts → HasRunRound g round here outcomes
      → HaveRunOn g contents (tasks_of (joined so.rounds) ++ tasks_of round) (so.outcomes ++ outcomes) session'.marks around.tells around.disk_faults disk_faults around.disk disk
  run-on so is_round run =
      run.behind contents (tasks_of (joined so.rounds)) so.outcomes around.disk_faults around.disk so.journal (few-commands lines' so.rounds round so.at so.same is_round) so.run

  cut-all : (so : SoFar g contents around given given' session lines) → some_cut outcomes ≡ true → some_cut (so.outcomes ++ outcomes) ≡ true
  cut-all so cut = list_any-append is_cut_outcome so.outcomes outcomes ∙ rw (so.run.no_cut) cut

  -- what is known of it
  ran-part : (so : SoFar g contents around given given' session lines) (is_round : HasGivenRound so.at round lines'.counts) → All IsServedCommand round → (run : HasRunRound g round here outcomes)
      → RanRounds g contents after (with_last so.rounds) (so.outcomes ++ outcomes) (run-on so is_round run).journal
  ran-part so is_round served run =
      let commands = joined so.rounds in
      let tasks = tasks_of commands in
      let on = run-on so is_round run in
      let n = length outcomes in
      let count : length (so.outcomes ++ outcomes) ≡ length tasks + n = length-append so.outcomes outcomes ∙ ap (λ k. k + n) so.run.count in
      let all = joined-push so.rounds (take n round) in
      let front : take (length (so.outcomes ++ outcomes)) (tasks ++ tasks_of round) ≡ tasks_of (joined (with_last so.rounds)) =
      ap (λ k. take k (tasks ++ tasks_of round)) count
      ∙ take-append-add tasks (tasks_of round) n
      ∙ ap (λ l. tasks ++ l) (take-map (λ (command : Command). command.task) n round)
      ∙ sym (map-append (λ (command : Command). command.task) commands (take n round))
      ∙ sym (ap tasks_of all) in
      record {
        journal = subst (λ ts. IsJournalOf g contents ts (so.outcomes ++ outcomes) on.journal) front on.run.journal;
        numbered = subst (AreNumbered 0) (sym all)
            (numbered-behind commands (take n round) so.numbered (numbered-take n (length commands) round (numbered-next so.at commands round lines' so.same so.numbered is_round served)));
        counts = on.run.counts;
        reads = on.run.reads;
      }

  -- the rounds that were run are the first ones of the stream
  last : (so : SoFar g contents around given given' session lines) (is_round : HasGivenRound so.at round lines'.counts) (run : HasRunRound g round here outcomes)
      → GivesNext lines around.left' round lines' left → faults ≡ around.source_faults'
      → HasRunLast after (record { journal = (run-on so is_round run).journal; rounds = with_last so.rounds; stop = ReadToEnd })
  last so is_round run gives kept = record {
    before = so.rounds;
    round = round;
    answered = length outcomes;
    rounds = refl;
    stream = comes-next g contents around given given' given'' session lines left faults Sink so round lines' gives;
    whole = λ empty. all-answered empty;
    kept = kept ∙ so.kept;
  }
    where
      all-answered : in_flight (run-on so is_round run).journal ≡ [] → take (length outcomes) round ≡ round
      all-answered empty = elim (some_cut outcomes) as (λ flag. some_cut outcomes ≡ flag → take (length outcomes) round ≡ round) [
        | true ↦ λ cut. absurd ((run-on so is_round run).run.stopped (cut-all so cut) empty)
        | false ↦ λ none. take_all (length outcomes) round (let e = run.stops.whole none in omega arith)
      ] refl

  -- the text of all replies, and what comes behind
  text-is : (so : SoFar g contents around given given' session lines) (rest : List ℕ)
      → answers_text 0 (joined (with_last so.rounds)) (so.outcomes ++ outcomes) ++ rest
      ≡ answers_text 0 (joined so.rounds) so.outcomes ++ (answers_text session.place round outcomes ++ rest)
  text-is so rest =
      let commands = joined so.rounds in
      ap (λ l. answers_text 0 l (so.outcomes ++ outcomes) ++ rest) (joined-push so.rounds (take (length outcomes) round))
      ∙ ap (λ text. text ++ rest) (answers-behind commands (take (length outcomes) round) so.outcomes outcomes (so.run.count ∙ length-map commands (λ (command : Command). command.task)))
      ∙ ap (λ text. (answers_text 0 commands so.outcomes ++ text) ++ rest) (answers-take (total_events so.outcomes) round outcomes)
      ∙ ap (λ n. (answers_text 0 commands so.outcomes ++ answers_text n round outcomes) ++ rest) (sym so.place)
      ∙ append_assoc (answers_text 0 commands so.outcomes) (answers_text session.place round outcomes) rest

  -- a write was cut
  pub goes-cut : (so : SoFar g contents around given given' session lines) → HasGivenRound so.at round lines'.counts → All IsServedCommand round → GivesNext lines around.left' round lines' left → faults ≡ around.source_faults'
      → (status : Status) → HasRunRound g round here outcomes → some_cut outcomes ≡ true
      → Prints given' given'' (answers_text session.place round outcomes ++ end_line session'.marks.era (session.place + total_events outcomes)) Fault status
      → GoesOn g contents after given given'' status
  goes-cut so is_round served gives kept status run cut printed =
      let on = run-on so is_round run in
      let rounds = with_last so.rounds in
      let ran = ran-part so is_round served run in
      let is = on.run.last (cut-all so cut) in
      let total : session.place + total_events outcomes ≡ total_events (so.outcomes ++ outcomes) = ap (λ n. n + total_events outcomes) so.place ∙ sym (sum_by-append event_count so.outcomes outcomes) in
      record {
        session = record { journal = on.journal; rounds = rounds; stop = ReadToEnd };
        ended = Fault;
        right = session-right g contents after rounds (so.outcomes ++ outcomes) on.journal ReadToEnd ran;
        cause = (
          last so is_round run gives kept,
          answered-fault g on.journal 0 1 0 (joined rounds) is.before is.marks disk_faults (next_place on.journal) ran.numbered
              (subst (λ went. AreAnswered g on.journal 0 1 0 (tasks_of (joined rounds)) went (next_place on.journal)) is.last ran.journal.answered),
          on.run.rose (cut-all so cut),
          refl,
        );
        printed = subst (λ text. Prints given given'' text Fault status)
            (sym (behind-text g contents after rounds (so.outcomes ++ outcomes) on.journal ReadToEnd session'.marks.era ran on.run.present
            ∙ text-is so (end_line session'.marks.era (total_events (so.outcomes ++ outcomes)))))
            (prints-behind given given' given'' (answers_text 0 (joined so.rounds) so.outcomes) (answers_text session.place round outcomes ++ end_line session'.marks.era (total_events (so.outcomes ++ outcomes)))
            Fault status so.told
            (subst (λ n. Prints given' given'' (answers_text session.place round outcomes ++ end_line session'.marks.era n) Fault status) total printed));
      }

  -- the sink failed
  pub goes-lost : (so : SoFar g contents around given given' session lines) → HasGivenRound so.at round lines'.counts → All IsServedCommand round → GivesNext lines around.left' round lines' left → faults ≡ around.source_faults'
      → (status : Status) → HasRunRound g round here outcomes → status ≡ Sink
      → ((before : List ℕ) → given' ≡ Some before → GivesFront before (answers_text session.place round outcomes) given'')
      → GoesOn g contents after given given'' status
  goes-lost so is_round served gives kept status run ended front =
      let on = run-on so is_round run in
      let rounds = with_last so.rounds in
      let ran = ran-part so is_round served run in
      record {
        session = record { journal = on.journal; rounds = rounds; stop = ReadToEnd };
        ended = Sink;
        right = session-right g contents after rounds (so.outcomes ++ outcomes) on.journal ReadToEnd ran;
        cause = inr (last so is_round run gives kept);
        printed = inr (
          ended,
          (λ before is.
              subst (λ text. GivesFront before text given'')
              (sym (behind-text g contents after rounds (so.outcomes ++ outcomes) on.journal ReadToEnd session'.marks.era ran on.run.present
              ∙ text-is so (end_line session'.marks.era (total_events (so.outcomes ++ outcomes)))))
              (gives_front-within before (answers_text 0 (joined so.rounds) so.outcomes) (answers_text session.place round outcomes) _ given''
              (front (before ++ answers_text 0 (joined so.rounds) so.outcomes) (so.told before is)))),
        );
      }

  -- memory for the round was refused
  goes-lacking : (so : SoFar g contents around given given' session lines) → HasGivenRound so.at round lines'.counts → All IsServedCommand round → GivesNext lines around.left' round lines' left → faults ≡ around.source_faults'
      → (status : Status) → HasNoRoom here status → GoesOn g contents after given given'' status
  goes-lacking so is_round served gives kept status none =
      subst (λ (d : State). GoesOn g contents (behind_run (behind_read around left faults) disk_faults d) given given'' status) (sym none.same)
      (subst (λ n. GoesOn g contents (behind_run (behind_read around left faults) n around.disk') given given'' status) (sym none.kept)
      (goes-no_room g contents around given given' given'' session lines left faults status so round lines' gives kept none.printed))

-- however the session ended at a round
pub goes-at : (g : Geometry) (contents : List ℕ) (around : Around) (given given' given'' : Option (List ℕ)) (session session' : Progress) (lines lines' : Lines) (round : List Command)
    (left : Option (List ℕ)) (faults : ℕ) (disk_faults : ℕ) (disk : State) (status : Status)
    → (so : SoFar g contents around given given' session lines) → HasGivenRound so.at round lines'.counts → All IsServedCommand round → GivesNext lines around.left' round lines' left → faults ≡ around.source_faults'
    → EndsAtRound g round (record {
      session = session;
      session' = session';
      tells = around.tells;
      faults = around.disk_faults';
      faults' = disk_faults;
      disk = around.disk';
      disk' = disk;
      given = given';
      given' = given'';
    }) status
    → GoesOn g contents (behind_run (behind_read around left faults) disk_faults disk) given given'' status
goes-at g contents around given given' given'' session session' lines lines' round left faults disk_faults disk status so is_round served gives kept ended = elim ended [
  | inl none ↦ goes-lacking g contents around given given' given'' session session' lines lines' round left faults disk_faults disk [] so is_round served gives kept status none
  | inr ran ↦ elim ran [
    | inl cut ↦ goes-cut g contents around given given' given'' session session' lines lines' round left faults disk_faults disk cut.outcomes so is_round served gives kept status cut.run cut.cut cut.printed
    | inr lost ↦ goes-lost g contents around given given' given'' session session' lines lines' round left faults disk_faults disk lost.outcomes so is_round served gives kept status lost.run lost.ended lost.front
  ]
]
