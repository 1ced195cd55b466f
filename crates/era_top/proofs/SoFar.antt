-- A session between two rounds: what was run, answered and read so far.
use Rattle.std.proofs.Common.{◌≡◌, ℕ, ◌+◌, ◌≤◌, ◌||◌, Bool, true, false, List, [], ◌∷◌, ◌++◌, length, Option, Some, All, refl, ap, sym, ◌∙◌, subst, append_assoc, length-append, arith}
use Rattle.std.proofs.lemmas.List.{append-nil, length-map, map-append}
use Rattle.std.proofs.lemmas.List.Folds.{list_any-append}
use Rattle.std.proofs.lemmas.List.Sums.{sum_by-append, sum_by-cons}
use Rattle.era_base.specs.declared.geometry.Geometry.{Geometry}
use Rattle.era_base.specs.CrashModel.{State}
use Rattle.era_model.specs.declared.command.Command.{Command}
use Rattle.era_model.specs.declared.history.Happening.{Happening}
use Rattle.era_model.specs.declared.history.Happening.TheVariants.{Opened}
use Rattle.era_model.specs.Journal.{session_opening}
use Rattle.era_model.specs.Marks.{no_marks}
use Rattle.era_plan.specs.Reading.{GivesRound, HasGiven, HasGivenRound, IsToRead, ReadsRound, StandsAt, behind_round, has_ended, lines_read, taken_by}
use Rattle.era_plan.specs.Stream.{Standing, Stream, StreamEnd, at_beginning, with_round}
use Rattle.era_plan.specs.declared.round.Round.{Round}
use Rattle.era_plan.specs.declared.stream_reader.Lines.{Lines}
use Rattle.era_top.specs.declared.outcome.Outcome.{Outcome}
use Rattle.era_top.specs.declared.progress.Progress.{Progress}
use Rattle.era_top.specs.Answering.{HasAnswered}
use Rattle.era_top.specs.Outcomes.{answers_text, event_count, is_cut_outcome, lacks_memory, outcome_line, total_events}
use Rattle.era_top.specs.Runs.{some_cut, some_lack, tasks_of, AreNumbered, IsServedCommand}
use Rattle.era_top.specs.Endings.{StandsBehind, with_rounds}
use Rattle.era_top.specs.Sessions.{Around, joined}
use Rattle.era_top.specs.Steps.{Running}
use Rattle.era_top.proofs.Numbered.{numbered-behind, numbered-next}
use Rattle.era_top.proofs.RoundRuns.{joined-push}
use Rattle.era_top.proofs.RunLoop.{running-none}
use Rattle.era_top.proofs.SessionSteps.{total-few}

-- A text was read so far: these rounds of it, up to where the reader stands.
pub record ReadSoFar (rounds : List (List Command)) (at : Standing) (text : List ℕ) (lines : Lines) (left : Option (List ℕ)) : Type 0 where
  pub rest : List ℕ
  pub ahead : IsToRead lines left rest
  pub stands : StandsBehind rounds text rest at

-- What was run, answered and read so far.
pub record SoFar (g : Geometry) (contents : List ℕ) (around : Around) (given given' : Option (List ℕ)) (session : Progress) (lines : Lines) : Type 0 where
  pub rounds : List (List Command)
  pub outcomes : List Outcome
  pub journal : List Happening
  pub at : Standing
  pub run : Running g contents (tasks_of (joined rounds)) outcomes session.marks around.tells around.disk_faults around.disk_faults' around.disk around.disk' journal
  pub numbered : AreNumbered 0 (joined rounds)
  pub stands : StandsAt lines at
  pub same : at.session ≡ joined rounds
  pub read : (text : List ℕ) → around.left ≡ Some text → ReadSoFar rounds at text lines around.left'
  pub kept : around.source_faults' ≡ around.source_faults
  pub place : session.place ≡ total_events outcomes
  pub lacked : session.lacked ≡ some_lack outcomes
  pub told : (before : List ℕ) → given ≡ Some before → given' ≡ Some (before ++ answers_text 0 (joined rounds) outcomes)

-- more replies
answers-append : (place : ℕ) (commands more : List Command) (outcomes others : List Outcome) → length outcomes ≡ length commands
    → answers_text place (commands ++ more) (outcomes ++ others) ≡ answers_text place commands outcomes ++ answers_text (place + total_events outcomes) more others
answers-append place [] more [] others same = ap (λ n. answers_text n more others) (let e : place ≡ place + 0 = omega arith in e)
answers-append place [] more (outcome ∷ outcomes) others same = absurd (omega (arith, same))
answers-append place (command ∷ commands) more [] others same = absurd (omega (arith, same))
answers-append place (command ∷ commands) more (outcome ∷ outcomes) others same =
    let reply = outcome_line command.line place outcome in
    let total : total_events (outcome ∷ outcomes) ≡ event_count outcome + total_events outcomes = sum_by-cons event_count outcome outcomes in
    ap (λ rest. reply ++ rest)
    (answers-append (place + event_count outcome) commands more outcomes others (omega (arith, same))
    ∙ ap (λ n. answers_text (place + event_count outcome) commands outcomes ++ answers_text n more others)
    (let e : place + event_count outcome + total_events outcomes ≡ place + total_events (outcome ∷ outcomes) = omega (arith, total) in e))
    ∙ sym (append_assoc reply _ _)

-- and so behind those of a whole session
pub answers-behind : (commands more : List Command) (outcomes others : List Outcome) → length outcomes ≡ length commands
    → answers_text 0 (commands ++ more) (outcomes ++ others) ≡ answers_text 0 commands outcomes ++ answers_text (total_events outcomes) more others
answers-behind commands more outcomes others same =
    answers-append 0 commands more outcomes others same
    ∙ ap (λ n. answers_text 0 commands outcomes ++ answers_text n more others) (let e : 0 + total_events outcomes ≡ total_events outcomes = omega arith in e)

-- A stream of rounds that ends so.
abbrev pub stream_of : List (List Command) → StreamEnd → Stream
stream_of rounds end = record { rounds = rounds; end = end }

-- the streams behind more rounds
pub with-rounds-push : (rounds : List (List Command)) (round : List Command) (stream : Stream)
    → with_rounds rounds (with_round round stream) ≡ with_rounds (rounds ++ round ∷ []) stream
with-rounds-push rounds round stream = ap (λ all. stream_of all stream.end) (sym (append_assoc rounds (round ∷ []) stream.rounds))

-- nothing was run yet
pub so_far-none : (g : Geometry) (contents : List ℕ) (around : Around) (given : Option (List ℕ)) (session : Progress) (lines : Lines)
    → session.marks ≡ no_marks g.sectors g.block_sectors 1 → session.place ≡ 0 → session.lacked ≡ false
    → StandsAt lines at_beginning → taken_by lines ≡ [] → has_ended lines ≡ false
    → around.left' ≡ around.left → around.source_faults' ≡ around.source_faults → around.disk_faults' ≡ around.disk_faults → around.disk' ≡ around.disk
    → SoFar g contents around given given session lines
so_far-none g contents around given session lines marks place lacked stands taken going left kept faults disk = record {
  rounds = [];
  outcomes = [];
  journal = Opened (session_opening g contents) ∷ [];
  at = at_beginning;
  run = rw (faults, disk) (running-none g contents session.marks around.tells around.disk_faults around.disk marks);
  numbered = tt;
  stands = stands;
  same = refl;
  read = λ text is. record {
    rest = text;
    ahead = record {
      ahead = record { rest = text; told = left ∙ is; joined = ap (λ front. front ++ text) taken };
      behind_end = λ ended. absurd (let no : true ≡ false = sym ended ∙ going in cc);
    };
    stands = record { between = refl; stream = refl };
  };
  kept = kept;
  place = place;
  lacked = lacked;
  told = λ before is. is ∙ ap (λ bytes. Some bytes) (sym (append-nil before));
}

-- so few events were drawn
pub place-few : (g : Geometry) (contents : List ℕ) (around : Around) (given given' : Option (List ℕ)) (session : Progress) (lines : Lines) → SoFar g contents around given given' session lines
    → session.place ≤ 262144
place-few g contents around given given' session lines so =
    let total = total-few so.outcomes in
    let count = length-map (joined so.rounds) (λ (command : Command). command.task) in
    let same = ap length so.same in
    omega (arith, so.place, total, so.run.count, count, same, so.stands.limits.commands)

-- The outside of a session, after more was read.
abbrev pub behind_read : Around → Option (List ℕ) → ℕ → Around
behind_read around left faults = record {
  left = around.left;
  left' = left;
  source_faults = around.source_faults;
  source_faults' = faults;
  disk_faults = around.disk_faults;
  disk_faults' = around.disk_faults';
  tells = around.tells;
  disk = around.disk;
  disk' = around.disk';
}

-- The outside of a session, after more was run.
abbrev pub behind_run : Around → ℕ → State → Around
behind_run around faults disk = record {
  left = around.left;
  left' = around.left';
  source_faults = around.source_faults;
  source_faults' = around.source_faults';
  disk_faults = around.disk_faults;
  disk_faults' = faults;
  tells = around.tells;
  disk = around.disk;
  disk' = disk;
}

-- What the reader did: it gave a round of what was to be read.
abbrev pub GivesNext : Lines → Option (List ℕ) → List Command → Lines → Option (List ℕ) → Type 0
GivesNext lines left round lines' left' =
    (text : List ℕ) (at : Standing) → StandsAt lines at → IsToRead lines left text → ReadsRound at text round (lines_read lines') (has_ended lines') (taken_by lines') left'

-- the round that was given, by its commands
pub given-round : (at : Standing) (lines' : Lines) (option : Option Round) (round : Round) (commands : List Command) → option ≡ Some round → commands ≡ round.commands
    → HasGiven at lines' option → HasGivenRound at commands lines'.counts
given-round at lines' option round commands is same given = subst (λ l. HasGivenRound at l lines'.counts) (sym same) (subst (HasGiven at lines') is given)

pub given-next : (lines : Lines) (left : Option (List ℕ)) (lines' : Lines) (left' : Option (List ℕ)) (option : Option Round) (round : Round) (commands : List Command)
    → option ≡ Some round → commands ≡ round.commands
    → ((text : List ℕ) (at : Standing) → StandsAt lines at → IsToRead lines left text → GivesRound at text lines' left' option)
    → GivesNext lines left commands lines' left'
given-next lines left lines' left' option round commands is same gives = λ text at stands ahead.
    subst (λ l. ReadsRound at text l (lines_read lines') (has_ended lines') (taken_by lines') left') (sym same)
    (subst (GivesRound at text lines' left') is (gives text at stands ahead))

-- what isn't true
pub false-unless : (b : Bool) → (b ≡ true → ⊥) → b ≡ false
false-unless true never = absurd (never refl)
false-unless false never = refl

-- how many commands there are with a round more
pub few-commands : (lines' : Lines) (rounds : List (List Command)) (round : List Command) (at : Standing) → at.session ≡ joined rounds → HasGivenRound at round lines'.counts
    → length (tasks_of (joined rounds)) + length (tasks_of round) ≤ 65536
few-commands lines' rounds round at same given =
    let a = length-map (joined rounds) (λ (command : Command). command.task) in
    let b = length-map round (λ (command : Command). command.task) in
    let c = ap length same in
    let d = length-append at.session round in
    omega (arith, a, b, c, d, given.stands.limits.commands)

module _ (g : Geometry) (contents : List ℕ) (around : Around) (given given' given'' : Option (List ℕ)) (session session' : Progress) (lines lines' : Lines) (round : List Command)
    (left : Option (List ℕ)) (faults : ℕ) (disk_faults : ℕ) (disk : State) where
  -- a round was run and answered
  pub so_far-next : (so : SoFar g contents around given given' session lines) → HasGivenRound so.at round lines'.counts → All IsServedCommand round
      → GivesNext lines around.left' round lines' left → faults ≡ around.source_faults'
      → HasAnswered g round (record {
        session = session;
        session' = session';
        tells = around.tells;
        faults = around.disk_faults';
        faults' = disk_faults;
        disk = around.disk';
        disk' = disk;
        given = given';
        given' = given'';
      })
      → SoFar g contents (behind_run (behind_read around left faults) disk_faults disk) given given'' session' lines'
  so_far-next so is_round served gives kept answered =
      let few = few-commands lines' so.rounds round so.at so.same is_round in
      let commands = joined so.rounds in
      let all = joined-push so.rounds round in
      let tasks : tasks_of commands ++ tasks_of round ≡ tasks_of (joined (so.rounds ++ round ∷ [])) = sym (ap tasks_of all ∙ map-append (λ (command : Command). command.task) commands round) in
      let ran = answered.run.behind contents (tasks_of commands) so.outcomes around.disk_faults around.disk so.journal few so.run in
      let lacks : some_lack (so.outcomes ++ answered.outcomes) ≡ (some_lack so.outcomes || some_lack answered.outcomes) = list_any-append lacks_memory so.outcomes answered.outcomes in
      let cuts : some_cut (so.outcomes ++ answered.outcomes) ≡ false = no-cut so answered.outcomes answered.no_cut in
      record {
        rounds = so.rounds ++ round ∷ [];
        outcomes = so.outcomes ++ answered.outcomes;
        journal = ran.journal;
        at = behind_round so.at round (lines_read lines');
        run = subst (λ ts. Running g contents ts (so.outcomes ++ answered.outcomes) session'.marks around.tells around.disk_faults disk_faults around.disk disk ran.journal) tasks (ran.on cuts);
        numbered = subst (AreNumbered 0) (sym all) (numbered-behind commands round so.numbered
            (numbered-next so.at commands round lines' so.same so.numbered is_round served));
        stands = is_round.stands;
        same = ap (λ l. l ++ round) so.same ∙ sym all;
        read = λ text is.
            let was = so.read text is in
            let now = gives was.rest so.at so.stands was.ahead in
            record {
              rest = now.rest;
              ahead = now.ahead;
              stands = record {
                between = refl;
                stream = was.stands.stream ∙ ap (with_rounds so.rounds) now.goes ∙ with-rounds-push so.rounds round _;
              };
            };
        kept = kept ∙ so.kept;
        place = answered.place ∙ ap (λ n. n + total_events answered.outcomes) so.place ∙ sym (sum_by-append event_count so.outcomes answered.outcomes);
        lacked = answered.lacked ∙ ap (λ b. b || some_lack answered.outcomes) so.lacked ∙ sym lacks;
        told = λ before is.
            answered.told (before ++ answers_text 0 commands so.outcomes) (so.told before is)
            ∙ ap (λ bytes. Some bytes)
            (append_assoc before (answers_text 0 commands so.outcomes) (answers_text session.place round answered.outcomes)
            ∙ ap (λ bytes. before ++ bytes)
            (ap (λ n. answers_text 0 commands so.outcomes ++ answers_text n round answered.outcomes) so.place
            ∙ sym (answers-behind commands round so.outcomes answered.outcomes (so.run.count ∙ length-map commands (λ (command : Command). command.task)))
            ∙ ap (λ l. answers_text 0 l (so.outcomes ++ answered.outcomes)) (sym all)));
      }
    where
      no-cut : (so : SoFar g contents around given given' session lines) (outcomes : List Outcome) → some_cut outcomes ≡ false → some_cut (so.outcomes ++ outcomes) ≡ false
      no-cut so outcomes none = list_any-append is_cut_outcome so.outcomes outcomes ∙ rw (so.run.no_cut) none
