-- The rounds so far: what they came to, where the reader stands behind them, and what the next one or the stop makes of them.
use Rattle.std.proofs.Common.{◌≡◌, ℕ, ◌≤◌, true, false, List, [], ◌∷◌, ◌++◌, length, All, Option, Some, refl, ap, sym, ◌∙◌, subst, inl, inr, append_assoc, append-nil, arith}
use Rattle.std.proofs.lemmas.List.{length-map, map-append}
use Rattle.era_base.specs.Faults.{Rose}
use Rattle.era_base.specs.declared.disk.Disk.{Ghosts}
use Rattle.era_line.specs.Lines.{lines_of}
use Rattle.era_line.specs.TextBuffer.{IsEmpty}
use Rattle.era_model.specs.declared.command.Command.{Command}
use Rattle.era_plan.specs.Errors.{HasErrorCause}
use Rattle.era_plan.specs.Reading.{AreNext, FailsRound, GivesRound, HasGiven, HasGivenRound, HasNoRound, IsToRead, ReadsRound, StandsAt, behind_round, has_ended, lines_read, taken_by}
use Rattle.era_plan.specs.Stream.{AtEnd, RefusedAt, Standing, Stream, StreamEnd, stream_from, with_round}
use Rattle.era_plan.specs.declared.round.PlanError.{PlanError}
use Rattle.era_plan.specs.declared.round.PlanError.TheVariants.{Line as LineRefused, Source as SourceFailed, Memory as NoMemory}
use Rattle.era_plan.specs.declared.round.Round.{Round}
use Rattle.era_plan.specs.declared.stream_reader.Lines.{Lines}
use Rattle.era_serve.specs.Answers.{some_fault_in, some_memory_in}
use Rattle.era_serve.specs.Lanes.{IsFirstElsewhere, IsOfLane, lane_of}
use Rattle.era_serve.specs.Replying.{HasAnswered, HasMarked, IsGivenBy, Told}
use Rattle.era_serve.specs.Stops.{Around, GivesReplies, ServesRounds, StopsBy, commands_in, not_yet_at, stop_of, stopped_with}
use Rattle.era_serve.specs.Streams.{ComesNext, GoesOnWith, StandsBehind, StreamIs, all_commands, with_rounds}
use Rattle.era_serve.specs.declared.replies.Replies.{Replies}
use Rattle.era_serve.specs.declared.stop.Stop.{Stop}
use Rattle.era_serve.specs.declared.stop.Stop.TheVariants.{Read, Line, Source, Memory, Sink}
use Rattle.era_serve.proofs.ServedSteps.{commands-then, marked-then, served-then, text-then}
use Rattle.era_serve.proofs.SessionLane.{OneLane, one-lane}
use Rattle.era_served.specs.Served.{HasServedAll, Served, commands_of, joined, served_text}
use Rattle.era_session.specs.Sessions.{SessionFits}
use Rattle.era_session.specs.declared.session.Session.{Session}

-- A text was read so far: these rounds of it, up to where the reader stands.
pub record ReadSoFar (rounds : List (List Command)) (at : Standing) (text : List ℕ) (lines : Lines) (left : Option (List ℕ)) : Type 0 where
  pub rest : List ℕ
  pub ahead : IsToRead lines left rest
  pub stands : StandsBehind rounds text rest at

-- What was run, answered and read so far.
pub record SoFar {D : Type 0} (disk : Ghosts D) (first now : Session D) (around : Around) (replies : Replies) (lines : Lines) (lane : Option ℕ) : Type 0 where
  pub rounds : List (List Served)
  pub at : Standing
  pub all : HasServedAll disk (joined rounds) first now
  pub fits : SessionFits disk now
  pub stands : StandsAt lines at
  pub same : at.session ≡ commands_of (joined rounds)
  pub lane_is : lane ≡ lane_of (commands_of (joined rounds))
  pub one : OneLane (commands_of (joined rounds))
  pub read : (text : List ℕ) → around.left ≡ Some text → ReadSoFar (commands_in rounds) at text lines around.left'
  pub kept : around.source_faults' ≡ around.source_faults
  pub told : (before : List ℕ) → around.given ≡ Some before → around.given' ≡ Some (before ++ served_text (joined rounds))
  pub quiet : around.sink_faults' ≡ around.sink_faults
  pub empty : IsEmpty replies.text
  pub holds : replies.lost ≡ false
  pub fault : replies.some_fault ≡ some_fault_in (joined rounds)
  pub memory : replies.some_memory ≡ some_memory_in (joined rounds)

-- What is around, where the source stands elsewhere.
abbrev pub behind_read : Around → Option (List ℕ) → ℕ → Around
behind_read around left faults = record {
  left = around.left;
  left' = left;
  source_faults = around.source_faults;
  source_faults' = faults;
  given = around.given;
  given' = around.given';
  sink_faults = around.sink_faults;
  sink_faults' = around.sink_faults';
}

-- And where the sink does.
abbrev pub behind_given : Around → Told → Around
behind_given around told = record {
  left = around.left;
  left' = around.left';
  source_faults = around.source_faults;
  source_faults' = around.source_faults';
  given = around.given;
  given' = told.given;
  sink_faults = around.sink_faults;
  sink_faults' = told.faults;
}

-- one round more
joined-push : (rounds : List (List Served)) (round : List Served) → joined (rounds ++ round ∷ []) ≡ joined rounds ++ round
joined-push [] round = append-nil round
joined-push (first ∷ rounds) round = ap (λ rest. first ++ rest) (joined-push rounds round) ∙ sym (append_assoc first (joined rounds) round)

commands-push : (rounds : List (List Served)) (round : List Served) → commands_in (rounds ++ round ∷ []) ≡ commands_in rounds ++ commands_of round ∷ []
commands-push rounds round = map-append commands_of rounds (round ∷ [])

pub all-joined : (rounds : List (List Served)) → all_commands (commands_in rounds) ≡ commands_of (joined rounds)
all-joined [] = refl
all-joined (round ∷ rounds) = ap (λ rest. commands_of round ++ rest) (all-joined rounds) ∙ sym (commands-then round (joined rounds))

abbrev stream_of : List (List Command) → StreamEnd → Stream
stream_of rounds end = record { rounds = rounds; end = end }

with-rounds-push : (rounds : List (List Command)) (round : List Command) (stream : Stream) → with_rounds rounds (with_round round stream) ≡ with_rounds (rounds ++ round ∷ []) stream
with-rounds-push rounds round stream = ap (λ all. stream_of all stream.end) (sym (append_assoc rounds (round ∷ []) stream.rounds))

-- The next round of what is still to be read.
abbrev pub GivesNext : Lines → Option (List ℕ) → List Command → Lines → Option (List ℕ) → Type 0
GivesNext lines left round lines' left' =
    (text : List ℕ) (at : Standing) → StandsAt lines at → IsToRead lines left text → ReadsRound at text round (lines_read lines') (has_ended lines') (taken_by lines') left'

module _ {D : Type 0} (disk : Ghosts D) (first now : Session D) (around : Around) (replies : Replies) (lines : Lines) (lane : Option ℕ) (left : Option (List ℕ)) (faults : ℕ) where
  abbrev after : Around
  after = behind_read around left faults

  few : (so : SoFar disk first now around replies lines lane) → length (joined so.rounds) ≤ 65536
  few so =
      let limits = so.stands.limits.commands in
      let same = ap length so.same in
      let count = length-map (joined so.rounds) (λ (one : Served). one.command) in
      omega (arith, limits, same, count)

  -- serving ends behind the rounds so far
  pub serves-so : (so : SoFar disk first now around replies lines lane) (stop : Stop) → StopsBy after (commands_in so.rounds) stop → GivesReplies after so.rounds stop
      → ServesRounds disk first now after (stopped_with replies stop)
  serves-so so stop stops gives = record {
    rounds = so.rounds;
    lane = so.one.0;
    served = so.all;
    fits = so.fits;
    lane_is = so.one.1;
    of_lane = so.one.2;
    few = few so;
    stops = stops;
    replies = gives;
    answers = record { fault = so.fault; memory = so.memory };
  }

  -- the stream was read to its end
  pub serves-end : (so : SoFar disk first now around replies lines lane) (lines' : Lines) → faults ≡ around.source_faults'
      → ((text : List ℕ) (at : Standing) → StandsAt lines at → IsToRead lines around.left' text → HasNoRound at text (taken_by lines') left)
      → ServesRounds disk first now after (stopped_with replies Read)
  serves-end so lines' kept none = serves-so so Read (record {
    stream = λ text is.
        let was = so.read text is in
        let end = none was.rest so.at so.stands was.ahead in
        was.stands.stream ∙ ap (with_rounds (commands_in so.rounds)) end.none ∙ ap (λ all. stream_of all AtEnd) (append-nil (commands_in so.rounds));
    at_end = λ text is.
        let was = so.read text is in
        let end = none was.rest so.at so.stands was.ahead in
        end.ahead.told ∙ ap (λ rest. Some rest) (none-left (taken_by lines') end.ahead.rest end.ahead.joined);
    kept = kept ∙ so.kept;
  }) (record { told = so.told; kept = so.quiet })
    where
      none-left : (taken rest : List ℕ) → taken ++ rest ≡ [] → rest ≡ []
      none-left [] rest is = is
      none-left (byte ∷ taken) rest is = absurd (cc)

  -- the reader failed
  pub serves-error : (so : SoFar disk first now around replies lines lane) (error : PlanError) → HasErrorCause around.source_faults' faults error
      → ((text : List ℕ) (at : Standing) → StandsAt lines at → IsToRead lines around.left' text → FailsRound at text left error)
      → ServesRounds disk first now after (stopped_with replies (stop_of error))
  serves-error so (LineRefused error) cause told = serves-so so (Line error) (
    (λ text is.
        let was = so.read text is in
        inl (was.stands.stream ∙ ap (with_rounds (commands_in so.rounds)) (told was.rest so.at so.stands was.ahead)
        ∙ ap (λ all. stream_of all (RefusedAt error.line error.kind)) (append-nil (commands_in so.rounds)))),
    cause ∙ so.kept,
  ) (record { told = so.told; kept = so.quiet })
  serves-error so (SourceFailed count) cause told = serves-so so (Source count) (record {
    told = cause.0;
    rose = subst (λ n. Rose n faults) so.kept cause.1;
    stream = λ text is.
        let was = so.read text is in
        record { rest = was.rest; at = so.at; stands = was.stands; stops = told was.rest so.at so.stands was.ahead };
  }) (record { told = so.told; kept = so.quiet })
  serves-error so NoMemory cause told = serves-so so Memory (
    (λ text is. record { more = (stream_from (lines_of (so.read text is).rest) so.at).rounds; joined = ap (λ s. s.rounds) (so.read text is).stands.stream; rest = tt }),
    cause ∙ so.kept,
  ) (record { told = so.told; kept = so.quiet })

  -- the next round was read
  pub comes-next : (so : SoFar disk first now around replies lines lane) (round : List Command) (lines' : Lines) → GivesNext lines around.left' round lines' left
      → StreamIs around.left (GoesOnWith (commands_in so.rounds) (ComesNext round))
  comes-next so round lines' gives = λ text is.
      let was = so.read text is in
      let next = gives was.rest so.at so.stands was.ahead in
      record {
        more = _;
        joined = ap (λ s. s.rounds) (was.stands.stream ∙ ap (with_rounds (commands_in so.rounds)) next.goes);
        rest = (_, refl);
      }

  -- it has a command of another lane
  pub serves-elsewhere : (so : SoFar disk first now around replies lines lane) (round : List Command) (lines' : Lines) (line : ℕ) → faults ≡ around.source_faults' → GivesNext lines around.left' round lines' left
      → IsFirstElsewhere (lane_of (commands_of (joined so.rounds) ++ round)) round line → ServesRounds disk first now after (stopped_with replies (not_yet_at line))
  serves-elsewhere so round lines' line kept gives elsewhere = serves-so so (not_yet_at line) (
    (λ text is. inr (
      refl,
      record {
        round = round;
        first = subst (λ l. IsFirstElsewhere (lane_of (l ++ round)) round line) (sym (all-joined so.rounds)) elsewhere;
        next = comes-next so round lines' gives text is;
      },
    )),
    kept ∙ so.kept,
  ) (record { told = so.told; kept = so.quiet })

  -- memory for it was refused
  pub serves-lacking : (so : SoFar disk first now around replies lines lane) (round : List Command) (lines' : Lines) → faults ≡ around.source_faults' → GivesNext lines around.left' round lines' left
      → ServesRounds disk first now after (stopped_with replies Memory)
  serves-lacking so round lines' kept gives = serves-so so Memory (
    (λ text is. let next = comes-next so round lines' gives text is in record { more = next.more; joined = next.joined; rest = tt }),
    kept ∙ so.kept,
  ) (record { told = so.told; kept = so.quiet })

module _ {D : Type 0} (disk : Ghosts D) (first now new : Session D) (around : Around) (told : Told) (replies' : Told) (lines lines' : Lines) (lane lane' : Option ℕ) (left : Option (List ℕ)) (faults : ℕ) (round : List Command) where
  abbrev behind : Around
  behind = behind_given (behind_read around left faults) replies'

  -- the flags go on
  marked-all : (so : SoFar disk first now around told.replies lines lane) (served : List Served) → HasMarked served told.replies replies'.replies
      → (replies'.replies.some_fault ≡ some_fault_in (joined so.rounds ++ served)) × (replies'.replies.some_memory ≡ some_memory_in (joined so.rounds ++ served))
  marked-all so served marked =
      let before : HasMarked (joined so.rounds) (record { text = told.replies.text; lost = false; some_fault = false; some_memory = false }) told.replies = record { fault = so.fault; memory = so.memory } in
      let all = marked-then (joined so.rounds) served (record { text = told.replies.text; lost = false; some_fault = false; some_memory = false }) told.replies replies'.replies before marked in
      (all.fault, all.memory)

  -- all commands, with those of the round
  commands-are : (so : SoFar disk first now around told.replies lines lane) (served : List Served) → commands_of served ≡ round
      → commands_of (joined (so.rounds ++ served ∷ [])) ≡ commands_of (joined so.rounds) ++ round
  commands-are so served are =
      ap commands_of (joined-push so.rounds served) ∙ commands-then (joined so.rounds) served ∙ ap (λ l. commands_of (joined so.rounds) ++ l) are

  pub one-next : (so : SoFar disk first now around told.replies lines lane) → HasGivenRound so.at round lines'.counts → lane' ≡ lane_of (commands_of (joined so.rounds) ++ round) → All (IsOfLane lane') round
      → OneLane (commands_of (joined so.rounds) ++ round)
  one-next so is_round lane_is all =
      one-lane so.at.lines (commands_of (joined so.rounds)) round so.one (subst (λ l. AreNext so.at.lines l round) so.same is_round.is.order) (subst (λ l. All (IsOfLane l) round) lane_is all)

  all-served : (so : SoFar disk first now around told.replies lines lane) (served : List Served) → HasServedAll disk served now new → HasServedAll disk (joined (so.rounds ++ served ∷ [])) first new
  all-served so served all = subst (λ l. HasServedAll disk l first new) (sym (joined-push so.rounds served)) (served-then disk (joined so.rounds) served first now new so.all all)

  -- the round was answered
  pub so-next : (so : SoFar disk first now around told.replies lines lane) → HasGivenRound so.at round lines'.counts → lane' ≡ lane_of (commands_of (joined so.rounds) ++ round) → All (IsOfLane lane') round
      → GivesNext lines around.left' round lines' left → faults ≡ around.source_faults' → told.given ≡ around.given' → told.faults ≡ around.sink_faults'
      → HasAnswered disk round now new told replies' → replies'.replies.lost ≡ false → SoFar disk first new behind replies'.replies lines' lane'
  so-next so is_round lane_is of_lane gives kept given counts answered holds =
      let served = answered.served in
      let are = commands-are so served answered.are in
      let flags = marked-all so served answered.marked in
      let text = subst (λ b. IsGivenBy b served told replies') holds answered.given in
      record {
        rounds = so.rounds ++ served ∷ [];
        at = behind_round so.at round (lines_read lines');
        all = all-served so served answered.all;
        fits = answered.fits;
        stands = is_round.stands;
        same = ap (λ l. l ++ round) so.same ∙ sym are;
        lane_is = lane_is ∙ ap lane_of (sym are);
        one = subst OneLane (sym are) (one-next so is_round lane_is of_lane);
        read = λ at is.
            let was = so.read at is in
            let next = gives was.rest so.at so.stands was.ahead in
            record {
              rest = next.rest;
              ahead = next.ahead;
              stands = record {
                between = refl;
                stream = was.stands.stream ∙ ap (with_rounds (commands_in so.rounds)) next.goes
                    ∙ with-rounds-push (commands_in so.rounds) round (stream_from (lines_of next.rest) (behind_round so.at round (lines_read lines')))
                    ∙ ap (λ l. with_rounds l (stream_from (lines_of next.rest) (behind_round so.at round (lines_read lines'))))
                    (ap (λ l. commands_in so.rounds ++ l ∷ []) (sym answered.are) ∙ sym (commands-push so.rounds served));
              };
            };
        kept = kept ∙ so.kept;
        told = λ before is.
            text.1 (before ++ served_text (joined so.rounds)) (given ∙ so.told before is)
            ∙ ap (λ bytes. Some bytes)
            (append_assoc before (served_text (joined so.rounds)) (served_text served)
            ∙ ap (λ bytes. before ++ bytes) (sym (ap served_text (joined-push so.rounds served) ∙ text-then (joined so.rounds) served)));
        quiet = answered.loses.kept (holds ∙ sym so.holds) ∙ counts ∙ so.quiet;
        empty = text.0;
        holds = holds;
        fault = flags.0 ∙ ap some_fault_in (sym (joined-push so.rounds served));
        memory = flags.1 ∙ ap some_memory_in (sym (joined-push so.rounds served));
      }

  -- the sink failed at its replies
  pub serves-lost : (so : SoFar disk first now around told.replies lines lane) → HasGivenRound so.at round lines'.counts → lane' ≡ lane_of (commands_of (joined so.rounds) ++ round) → All (IsOfLane lane') round
      → GivesNext lines around.left' round lines' left → faults ≡ around.source_faults' → told.given ≡ around.given' → told.faults ≡ around.sink_faults'
      → HasAnswered disk round now new told replies' → replies'.replies.lost ≡ true → ServesRounds disk first new behind (stopped_with replies'.replies Sink)
  serves-lost so is_round lane_is of_lane gives kept given counts answered lost =
      let served = answered.served in
      let are = commands-are so served answered.are in
      let flags = marked-all so served answered.marked in
      let one = subst OneLane (sym are) (one-next so is_round lane_is of_lane) in
      let text = subst (λ b. IsGivenBy b served told replies') lost answered.given in
      let count = length-map (joined (so.rounds ++ served ∷ [])) (λ (one : Served). one.command) in
      let limits = is_round.stands.limits.commands in
      let whole = ap length (ap (λ l. l ++ round) so.same ∙ sym are) in
      record {
        rounds = so.rounds ++ served ∷ [];
        lane = one.0;
        served = all-served so served answered.all;
        fits = answered.fits;
        lane_is = one.1;
        of_lane = one.2;
        few = omega (arith, limits, whole, count);
        stops = (
          (λ at is.
              let next = comes-next disk first now around told.replies lines lane left faults so round lines' gives at is in
              record {
                more = next.rest.0;
                joined = next.joined ∙ ap (λ l. commands_in so.rounds ++ l) next.rest.1
                    ∙ sym (append_assoc (commands_in so.rounds) (round ∷ []) next.rest.0)
                    ∙ ap (λ l. l ++ next.rest.0) (ap (λ l. commands_in so.rounds ++ l ∷ []) (sym answered.are) ∙ sym (commands-push so.rounds served));
                rest = tt;
              }),
          kept ∙ so.kept,
        );
        replies = record {
          earlier = so.rounds;
          last = served;
          split = refl;
          front = λ before is. text (before ++ served_text (joined so.rounds)) (given ∙ so.told before is);
          rose = subst (λ n. Rose n replies'.faults) (counts ∙ so.quiet) (answered.loses.rose so.holds lost);
        };
        answers = record {
          fault = flags.0 ∙ ap some_fault_in (sym (joined-push so.rounds served));
          memory = flags.1 ∙ ap some_memory_in (sym (joined-push so.rounds served));
        };
      }

-- what was given is the next round
pub given-next : (lines : Lines) (left : Option (List ℕ)) (lines' : Lines) (left' : Option (List ℕ)) (given : Option Round) (round : Round) (commands : List Command) → given ≡ Some round → commands ≡ round.commands
    → ((text : List ℕ) (at : Standing) → StandsAt lines at → IsToRead lines left text → GivesRound at text lines' left' given) → GivesNext lines left commands lines' left'
given-next lines left lines' left' given round commands is same told = λ text at stands ahead.
    subst (λ l. ReadsRound at text l (lines_read lines') (has_ended lines') (taken_by lines') left') (sym same) (subst (GivesRound at text lines' left') is (told text at stands ahead))

pub given-round : (at : Standing) (lines' : Lines) (given : Option Round) (round : Round) (commands : List Command) → given ≡ Some round → commands ≡ round.commands → HasGiven at lines' given → HasGivenRound at commands lines'.counts
given-round at lines' given round commands is same has = subst (λ l. HasGivenRound at l lines'.counts) (sym same) (subst (HasGiven at lines') is has)
