-- How a session ends behind the rounds that were run.
use Rattle.std.proofs.Common.{◌≡◌, ℕ, Bool, true, false, List, [], ◌∷◌, ◌++◌, Option, Some, refl, ap, sym, ◌∙◌, subst, inl, inr}
use Rattle.std.proofs.lemmas.List.{append-nil}
use Rattle.era_base.specs.declared.geometry.Geometry.{Geometry}
use Rattle.era_base.specs.Faults.{Rose}
use Rattle.era_line.specs.Lines.{lines_of}
use Rattle.era_model.specs.declared.command.Command.{Command}
use Rattle.era_model.specs.declared.history.Happening.{Happening}
use Rattle.era_model.specs.History.{era_of}
use Rattle.era_model.specs.Transcript.{Stop, ReadToEnd, SourceFault, NoMemory, stop_line, end_line}
use Rattle.era_plan.specs.Errors.{HasErrorCause}
use Rattle.era_plan.specs.Reading.{FailsRound, HasNoRound, IsToRead, StandsAt, taken_by}
use Rattle.era_plan.specs.Stream.{Standing, AtEnd, RefusedAt, stream_from}
use Rattle.era_plan.specs.declared.round.LineKind.TheVariants.{NotYet}
use Rattle.era_plan.specs.declared.round.PlanError.{PlanError}
use Rattle.era_plan.specs.declared.round.PlanError.TheVariants.{Line as LineError, Source as SourceError, Memory as MemoryError}
use Rattle.era_plan.specs.declared.stream_reader.Lines.{Lines}
use Rattle.era_top.specs.declared.outcome.Outcome.{Outcome}
use Rattle.era_top.specs.declared.progress.Progress.{Progress}
use Rattle.era_tools.specs.declared.status.Status.{Status}
use Rattle.era_tools.specs.declared.status.Status.TheVariants.{Memory}
use Rattle.era_top.specs.Answered.{some_says_memory}
use Rattle.era_top.specs.Outcomes.{answers_text, total_events}
use Rattle.era_top.specs.Runs.{commands_from, tasks_of}
use Rattle.era_top.specs.Endings.{ComesNext, EndsBy, GoesOn, GoesOnWith, HasDoneAll, HasReadAll, IsFirstUnserved, StreamIs, with_rounds}
use Rattle.era_top.specs.Sessions.{Around, end_status, joined, plan_error_at, status_of, stop_of}
use Rattle.era_tools.specs.Printing.{Prints}
use Rattle.era_top.proofs.Relined.{numbered-relined, relined-back, written-relined}
use Rattle.era_top.proofs.RunLaws.{answered-lack}
use Rattle.era_top.proofs.SessionSteps.{RanRounds, behind-text, prints-behind, session-right}
use Rattle.era_top.proofs.SoFar.{SoFar, GivesNext, behind_read, stream_of}
use Rattle.era_top.proofs.TaskSteps.{running-end}

-- a session whose text was given behind its replies
pub goes-with : (g : Geometry) (contents : List ℕ) (around : Around) (given given' given'' : Option (List ℕ)) (rounds : List (List Command)) (outcomes : List Outcome) (h : List Happening) (stop : Stop) (era : ℕ) (ended result : Status)
    → RanRounds g contents around rounds outcomes h → era ≡ era_of h
    → EndsBy g around (record { journal = h; rounds = rounds; stop = stop }) ended
    → ((before : List ℕ) → given ≡ Some before → given' ≡ Some (before ++ answers_text 0 (joined rounds) outcomes))
    → Prints given' given'' (stop_line stop ++ end_line era (total_events outcomes)) ended result
    → GoesOn g contents around given given'' result
goes-with g contents around given given' given'' rounds outcomes h stop era ended result ran present cause told printed = record {
  session = record { journal = h; rounds = rounds; stop = stop };
  ended = ended;
  right = session-right g contents around rounds outcomes h stop ran;
  cause = cause;
  printed = subst (λ text. Prints given given'' text ended result) (sym (behind-text g contents around rounds outcomes h stop era ran present))
      (prints-behind given given' given'' (answers_text 0 (joined rounds) outcomes) (stop_line stop ++ end_line era (total_events outcomes)) ended result told printed);
}

module _ (g : Geometry) (contents : List ℕ) (around : Around) (given given' given'' : Option (List ℕ)) (session : Progress) (lines : Lines) (left : Option (List ℕ)) (faults : ℕ) (result : Status) where
  -- what was run so far
  ran : (so : SoFar g contents around given given' session lines) → RanRounds g contents (behind_read around left faults) so.rounds so.outcomes so.journal
  ran so =
      let tasks = tasks_of (joined so.rounds) in
      let run = running-end g contents tasks tasks so.outcomes session.marks around.tells around.disk_faults around.disk_faults' around.disk around.disk' so.journal so.run refl in
      record { journal = so.run.journal; numbered = so.numbered; counts = run.counts; reads = run.reads }

  present : (so : SoFar g contents around given given' session lines) → session.marks.era ≡ era_of so.journal
  present so = so.run.between.follow.present ∙ sym so.run.journal.era

  done : (so : SoFar g contents around given given' session lines) (stop : Stop) → HasDoneAll g (behind_read around left faults) (record { journal = so.journal; rounds = so.rounds; stop = stop })
  done so stop =
      let commands = joined so.rounds in
      record {
        quiet = so.run.between.quiet;
        clean = λ told block written. so.run.clean told block
            (written-relined g commands (commands_from 0 (tasks_of commands)) 1 block
            (relined-back (commands_from 0 (tasks_of commands)) commands (numbered-relined 0 commands so.numbered)) written);
        kept = so.run.kept;
      }

  -- the session ends so behind the rounds so far
  ends : (so : SoFar g contents around given given' session lines) (stop : Stop) (ended : Status)
      → EndsBy g (behind_read around left faults) (record { journal = so.journal; rounds = so.rounds; stop = stop }) ended
      → Prints given' given'' (stop_line stop ++ end_line session.marks.era session.place) ended result
      → GoesOn g contents (behind_read around left faults) given given'' result
  ends so stop ended cause printed =
      goes-with g contents (behind_read around left faults) given given' given'' so.rounds so.outcomes so.journal stop session.marks.era ended result (ran so) (present so) cause so.told
      (subst (λ n. Prints given' given'' (stop_line stop ++ end_line session.marks.era n) ended result) so.place printed)

  lacks : (so : SoFar g contents around given given' session lines) → some_says_memory so.journal (joined so.rounds) ≡ session.lacked
  lacks so = answered-lack g so.journal 0 1 0 (joined so.rounds) so.outcomes _ so.numbered so.run.journal.answered ∙ sym so.lacked

  -- the stream was read to its end
  read-all : (so : SoFar g contents around given given' session lines) (lines' : Lines) → faults ≡ around.source_faults'
      → ((text : List ℕ) (at : Standing) → StandsAt lines at → IsToRead lines around.left' text → HasNoRound at text (taken_by lines') left)
      → HasReadAll (behind_read around left faults) (record { journal = so.journal; rounds = so.rounds; stop = ReadToEnd })
  read-all so lines' kept none = record {
    stop = refl;
    stream = λ text is.
        let was = so.read text is in
        let now = none was.rest so.at so.stands was.ahead in
        was.stands.stream ∙ ap (with_rounds so.rounds) now.none ∙ ap (λ all. stream_of all AtEnd) (append-nil so.rounds);
    at_end = λ text is.
        let was = so.read text is in
        let now = none was.rest so.at so.stands was.ahead in
        now.ahead.told ∙ ap (λ rest. Some rest) (none-left (taken_by lines') now.ahead.rest now.ahead.joined);
    kept = kept ∙ so.kept;
  }
    where
      none-left : (taken rest : List ℕ) → taken ++ rest ≡ [] → rest ≡ []
      none-left [] rest is = is
      none-left (byte ∷ taken) rest is = absurd (cc)

  -- and the session ends as its lists say
  pub goes-end : (so : SoFar g contents around given given' session lines) (lines' : Lines) → faults ≡ around.source_faults'
      → ((text : List ℕ) (at : Standing) → StandsAt lines at → IsToRead lines around.left' text → HasNoRound at text (taken_by lines') left)
      → Prints given' given'' (end_line session.marks.era session.place) (end_status session.lacked) result
      → GoesOn g contents (behind_read around left faults) given given'' result
  goes-end so lines' kept none printed =
      ends so ReadToEnd (end_status session.lacked)
      (by-lack session.lacked (lacks so) (done so ReadToEnd) (read-all so lines' kept none)) printed
    where
      by-lack : (lacked : Bool) → some_says_memory so.journal (joined so.rounds) ≡ lacked
          → HasDoneAll g (behind_read around left faults) (record { journal = so.journal; rounds = so.rounds; stop = ReadToEnd })
          → HasReadAll (behind_read around left faults) (record { journal = so.journal; rounds = so.rounds; stop = ReadToEnd })
          → EndsBy g (behind_read around left faults) (record { journal = so.journal; rounds = so.rounds; stop = ReadToEnd }) (end_status lacked)
      by-lack true says all read = (all, inr (read, says))
      by-lack false says all read = (all, read, says)

  -- the reader failed
  fails : (so : SoFar g contents around given given' session lines) (error : PlanError) → HasErrorCause around.source_faults' faults error
      → ((text : List ℕ) (at : Standing) → StandsAt lines at → IsToRead lines around.left' text → FailsRound at text left error)
      → EndsBy g (behind_read around left faults) (record { journal = so.journal; rounds = so.rounds; stop = stop_of error }) (status_of error)
  fails so (LineError error) cause told = (
    done so (stop_of (LineError error)),
    record {
      line = error.line;
      kind = error.kind;
      stop = refl;
      stream = λ text is.
          let was = so.read text is in
          inl (was.stands.stream ∙ ap (with_rounds so.rounds) (told was.rest so.at so.stands was.ahead)
          ∙ ap (λ all. stream_of all (RefusedAt error.line error.kind)) (append-nil so.rounds));
      kept = cause ∙ so.kept;
    },
  )
  fails so (SourceError count) cause told = (
    done so (stop_of (SourceError count)),
    record {
      stop = ap (λ n. SourceFault n) cause.0;
      rose = subst (λ n. Rose n faults) so.kept cause.1;
      stream = λ text is.
          let was = so.read text is in
          record { rest = was.rest; at = so.at; stands = was.stands; stops = told was.rest so.at so.stands was.ahead };
    },
  )
  fails so MemoryError cause told = (
    done so NoMemory,
    inl (record {
      stop = refl;
      stream = λ text is. record { more = (stream_from (lines_of (so.read text is).rest) so.at).rounds; joined = ap (λ s. s.rounds) (so.read text is).stands.stream; rest = tt };
      kept = cause ∙ so.kept;
    }),
  )

  pub goes-stop : (so : SoFar g contents around given given' session lines) (error : PlanError) → HasErrorCause around.source_faults' faults error
      → ((text : List ℕ) (at : Standing) → StandsAt lines at → IsToRead lines around.left' text → FailsRound at text left error)
      → Prints given' given'' (stop_line (stop_of error) ++ end_line session.marks.era session.place) (status_of error) result
      → GoesOn g contents (behind_read around left faults) given given'' result
  goes-stop so error cause told printed = ends so (stop_of error) (status_of error) (fails so error cause told) printed

  -- the next round was read
  pub comes-next : (so : SoFar g contents around given given' session lines) (round : List Command) (lines' : Lines) → GivesNext lines around.left' round lines' left
      → StreamIs around.left (GoesOnWith so.rounds (ComesNext round))
  comes-next so round lines' gives = λ text is.
      let was = so.read text is in
      let now = gives was.rest so.at so.stands was.ahead in
      record {
        more = _;
        joined = ap (λ s. s.rounds) (was.stands.stream ∙ ap (with_rounds so.rounds) now.goes);
        rest = (_, refl);
      }

  -- and has a command that isn't served yet
  pub goes-unserved : (so : SoFar g contents around given given' session lines) (round : List Command) (lines' : Lines) (line : ℕ) → GivesNext lines around.left' round lines' left → faults ≡ around.source_faults'
      → IsFirstUnserved round line
      → Prints given' given'' (stop_line (stop_of (plan_error_at line)) ++ end_line session.marks.era session.place) (status_of (plan_error_at line)) result
      → GoesOn g contents (behind_read around left faults) given given'' result
  goes-unserved so round lines' line gives kept unserved printed =
      ends so (stop_of (plan_error_at line)) (status_of (plan_error_at line)) (
        done so (stop_of (plan_error_at line)),
        record {
          line = line;
          kind = NotYet;
          stop = refl;
          stream = λ text is. inr (refl, (round, unserved, comes-next so round lines' gives text is));
          kept = kept ∙ so.kept;
        },
      ) printed

  -- memory for the next round was refused
  pub goes-no_room : (so : SoFar g contents around given given' session lines) (round : List Command) (lines' : Lines) → GivesNext lines around.left' round lines' left → faults ≡ around.source_faults'
      → Prints given' given'' (stop_line NoMemory ++ end_line session.marks.era session.place) Memory result
      → GoesOn g contents (behind_read around left faults) given given'' result
  goes-no_room so round lines' gives kept printed =
      ends so NoMemory Memory (
        done so NoMemory,
        inl (record {
          stop = refl;
          stream = λ text is. let next = comes-next so round lines' gives text is in record { more = next.more; joined = next.joined; rest = tt };
          kept = kept ∙ so.kept;
        }),
      ) printed
