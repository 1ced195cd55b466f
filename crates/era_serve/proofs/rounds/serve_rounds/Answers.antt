use Rattle.std.proofs.Common.{◌≡◌, true, false, Bool, [], ◌++◌, length, Some, refl, ap, sym, ◌∙◌, subst, append-nil, length-append, arith}
use Rattle.era_plan.specs.Reading.{GivesRound, has_failed}
use Rattle.era_plan.specs.Stream.{at_beginning}
use Rattle.era_serve.specs.Replying.{Told, told_at}
use Rattle.era_serve.specs.Stops.{ServesRounds, around, stopped_with}
use Rattle.era_serve.specs.declared.stop.Stop.TheVariants.{Memory}
use Rattle.era_serve.proofs.SessionLane.{Laws, may-round, next-tasks}
use Rattle.era_serve.proofs.SoFar.{behind_given, behind_read, given-next, given-round, one-next, serves-elsewhere, serves-end, serves-error, serves-lacking, serves-lost, so-next}
use Rattle.era_served.specs.Served.{commands_of, joined}
use Rattle.era_session.specs.declared.session.Session.{Session}
use Rattle.era_serve.proofs.rounds.serve_rounds.Goals as goal

not-both : (b : Bool) → b ≡ true → b ≡ false → ⊥
not-both true is not = absurd (cc)
not-both false is not = absurd (cc)

false-unless : (b : Bool) → (b ≡ true → ⊥) → b ≡ false
false-unless true not = absurd (not refl)
false-unless false not = refl

-- nothing was read yet
pub loop-round-init : goal.loop-round-init
loop-round-init g c = record {
  so_far = record {
    rounds = [];
    at = at_beginning;
    all = refl;
    fits = c.requires.fits;
    stands = c.new-lines.ensures.stands;
    same = refl;
    lane_is = refl;
    one = (0, omega arith, tt);
    read = λ text is. record {
      rest = text;
      ahead = record {
        ahead = record { rest = text; told = is; joined = ap (λ taken. taken ++ text) c.new-lines.ensures.taken };
        behind_end = λ ended. absurd (not-both _ ended c.new-lines.ensures.ended);
      };
      stands = record { between = refl; stream = refl };
    };
    kept = refl;
    told = λ before is. is ∙ ap (λ bytes. Some bytes) (sym (append-nil before));
    quiet = refl;
    empty = c.new-replies.ensures.text;
    holds = c.new-replies.ensures.sink;
    fault = c.new-replies.ensures.fault;
    memory = c.new-replies.ensures.memory;
  };
  reads = c.new-lines.ensures.failed;
}

-- the stream was read to its end
pub returns-in-Ok-None : goal.returns-in-Ok-None
returns-in-Ok-None g c =
    let before = around g.S.Source g.K.Sink c.args.source.now c.loop-round.source c.args.sink.now c.loop-round.sink in
    let after = around g.S.Source g.K.Sink c.args.source.now c.next_round.new.source c.args.sink.now c.loop-round.sink in
    subst (ServesRounds g.D.Disk c.args.session.now c.loop-round.session after) (sym c.stopped.ensures)
    (serves-end g.D.Disk c.args.session.now c.loop-round.session before c.loop-round.replies c.loop-round.lines c.loop-round.lane (g.S.Source.left c.next_round.new.source)
    (g.S.Source.faults c.next_round.new.source) c.loop-round.invariant.so_far c.next_round.new.lines c.in-Ok-None.ensures.cause
    (λ text at stands ahead. subst (GivesRound at text c.next_round.new.lines (g.S.Source.left c.next_round.new.source)) c.in-Ok-None.field-0-is (c.in-Ok-None.ensures.told text at stands ahead)))

-- it gave no further round
pub returns-in-Err : goal.returns-in-Err
returns-in-Err g c =
    let before = around g.S.Source g.K.Sink c.args.source.now c.loop-round.source c.args.sink.now c.loop-round.sink in
    let after = around g.S.Source g.K.Sink c.args.source.now c.next_round.new.source c.args.sink.now c.loop-round.sink in
    subst (ServesRounds g.D.Disk c.args.session.now c.loop-round.session after) (sym (c.stopped-in-Err.ensures ∙ ap (stopped_with c.loop-round.replies) c.stop_by.ensures))
    (serves-error g.D.Disk c.args.session.now c.loop-round.session before c.loop-round.replies c.loop-round.lines c.loop-round.lane (g.S.Source.left c.next_round.new.source)
    (g.S.Source.faults c.next_round.new.source) c.loop-round.invariant.so_far c.in-Err.error c.in-Err.ensures.cause (λ text at stands ahead. c.in-Err.ensures.told text at stands ahead))

-- a command is of another lane
pub returns-in-Some : goal.returns-in-Some
returns-in-Some g c =
    let so = c.loop-round.invariant.so_far in
    let before = around g.S.Source g.K.Sink c.args.source.now c.loop-round.source c.args.sink.now c.loop-round.sink in
    let after = around g.S.Source g.K.Sink c.args.source.now c.next_round.new.source c.args.sink.now c.loop-round.sink in
    let commands = c.as_slice-commands.result.now in
    subst (ServesRounds g.D.Disk c.args.session.now c.loop-round.session after) (sym (c.stopped-in-Some.ensures ∙ ap (stopped_with c.loop-round.replies) c.not_yet.ensures))
    (serves-elsewhere g.D.Disk c.args.session.now c.loop-round.session before c.loop-round.replies c.loop-round.lines c.loop-round.lane (g.S.Source.left c.next_round.new.source)
    (g.S.Source.faults c.next_round.new.source) so commands c.next_round.new.lines c.in-Some.line c.in-Ok-Some.ensures.cause
    (given-next c.loop-round.lines (g.S.Source.left c.loop-round.source) c.next_round.new.lines (g.S.Source.left c.next_round.new.source) c.in-Ok-Some.field-0 c.in-Ok-Some.round commands
    c.in-Ok-Some.field-0-is c.as_slice-commands.ensures (λ text at stands ahead. c.in-Ok-Some.ensures.told text at stands ahead))
    (rw (c.lane_with-lane.ensures (commands_of (joined so.rounds)) so.lane_is) at c.in-Some.ensures.some))

-- the round may be served
pub answer_round-requires-clause-may : goal.answer_round-requires-clause-may
answer_round-requires-clause-may g c =
    let so = c.loop-round.invariant.so_far in
    let commands = c.as_slice-commands.result.now in
    let told = told_at g.K.Sink c.loop-round.replies c.loop-round.sink in
    let before = around g.S.Source g.K.Sink c.args.source.now c.loop-round.source c.args.sink.now c.loop-round.sink in
    let given = given-round so.at c.next_round.new.lines c.in-Ok-Some.field-0 c.in-Ok-Some.round commands c.in-Ok-Some.field-0-is c.as_slice-commands.ensures (c.in-Ok-Some.ensures.given so.at so.stands) in
    let laws : Laws g.D.Disk = record { gone = c.other_commands_have_issued_nothing.ensures.gone; budget = c.other_commands_have_issued_nothing.ensures.budget } in
    let limits = given.stands.limits.commands in
    let whole = length-append so.at.session commands in
    let same = ap length so.same in
    may-round g.D.Disk laws c.args.session.now c.loop-round.session (joined so.rounds) commands c.requires.begun so.all so.fits
    (one-next g.D.Disk c.args.session.now c.loop-round.session c.loop-round.session before told told c.loop-round.lines c.next_round.new.lines c.loop-round.lane c.lane_with-lane.result
    (g.S.Source.left c.next_round.new.source) (g.S.Source.faults c.next_round.new.source) commands so given (c.lane_with-lane.ensures (commands_of (joined so.rounds)) so.lane_is) c.in_default.ensures.none)
    (next-tasks so.at.lines so.at.session commands given.is.order)
    (omega (arith, limits, whole, same))

-- memory for it was refused
pub returns-in_default-answer_round : goal.returns-in_default-answer_round
returns-in_default-answer_round g c =
    let first = c.args.session.now in
    let before = around g.S.Source g.K.Sink c.args.source.now c.loop-round.source c.args.sink.now c.loop-round.sink in
    let left = g.S.Source.left c.next_round.new.source in
    let faults = g.S.Source.faults c.next_round.new.source in
    let commands = c.as_slice-commands.result.now in
    let nothing = c.in_default-answer_round.ensures.err in
    let after = around g.S.Source g.K.Sink c.args.source.now c.next_round.new.source c.args.sink.now c.answer_round.new.sink in
    subst (ServesRounds g.D.Disk first c.answer_round.new.session after) (sym c.stopped-in_default-answer_round.ensures)
    (subst (λ (s : Session _). ServesRounds g.D.Disk first s after (stopped_with c.answer_round.new.replies Memory)) (sym nothing.session)
    (subst (λ (t : Told). ServesRounds g.D.Disk first c.loop-round.session (behind_given (behind_read before left faults) t) (stopped_with t.replies Memory)) (sym nothing.same)
    (serves-lacking g.D.Disk first c.loop-round.session before c.loop-round.replies c.loop-round.lines c.loop-round.lane left faults c.loop-round.invariant.so_far commands c.next_round.new.lines c.in-Ok-Some.ensures.cause
    (given-next c.loop-round.lines (g.S.Source.left c.loop-round.source) c.next_round.new.lines left c.in-Ok-Some.field-0 c.in-Ok-Some.round commands
    c.in-Ok-Some.field-0-is c.as_slice-commands.ensures (λ text at stands ahead. c.in-Ok-Some.ensures.told text at stands ahead)))))

-- the sink failed at its replies
pub returns-then-replies : goal.returns-then-replies
returns-then-replies g c =
    let so = c.loop-round.invariant.so_far in
    let first = c.args.session.now in
    let before = around g.S.Source g.K.Sink c.args.source.now c.loop-round.source c.args.sink.now c.loop-round.sink in
    let after = around g.S.Source g.K.Sink c.args.source.now c.next_round.new.source c.args.sink.now c.answer_round.new.sink in
    let left = g.S.Source.left c.next_round.new.source in
    let commands = c.as_slice-commands.result.now in
    let given = given-round so.at c.next_round.new.lines c.in-Ok-Some.field-0 c.in-Ok-Some.round commands c.in-Ok-Some.field-0-is c.as_slice-commands.ensures (c.in-Ok-Some.ensures.given so.at so.stands) in
    subst (ServesRounds g.D.Disk first c.answer_round.new.session after) (sym c.stopped-then-replies.ensures)
    (serves-lost g.D.Disk first c.loop-round.session c.answer_round.new.session before (told_at g.K.Sink c.loop-round.replies c.loop-round.sink)
    (told_at g.K.Sink c.answer_round.new.replies c.answer_round.new.sink) c.loop-round.lines c.next_round.new.lines c.loop-round.lane c.lane_with-lane.result left
    (g.S.Source.faults c.next_round.new.source) commands so given (c.lane_with-lane.ensures (commands_of (joined so.rounds)) so.lane_is) c.in_default.ensures.none
    (given-next c.loop-round.lines (g.S.Source.left c.loop-round.source) c.next_round.new.lines left c.in-Ok-Some.field-0 c.in-Ok-Some.round commands
    c.in-Ok-Some.field-0-is c.as_slice-commands.ensures (λ text at stands ahead. c.in-Ok-Some.ensures.told text at stands ahead))
    c.in-Ok-Some.ensures.cause refl refl c.in-Ok.ensures.ok c.if-replies.true)

-- the round was answered
pub loop-round-preserved : goal.loop-round-preserved
loop-round-preserved g c =
    let so = c.loop-round.invariant.so_far in
    let first = c.args.session.now in
    let before = around g.S.Source g.K.Sink c.args.source.now c.loop-round.source c.args.sink.now c.loop-round.sink in
    let left = g.S.Source.left c.next_round.new.source in
    let commands = c.as_slice-commands.result.now in
    let given = given-round so.at c.next_round.new.lines c.in-Ok-Some.field-0 c.in-Ok-Some.round commands c.in-Ok-Some.field-0-is c.as_slice-commands.ensures (c.in-Ok-Some.ensures.given so.at so.stands) in
    record {
      so_far = so-next g.D.Disk first c.loop-round.session c.answer_round.new.session before (told_at g.K.Sink c.loop-round.replies c.loop-round.sink)
          (told_at g.K.Sink c.answer_round.new.replies c.answer_round.new.sink) c.loop-round.lines c.next_round.new.lines c.loop-round.lane c.lane_with-lane.result left
          (g.S.Source.faults c.next_round.new.source) commands so given (c.lane_with-lane.ensures (commands_of (joined so.rounds)) so.lane_is) c.in_default.ensures.none
          (given-next c.loop-round.lines (g.S.Source.left c.loop-round.source) c.next_round.new.lines left c.in-Ok-Some.field-0 c.in-Ok-Some.round commands
          c.in-Ok-Some.field-0-is c.as_slice-commands.ensures (λ text at stands ahead. c.in-Ok-Some.ensures.told text at stands ahead))
          c.in-Ok-Some.ensures.cause refl refl c.in-Ok.ensures.ok c.if-replies.false;
      reads = false-unless (has_failed c.next_round.new.lines) (λ failed. let e = c.in-Ok-Some.ensures.failed.0 failed in absurd (cc));
    }
