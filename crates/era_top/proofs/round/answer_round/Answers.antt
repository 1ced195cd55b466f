use Rattle.std.proofs.Common.{◌+◌, refl, sym, ◌∙◌, inl, inr, arith}
use Rattle.era_model.specs.Transcript.{end_line}
use Rattle.era_tools.specs.declared.status.Status.TheVariants.{Fault}
use Rattle.era_top.specs.Outcomes.{answers_text, total_events}
use Rattle.era_top.proofs.SessionSteps.{prints-behind, total-few}
use Rattle.era_top.proofs.round.answer_round.Goals as goal

-- memory was refused
pub returns-in_default-clause-ended : goal.returns-in_default-clause-ended
returns-in_default-clause-ended g c = inl (record { kept = refl; same = refl; printed = rw c.era.ensures at c.give_stop.ensures.printed })

-- the sink failed at the replies
pub returns-in_default-give_round-clause-ended : goal.returns-in_default-give_round-clause-ended
returns-in_default-give_round-clause-ended g c = inr (inr (record {
  outcomes = c.run.new.outcomes.items;
  run = record { behind = c.run.ensures.run; stops = c.run.ensures.stopped };
  ended = refl;
  front = λ before is. rw c.as_slice-outcomes.ensures.value at (c.in_default-give_round.ensures.given before is);
}))

-- so few events were drawn
pub overflow_add-session : goal.overflow_add-session
overflow_add-session g c =
    let few = total-few c.run.new.outcomes.items in
    let counted = rw c.as_slice-outcomes.ensures.value at c.count_all_events.ensures in
    omega (arith, few, counted, c.run.ensures.stopped.few, c.requires.few.0, c.requires.few.1)

-- a write was cut
pub returns-then-has_cut-clause-ended : goal.returns-then-has_cut-clause-ended
returns-then-has_cut-clause-ended g c =
    let value = c.as_slice-outcomes.ensures.value in
    let outcomes = c.run.new.outcomes.items in
    inr (inl (record {
      outcomes = outcomes;
      run = record { behind = c.run.ensures.run; stops = c.run.ensures.stopped };
      cut = rw value at (sym c.has_cut.ensures ∙ c.if-has_cut.true);
      printed = prints-behind (g.K.Sink.given c.args.sink.now) (g.K.Sink.given c.give_round.new.sink) (g.K.Sink.given c.give_end.new.sink)
          (answers_text c.args.session.now.place c.args.commands.now outcomes) (end_line c.run.new.marks.era (c.args.session.now.place + total_events outcomes)) Fault c.give_end.result
          (λ before is. rw value at (c.in-Ok-give_round.ensures.given before is))
          (rw (c.era-then-has_cut.ensures, c.count_all_events.ensures, value) at c.give_end.ensures.printed);
    }))
