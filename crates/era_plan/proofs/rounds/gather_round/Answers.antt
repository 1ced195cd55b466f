use Rattle.std.proofs.Common.{[], refl, ◌∙◌}
use Rattle.std.proofs.lemmas.Result.{err_from_is_err_and}
use Rattle.era_plan.proofs.ReadingSteps.{leaves-more, reading-line, reading-start}
use Rattle.era_plan.proofs.RefusedLines.{fails-step}
use Rattle.era_plan.proofs.RoundEndings.{given-ended, over-given, over-tells, over-told, reads-ended, tells-ended}
use Rattle.era_plan.proofs.rounds.gather_round.Goals as goal

pub loop-round-init : goal.loop-round-init
loop-round-init g c = record {
  reading = λ at stands. reading-start at _ _ _ _ stands c.new-round.ensures;
  leaves = λ bytes told. record { front = []; rest = bytes; told = told; joined = refl };
  kept = refl;
  going = c.requires;
}

-- a line more goes on with the round
pub loop-round-preserved : goal.loop-round-preserved
loop-round-preserved g c =
    let steps = rw c.in-Goes.is at c.in_ok-read_step.ensures.steps in
    let reads = rw c.in-Goes.is at c.in_ok-read_step.ensures.reads in
    record {
      reading = λ at stands.
          let reading = c.loop-round.invariant.reading at stands in
          reading-line at _ _ _ _ _ _ _ _ _ _ c.read_step.new.lines.line.items reading reads (steps reading.now reading.stands);
      leaves = leaves-more _ _ _ c.loop-round.invariant.leaves c.in_ok-read_step.ensures.leaves;
      kept = c.in_ok-read_step.ensures.cause ∙ c.loop-round.invariant.kept;
      going = (rw c.in-Goes.is at c.in_ok-read_step.ensures.ended) ∙ c.loop-round.invariant.going;
    }

-- a line could not be taken
pub returns-in_err-read_step-clause-told : goal.returns-in_err-read_step-clause-told
returns-in_err-read_step-clause-told g c = λ text at stands ahead.
    let reading = c.loop-round.invariant.reading at stands in
    let p = err_from_is_err_and c.from_residual.result c.from_residual.ensures.1 in
    rw (p.1, p.2) (fails-step at _ _ _ _ _ _ _ c.in_err-read_step.field-0.0 reading
    (λ next here. c.in_err-read_step.ensures.fails reading.now next reading.stands here) text ahead)

-- a line has ended the round
pub returns-in-Ends-clause-told : goal.returns-in-Ends-clause-told
returns-in-Ends-clause-told g c = λ text at stands ahead.
    let reading = c.loop-round.invariant.reading at stands in
    let steps = rw c.in-Ends.is at c.in_ok-read_step.ensures.steps in
    let reads = rw c.in-Ends.is at c.in_ok-read_step.ensures.reads in
    let step = steps reading.now reading.stands in
    let going = rw c.in-Ends.is at c.in_ok-read_step.ensures.ended in
    rw c.finish.ensures (reads-ended at _ _ _ _ _ _ c.read_step.new.lines _ c.read_step.new.round c.read_step.new.lines.line.items reading stands.between step.1 reads step.0
    (going ∙ c.loop-round.invariant.going) text ahead)

pub returns-in-Ends-clause-given : goal.returns-in-Ends-clause-given
returns-in-Ends-clause-given g c = λ at stands.
    let reading = c.loop-round.invariant.reading at stands in
    let steps = rw c.in-Ends.is at c.in_ok-read_step.ensures.steps in
    let step = steps reading.now reading.stands in
    rw c.finish.ensures (given-ended at _ _ _ _ _ c.read_step.new.lines.counts _ c.read_step.new.round c.read_step.new.lines.line.items reading stands.between step.1 step.0)

pub returns-in-Ends-clause-ended : goal.returns-in-Ends-clause-ended
returns-in-Ends-clause-ended g c = λ at stands.
    let reading = c.loop-round.invariant.reading at stands in
    let steps = rw c.in-Ends.is at c.in_ok-read_step.ensures.steps in
    let step = steps reading.now reading.stands in
    let going = rw c.in-Ends.is at c.in_ok-read_step.ensures.ended in
    rw c.finish.ensures (tells-ended at _ _ _ _ _ c.read_step.new.lines _ c.read_step.new.round c.read_step.new.lines.line.items reading stands.between step.1 step.0
    (going ∙ c.loop-round.invariant.going))

-- the input has ended
pub returns-in-Over-clause-told : goal.returns-in-Over-clause-told
returns-in-Over-clause-told g c = λ text at stands ahead.
    let reading = c.loop-round.invariant.reading at stands in
    let steps = rw c.in-Over.is at c.in_ok-read_step.ensures.steps in
    let ends = rw c.in-Over.is at c.in_ok-read_step.ensures.reads in
    over-told at _ _ _ _ _ _ _ c.read_step.new.round c.read_step.new.lines c.end.result reading stands.between (steps reading.now reading.stands)
    c.end.ensures.some c.end.ensures.full c.end.ensures.none ends text ahead

pub returns-in-Over-clause-given : goal.returns-in-Over-clause-given
returns-in-Over-clause-given g c = λ at stands.
    let reading = c.loop-round.invariant.reading at stands in
    let steps = rw c.in-Over.is at c.in_ok-read_step.ensures.steps in
    over-given at _ _ _ _ _ _ c.read_step.new.round c.read_step.new.lines c.end.result reading stands.between (steps reading.now reading.stands)
    c.end.ensures.some c.end.ensures.full c.end.ensures.none

pub returns-in-Over-clause-ended : goal.returns-in-Over-clause-ended
returns-in-Over-clause-ended g c = λ at stands.
    let reading = c.loop-round.invariant.reading at stands in
    let steps = rw c.in-Over.is at c.in_ok-read_step.ensures.steps in
    over-tells at _ _ _ _ _ _ c.read_step.new.round c.read_step.new.lines c.end.result reading stands.between (steps reading.now reading.stands) c.end.ensures.some (rw c.in-Over.is at c.in_ok-read_step.ensures.ended)

-- what is left of the source is a rest of what was left
pub returns-in_err-read_step-clause-leaves : goal.returns-in_err-read_step-clause-leaves
returns-in_err-read_step-clause-leaves g c = leaves-more _ _ _ c.loop-round.invariant.leaves c.in_err-read_step.ensures.leaves

pub returns-in-Ends-clause-leaves : goal.returns-in-Ends-clause-leaves
returns-in-Ends-clause-leaves g c = leaves-more _ _ _ c.loop-round.invariant.leaves c.in_ok-read_step.ensures.leaves

pub returns-in-Over-clause-leaves : goal.returns-in-Over-clause-leaves
returns-in-Over-clause-leaves g c = leaves-more _ _ _ c.loop-round.invariant.leaves c.in_ok-read_step.ensures.leaves
