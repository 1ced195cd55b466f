use Rattle.std.proofs.Common.{[], refl, ap, ◌∙◌, subst, arith}
use Rattle.era_plan.specs.Reading.{GivesRound}
use Rattle.era_model.specs.Marks.{blocks_of_marks}
use Rattle.era_top.proofs.RoundEnds.{goes-at}
use Rattle.era_top.proofs.SessionEnds.{goes-end, goes-stop, goes-unserved}
use Rattle.era_top.proofs.Numbered.{next-tasks}
use Rattle.era_top.proofs.SoFar.{false-unless, given-next, given-round, place-few, so_far-next, so_far-none}
use Rattle.era_top.proofs.session.serve_rounds.Goals as goal

-- nothing was run yet
pub loop-round-init : goal.loop-round-init
loop-round-init g c = record {
  so_far = λ contents. so_far-none c.args.geometry.now contents _ _ _ _ c.requires.marks refl refl c.new-lines.ensures.stands c.new-lines.ensures.taken c.new-lines.ensures.ended refl refl refl refl;
  reads = c.new-lines.ensures.failed;
  marks = ap blocks_of_marks c.requires.marks;
  sectors = c.requires.disk;
  size = refl;
  place = refl;
  source_faults = refl;
  disk_faults = refl;
  sink = refl;
}

-- the stream was read to its end
pub returns-in-Ok-None-clause-goes : goal.returns-in-Ok-None-clause-goes
returns-in-Ok-None-clause-goes g c = λ contents.
    goes-end c.args.geometry.now contents _ _ _ _ _ _ _ _ _ (c.loop-round.invariant.so_far contents) c.next_round.new.lines c.in-Ok-None.ensures.cause
    (λ text at stands ahead. subst (GivesRound at text c.next_round.new.lines (g.S.Source.left c.next_round.new.source)) c.in-Ok-None.field-0-is (c.in-Ok-None.ensures.told text at stands ahead))
    (rw (c.era.ensures, c.end_status-ended.ensures) at c.give_end.ensures.printed)

-- it gave no further round
pub returns-in-Err-clause-goes : goal.returns-in-Err-clause-goes
returns-in-Err-clause-goes g c = λ contents.
    goes-stop c.args.geometry.now contents _ _ _ _ _ _ _ _ _ (c.loop-round.invariant.so_far contents) c.in-Err.error c.in-Err.ensures.cause
    (λ text at stands ahead. c.in-Err.ensures.told text at stands ahead)
    (rw c.era-in-Err.ensures at c.give_stop.ensures.printed)

-- the commands are those of lines
pub first_unserved-requires : goal.first_unserved-requires
first_unserved-requires g c =
    let so = c.loop-round.invariant.so_far [] in
    let given = given-round so.at c.next_round.new.lines c.in-Ok-Some.field-0 c.in-Ok-Some.round c.as_slice-commands.result.now c.in-Ok-Some.field-0-is c.as_slice-commands.ensures
    (c.in-Ok-Some.ensures.given so.at so.stands) in
    next-tasks so.at.lines so.at.session c.as_slice-commands.result.now given.is.order

-- one of them isn't served yet
pub returns-in-Some-clause-goes : goal.returns-in-Some-clause-goes
returns-in-Some-clause-goes g c = λ contents.
    goes-unserved c.args.geometry.now contents _ _ _ _ _ _ _ _ _ (c.loop-round.invariant.so_far contents) c.as_slice-commands.result.now c.next_round.new.lines c.in-Some.line
    (given-next c.loop-round.lines (g.S.Source.left c.loop-round.source) c.next_round.new.lines (g.S.Source.left c.next_round.new.source) c.in-Ok-Some.field-0 c.in-Ok-Some.round
    c.as_slice-commands.result.now c.in-Ok-Some.field-0-is c.as_slice-commands.ensures (λ text at stands ahead. c.in-Ok-Some.ensures.told text at stands ahead))
    c.in-Ok-Some.ensures.cause c.in-Some.ensures.some
    (rw (c.era-in-Some.ensures, c.not_yet-error.ensures) at c.give_stop-in-Some.ensures.printed)

-- they are few
pub answer_round-requires-clause-few : goal.answer_round-requires-clause-few
answer_round-requires-clause-few g c =
    let so = c.loop-round.invariant.so_far [] in
    let given = given-round so.at c.next_round.new.lines c.in-Ok-Some.field-0 c.in-Ok-Some.round c.as_slice-commands.result.now c.in-Ok-Some.field-0-is c.as_slice-commands.ensures
    (c.in-Ok-Some.ensures.given so.at so.stands) in
    (omega (arith, given.is.count), place-few c.args.geometry.now [] _ _ _ c.loop-round.session c.loop-round.lines so)

-- the session ended at the round
pub returns-in-Some-answer_round-clause-goes : goal.returns-in-Some-answer_round-clause-goes
returns-in-Some-answer_round-clause-goes g c = λ contents.
    let so = c.loop-round.invariant.so_far contents in
    let given = given-round so.at c.next_round.new.lines c.in-Ok-Some.field-0 c.in-Ok-Some.round c.as_slice-commands.result.now c.in-Ok-Some.field-0-is c.as_slice-commands.ensures
    (c.in-Ok-Some.ensures.given so.at so.stands) in
    goes-at c.args.geometry.now contents _ _ _ _ _ c.answer_round.new.session _ c.next_round.new.lines c.as_slice-commands.result.now
    (g.S.Source.left c.next_round.new.source) (g.S.Source.faults c.next_round.new.source) (g.D.Disk.faults c.answer_round.new.disk) (g.D.Disk.history c.answer_round.new.disk).now
    c.in-Some-answer_round.status so given c.in_default.ensures.none
    (given-next c.loop-round.lines (g.S.Source.left c.loop-round.source) c.next_round.new.lines (g.S.Source.left c.next_round.new.source) c.in-Ok-Some.field-0 c.in-Ok-Some.round
    c.as_slice-commands.result.now c.in-Ok-Some.field-0-is c.as_slice-commands.ensures (λ text at stands ahead. c.in-Ok-Some.ensures.told text at stands ahead))
    c.in-Ok-Some.ensures.cause c.in-Some-answer_round.ensures.ended

-- each round has a line
pub loop-round-smaller : goal.loop-round-smaller
loop-round-smaller g c =
    let so = c.loop-round.invariant.so_far [] in
    let given = given-round so.at c.next_round.new.lines c.in-Ok-Some.field-0 c.in-Ok-Some.round c.as_slice-commands.result.now c.in-Ok-Some.field-0-is c.as_slice-commands.ensures
    (c.in-Ok-Some.ensures.given so.at so.stands) in
    omega (arith, given.later, so.stands.read, so.stands.limits.lines)

-- the round was answered
pub loop-round-preserved : goal.loop-round-preserved
loop-round-preserved g c =
    let inv = c.loop-round.invariant in
    let answered = c.in_default-answer_round.ensures in
    record {
      so_far = λ contents.
          let so = inv.so_far contents in
          let given = given-round so.at c.next_round.new.lines c.in-Ok-Some.field-0 c.in-Ok-Some.round c.as_slice-commands.result.now c.in-Ok-Some.field-0-is c.as_slice-commands.ensures
          (c.in-Ok-Some.ensures.given so.at so.stands) in
          so_far-next c.args.geometry.now contents _ _ _ _ _ c.answer_round.new.session _ c.next_round.new.lines c.as_slice-commands.result.now
          (g.S.Source.left c.next_round.new.source) (g.S.Source.faults c.next_round.new.source) (g.D.Disk.faults c.answer_round.new.disk) (g.D.Disk.history c.answer_round.new.disk).now
          so given c.in_default.ensures.none
          (given-next c.loop-round.lines (g.S.Source.left c.loop-round.source) c.next_round.new.lines (g.S.Source.left c.next_round.new.source) c.in-Ok-Some.field-0 c.in-Ok-Some.round
          c.as_slice-commands.result.now c.in-Ok-Some.field-0-is c.as_slice-commands.ensures (λ text at stands ahead. c.in-Ok-Some.ensures.told text at stands ahead))
          c.in-Ok-Some.ensures.cause answered.answered;
      reads = false-unless _ (λ failed. let e = c.in-Ok-Some.ensures.failed.0 failed in absurd (cc));
      marks = answered.marks ∙ inv.marks;
      sectors = answered.disk.0 ∙ inv.sectors;
      size = answered.disk.0 ∙ inv.size;
      place = answered.disk.1 ∙ inv.place;
      source_faults = c.in-Ok-Some.ensures.cause ∙ inv.source_faults;
      disk_faults = answered.cause.1 ∙ inv.disk_faults;
      sink = answered.cause.0 ∙ inv.sink;
    }
