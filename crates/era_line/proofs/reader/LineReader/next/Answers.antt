use Rattle.std.proofs.Common.{ℕ, List, refl, ◌∙◌, subst, arith}
use Rattle.std.proofs.lemmas.Result.{err_from_is_err_and}
use Rattle.era_line.specs.Moving.{IsLast}
use Rattle.era_line.proofs.Inside.{LeavesRest-none, LeavesRest-kept, LeavesRest-filled, none_taken, IsInside-start, IsInside-all, IsInside-filled, ReadsLine-ended, BeginsLong-exceeds, FailsInside-failed, Gives-last, left_inside, not_enough}
use Rattle.era_line.proofs.reader.LineReader.next.Goals as goal

pub loop-self-init : goal.loop-self-init
loop-self-init g c = record {
  inside = λ text ahead. rw c.clear.ensures.items (IsInside-start text c.args.self.now _ ahead);
  leaves = LeavesRest-none (g.S.Source.left c.args.source.now);
  short = omega (arith, c.clear.ensures.len);
  asked = λ _. (refl, refl, c.clear.ensures.items);
  kept = refl;
}

pub returns-in-Ended-clause-told : goal.returns-in-Ended-clause-told
returns-in-Ended-clause-told g c = λ text ahead.
    ReadsLine-ended text c.loop-self.line.items c.loop-self.self c.move_to.new.line.items c.move_to.new.self _
    (c.loop-self.invariant.inside text ahead) (rw c.in-Ended.is at c.in_ok-move_to.ensures.moved)

pub returns-in-TooLong-clause-told : goal.returns-in-TooLong-clause-told
returns-in-TooLong-clause-told g c = λ text ahead.
    BeginsLong-exceeds c.args.most text c.loop-self.line.items c.loop-self.self _
    (c.loop-self.invariant.inside text ahead) (rw c.in-TooLong.is at c.in_ok-move_to.ensures.moved)

pub returns-in_err-fill-clause-told : goal.returns-in_err-fill-clause-told
returns-in_err-fill-clause-told g c = λ text ahead.
    let all = rw c.in-All.is at c.in_ok-move_to.ensures.moved in
    let here = IsInside-all text c.loop-self.line.items c.loop-self.self c.move_to.new.line.items c.move_to.new.self _
    (c.loop-self.invariant.inside text ahead) all in
    let told = c.in_err-fill.ensures.told here.rest (left_inside text c.move_to.new.line.items c.move_to.new.self _ here all.empty) in
    let p = err_from_is_err_and c.from_residual-in_err-fill.result c.from_residual-in_err-fill.ensures.1 in
    rw (p.1, p.2) (FailsInside-failed c.args.most text c.move_to.new.line.items here.rest _ c.in_err-fill.field-0.0 here.joined here.inside told
    (omega (arith, c.in_ok-move_to.ensures.short)))

pub returns-in_err-fill-clause-leaves : goal.returns-in_err-fill-clause-leaves
returns-in_err-fill-clause-leaves g c = LeavesRest-kept _ _ _ c.loop-self.invariant.leaves c.in_err-fill.ensures.told

pub returns-in_err-fill-clause-asks : goal.returns-in_err-fill-clause-asks
returns-in_err-fill-clause-asks g c = λ enough.
    let none = c.loop-self.invariant.asked enough in
    absurd (not_enough c.args.most c.args.self.now c.loop-self.self c.loop-self.line.items c.move_to.new.line.items c.move_to.new.self enough none.1 none.2
    (rw c.in-All.is at c.in_ok-move_to.ensures.moved) (omega (arith, c.in_ok-move_to.ensures.short)))

pub returns-then-not-branch-clause-told : goal.returns-then-not-branch-clause-told
returns-then-not-branch-clause-told g c = λ text ahead.
    let all = rw c.in-All.is at c.in_ok-move_to.ensures.moved in
    let here = IsInside-all text c.loop-self.line.items c.loop-self.self c.move_to.new.line.items c.move_to.new.self _
    (c.loop-self.invariant.inside text ahead) all in
    let told = c.in_ok-fill.ensures.told here.rest (left_inside text c.move_to.new.line.items c.move_to.new.self _ here all.empty) in
    Gives-last c.args.most text c.move_to.new.line.items c.fill.new.self _ c.last.result here.rest here.joined here.inside told
    (none_taken c.fill.new.self c.in_ok-fill.field-0 c.in_ok-fill.ensures.some c.if-not-branch.true)
    (subst (λ (l : List ℕ). IsLast l c.last.result) c.deref.ensures.value c.last.ensures)

pub returns-then-not-branch-clause-leaves : goal.returns-then-not-branch-clause-leaves
returns-then-not-branch-clause-leaves g c = LeavesRest-filled _ _ _ c.fill.new.self c.loop-self.invariant.leaves c.in_ok-fill.ensures.told

pub returns-then-not-branch-clause-asks : goal.returns-then-not-branch-clause-asks
returns-then-not-branch-clause-asks g c = λ enough.
    let none = c.loop-self.invariant.asked enough in
    absurd (not_enough c.args.most c.args.self.now c.loop-self.self c.loop-self.line.items c.move_to.new.line.items c.move_to.new.self enough none.1 none.2
    (rw c.in-All.is at c.in_ok-move_to.ensures.moved) (omega (arith, c.in_ok-move_to.ensures.short)))

pub loop-self-preserved : goal.loop-self-preserved
loop-self-preserved g c = record {
  inside = λ text ahead.
      let all = rw c.in-All.is at c.in_ok-move_to.ensures.moved in
      let here = IsInside-all text c.loop-self.line.items c.loop-self.self c.move_to.new.line.items c.move_to.new.self _
      (c.loop-self.invariant.inside text ahead) all in
      let told = c.in_ok-fill.ensures.told here.rest (left_inside text c.move_to.new.line.items c.move_to.new.self _ here all.empty) in
      IsInside-filled text c.move_to.new.line.items c.fill.new.self _ here.rest here.joined here.inside told;
  leaves = LeavesRest-filled _ _ _ c.fill.new.self c.loop-self.invariant.leaves c.in_ok-fill.ensures.told;
  short = omega (arith, c.in_ok-move_to.ensures.short);
  asked = λ enough.
      let none = c.loop-self.invariant.asked enough in
      absurd (not_enough c.args.most c.args.self.now c.loop-self.self c.loop-self.line.items c.move_to.new.line.items c.move_to.new.self enough none.1 none.2
      (rw c.in-All.is at c.in_ok-move_to.ensures.moved) (omega (arith, c.in_ok-move_to.ensures.short)));
  kept = c.in_ok-fill.ensures.cause ∙ c.loop-self.invariant.kept;
}
