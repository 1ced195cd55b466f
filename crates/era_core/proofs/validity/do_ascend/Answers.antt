use Rattle.std.proofs.Common.{arith}
use Rattle.std.proofs.lemmas.Bool.{false≢true}
use Rattle.era_core.proofs.Validating.{ascend-more, ascend-next}
use Rattle.era_core.proofs.validity.do_ascend.Goals as goal

-- the set isn't above the one before
pub returns-then-set-above : goal.returns-then-set-above
returns-then-set-above c = λ blocks.
    let l = c.loop-set in (
      λ h. absurd (false≢true h),
      λ all. let next = ascend-next blocks l.above c.args.below c.args.sets.now l.set-index c.set-item.result c.loop-set-test.true c.set-item.is ((l.invariant blocks).0 all) in
          let after = next.0 in absurd (omega arith),
    )

-- the set isn't below the present era
pub returns-then-below-set : goal.returns-then-below-set
returns-then-below-set c = λ blocks.
    let l = c.loop-set in (
      λ h. absurd (false≢true h),
      λ all. let next = ascend-next blocks l.above c.args.below c.args.sets.now l.set-index c.set-item.result c.loop-set-test.true c.set-item.is ((l.invariant blocks).0 all) in
          let before = next.1 in absurd (omega arith),
    )

-- one more set ascends
pub loop-set-preserved : goal.loop-set-preserved
loop-set-preserved c = λ blocks.
    let l = c.loop-set in
    let more = ascend-more blocks l.above c.args.below c.args.sets.now l.set-index c.set-item.result c.loop-set-test.true c.set-item.is c.if-set-above.false c.if-below-set.false in
    (λ all. more.0 ((l.invariant blocks).0 all), λ rest. (l.invariant blocks).1 (more.1 rest))
