use Rattle.std.proofs.Common.{◌<◌, ◌+◌, length, sym, ◌∙◌, subst, arith}
use Rattle.std.specs.Prelude.{slice_set}
use Rattle.era_marks.proofs.SetLists.{IsMerging, merging-end, merging-has, merging-other, merging-start}
use Rattle.era_marks.proofs.room.merge.Goals as goal
use Rattle.era_marks.proofs.room.merge.Goals.{then-has, else-has}

pub loop-block-init : goal.loop-block-init
loop-block-init c = merging-start c.args.set.now c.args.array.now.items

-- the entry of the present block is merged
pub loop-block-preserved : goal.loop-block-preserved
loop-block-preserved c =
    let within : c.loop-block.block < length c.args.array.now.items = omega (arith, c.loop-block-test.true, c.len-block-end.ensures, c.args.array.now.ok.0) in
    elim c.if-has.branch [
      | then-has w ↦ rw w.array-is
          (subst (λ era. IsMerging c.args.set.now c.args.array.now.items (slice_set c.loop-block.array.items c.loop-block.block era) (c.loop-block.block + 1)) (sym w.era.ensures)
          (merging-has c.args.set.now c.args.array.now.items c.loop-block.array.items c.loop-block.block c.loop-block.invariant within (sym c.has.ensures ∙ w.if-has.true)))
      | else-has w ↦ rw w.array-is (merging-other c.args.set.now c.args.array.now.items c.loop-block.array.items c.loop-block.block c.loop-block.invariant within (sym c.has.ensures ∙ w.if-has.false))
    ]

pub returns-clause-value : goal.returns-clause-value
returns-clause-value c =
    merging-end c.args.set.now c.args.array.now.items c.loop-block.array.items c.loop-block.block c.loop-block.invariant
    (omega (arith, c.loop-block-test.false, c.len-block-end.ensures, c.args.array.now.ok.0))
