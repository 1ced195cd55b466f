use Rattle.std.proofs.Common.{◌<◌, ◌≤◌, ℕ, max, Vec, Global, ap, ◌∙◌}
use Rattle.std.proofs.lemmas.Bool.{le-leb, lt-leb}
use Rattle.era_model.specs.Marks.{marks_last_era}
use Rattle.era_tools.proofs.WrittenBlocks.{written-next, written-past}
use Rattle.era_tools.proofs.listed.list_written.Goals as goal
use Rattle.era_tools.proofs.listed.list_written.Goals.{then-max-last_era+in_ok-push, else-max-last_era}

-- one more was looked at
pub loop-block-preserved : goal.loop-block-preserved
loop-block-preserved c = elim c.if-max-last_era.branch [
  | then-max-last_era+in_ok-push w ↦
      let reached : max c.args.since 1 ≤ marks_last_era c.args.marks.now c.loop-block.block = rw (c.max.ensures, c.last_era.ensures) at w.if-max-last_era.true in
      ap (λ (blocks : Vec ℕ Global). blocks.items) w.blocks-is
      ∙ w.in_ok-push.ensures.items
      ∙ written-next c.args.marks.now c.args.since c.loop-block.block c.loop-block.blocks.items c.loop-block.invariant (le-leb _ _ reached)
  | else-max-last_era w ↦
      let below : marks_last_era c.args.marks.now c.loop-block.block < max c.args.since 1 = rw (c.max.ensures, c.last_era.ensures) at w.if-max-last_era.false in
      ap (λ (blocks : Vec ℕ Global). blocks.items) w.blocks-is
      ∙ written-past c.args.marks.now c.args.since c.loop-block.block c.loop-block.blocks.items c.loop-block.invariant (lt-leb _ _ below)
]
