use Rattle.std.proofs.Common.{◌≡◌, ◌+◌, length, arith}
use Rattle.era_model.proofs.RunsOfFlags.{so_far-closed, so_far-finished, so_far-kept}
use Rattle.era_model.proofs.block_runs.runs_of_flags.Goals as goal
use Rattle.era_model.proofs.block_runs.runs_of_flags.Goals.{then-not-flag+in_ok-add_blocks, else-not-flag}

-- one more flag was looked at
pub loop-index-preserved : goal.loop-index-preserved
loop-index-preserved c =
    let l = c.loop-index in
    let begun = l.invariant.begun in
    elim c.if-not-flag.branch [
      | then-not-flag+in_ok-add_blocks w ↦
          rw (w.runs-is, w.first-is)
          (so_far-closed c.args.flags.now l.runs w.add_blocks.new.runs l.first l.index l.invariant w.if-not-flag.true
          w.in_ok-add_blocks.ensures.added (w.in_ok-add_blocks.ensures.ends (l.index + 1) (omega arith) (omega arith)))
      | else-not-flag w ↦ rw (w.runs-is, w.first-is) (so_far-kept c.args.flags.now l.runs l.first l.index l.invariant w.if-not-flag.false)
    ]

-- the last ones were added
pub returns : goal.returns
returns c =
    let l = c.loop-index in
    let at_end : l.index ≡ length c.args.flags.now = omega arith in
    so_far-finished c.args.flags.now l.runs c.add_blocks-2.new.runs l.first (rw at_end at l.invariant)
    c.in_ok-add_blocks-2.ensures.added (rw c.runs-2.view_is at c.runs-2.invariant)
