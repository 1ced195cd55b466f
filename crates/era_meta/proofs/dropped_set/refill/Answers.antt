use Rattle.std.proofs.Common.{◌≤◌, length, ap, ◌∙◌, arith}
use Rattle.era_meta.proofs.DroppedSets.{length-none, refill-end}
use Rattle.era_meta.proofs.dropped_set.refill.Goals as goal

pub returns : goal.returns
returns c = λ flags size bits.
    let count = c.len-block-end.ensures ∙ ap length c.clear.ensures ∙ length-none (length c.args.set.now) in
    let past : length c.args.set.now ≤ c.loop-block.block = omega (arith, count, c.loop-block-test.false) in
    refill-end c.args.words.now (length c.args.set.now) c.loop-block.block c.loop-block.set flags past c.loop-block.invariant size bits
