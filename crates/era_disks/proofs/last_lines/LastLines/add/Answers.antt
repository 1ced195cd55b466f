use Rattle.std.proofs.Common.{take, slice_index_or}
use Rattle.std.proofs.lemmas.List.{take_more}
use Rattle.era_disks.specs.LastLines.{end_after}
use Rattle.era_disks.proofs.TextEnds.{end_after-more}
use Rattle.era_disks.proofs.last_lines.LastLines.add.Goals as goal

-- one byte more
pub loop-byte-preserved : goal.loop-byte-preserved
loop-byte-preserved c = λ end was.
    let text = c.args.text.now in
    let done = take c.loop-byte.byte-index text in
    rw (take_more text c.loop-byte.byte-index 0 c.loop-byte-test.true, end_after-more end done (slice_index_or text c.loop-byte.byte-index 0))
    (c.push.ensures (end_after end done) (c.loop-byte.invariant end was))
