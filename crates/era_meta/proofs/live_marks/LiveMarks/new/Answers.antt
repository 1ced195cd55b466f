use Rattle.era_meta.proofs.Firsts.{first-live}
use Rattle.era_meta.proofs.live_marks.LiveMarks.new.Goals as goal

pub invariant_of-result : goal.invariant_of-result
invariant_of-result c =
    first-live c.args.geometry.now.sectors c.args.geometry.now.block_sectors c.blocks-blocks.result _ _ _ _ c.blocks-blocks.ensures.value c.in_ok-array.ensures
    c.in_ok-current.ensures c.in_ok-archive.ensures c.in_ok-spare.ensures.count c.in_ok-spare.ensures.sizes
