use Rattle.era_base.specs.Geometry.{blocks_of}
use Rattle.era_core.proofs.MarkCopies.{archived-view, sets-within}
use Rattle.era_core.proofs.mark_copies.in_next_era.Goals as goal

-- the sets end within the blocks
pub invariant_of-result : goal.invariant_of-result
invariant_of-result c =
    let marks = c.marks.inside in
    rw (c.in_ok-push.ensures.ok, c.new.ensures) (record {
      array_within = c.marks.invariant.array_within;
      archive_within = sets-within (blocks_of marks.geometry.sectors marks.geometry.block_sectors) marks.archive _ c.marks.invariant.archive_within c.marks.invariant.current_within;
      current_within = tt;
    })

-- the current set is archived
pub returns : goal.returns
returns c =
    let marks = c.marks.inside in
    rw (c.in_ok-push.ensures.ok, c.new.ensures, ← c.marks.view_is) (archived-view marks.geometry marks.era marks.array marks.archive marks.current)
