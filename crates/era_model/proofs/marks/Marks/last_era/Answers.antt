use Rattle.std.proofs.Common.{sym, ◌<◌}
use Rattle.era_base.specs.Geometry.{blocks_of}
use Rattle.era_model.proofs.FlagsOfRuns.{last_era-beyond, last_era-of_runs}
use Rattle.era_model.proofs.marks.Marks.last_era.Goals as goal

-- a block past the end has no mark
pub returns-then-blocks-block : goal.returns-then-blocks-block
returns-then-blocks-block c =
    let m = c.self.inside in
    sym (rw (← c.self.view_is) (last_era-beyond m.geometry m.era m.array m.archive m.current c.args.block (rw c.blocks-2.ensures.value at c.if-blocks-block.true)))

-- the runs tell the greatest era
pub returns : goal.returns
returns c =
    let m = c.self.inside in
    let blocks = blocks_of m.geometry.sectors m.geometry.block_sectors in
    let within : c.args.block < blocks = rw c.blocks-2.ensures.value at c.if-blocks-block.false in
    rw (← c.self.view_is, c.max-2.ensures, c.max.ensures)
    (last_era-of_runs m.geometry m.era m.array m.archive m.current c.args.block _ _ _ within
    (rw c.as_slice-2.ensures.value at c.run_era-entry.ensures)
    (rw c.as_slice-3.ensures at (c.last_set_era.ensures blocks within))
    (rw c.as_slice.ensures.value at c.era_if_covered-present.ensures))
