use Rattle.std.proofs.Common.{◌∙◌, length, ap}
use Rattle.era_base.specs.Geometry.{blocks_of}
use Rattle.era_core.proofs.MarkCopies.{array-of, copied-view, entries-few}
use Rattle.era_core.proofs.Tables.{eras-length}
use Rattle.era_core.proofs.mark_copies.copy_marks.Goals as goal

-- there are at most 65,536 entries
pub runs_of_entries-requires : goal.runs_of_entries-requires
runs_of_entries-requires c = rw c.as_slice-2.ensures.value (entries-few c.blocks-2.result c.in_ok-entries.entries.items c.as_slice.result.now c.in_ok-entries.ensures c.blocks-2.ensures.range.1)

-- the copy ends within the blocks
pub invariant_of-result : goal.invariant_of-result
invariant_of-result c =
    let marks = c.marks.inside in
    let blocks = blocks_of marks.geometry.sectors marks.geometry.block_sectors in
    let is = rw (c.blocks-2.ensures.value, c.as_slice.ensures.value) at c.in_ok-entries.ensures in
    let size = ap length is ∙ eras-length 0 blocks marks.array in
    let array = array-of blocks c.in_ok-entries.entries.items c.in_ok-runs_of_entries.field-0 size
    (rw c.as_slice-2.ensures.value at c.in_ok-runs_of_entries.ensures.value) (rw c.as_slice-2.ensures.value at c.in_ok-runs_of_entries.ensures.within) in
    record {
      array_within = array.within;
      archive_within = rw (c.in_ok-copy_sets.ensures, c.as_slice-3.ensures) c.marks.invariant.archive_within;
      current_within = rw c.in_ok-copy_runs.ensures c.marks.invariant.current_within;
    }

-- the copy is the same block by block
pub returns : goal.returns
returns c =
    let marks = c.marks.inside in
    let blocks = blocks_of marks.geometry.sectors marks.geometry.block_sectors in
    let is = rw (c.blocks-2.ensures.value, c.as_slice.ensures.value) at c.in_ok-entries.ensures in
    let size = ap length is ∙ eras-length 0 blocks marks.array in
    let array = array-of blocks c.in_ok-entries.entries.items c.in_ok-runs_of_entries.field-0 size
    (rw c.as_slice-2.ensures.value at c.in_ok-runs_of_entries.ensures.value) (rw c.as_slice-2.ensures.value at c.in_ok-runs_of_entries.ensures.within) in
    rw (c.in_ok-copy_sets.ensures, c.as_slice-3.ensures, c.in_ok-copy_runs.ensures, ← c.marks.view_is)
    (copied-view marks.geometry marks.era marks.array c.in_ok-runs_of_entries.field-0 marks.archive marks.current (array.value ∙ is))
