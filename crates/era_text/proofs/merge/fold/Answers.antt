use Rattle.std.proofs.Common.{◌≡◌, ap, ◌∙◌}
use Rattle.std.specs.Prelude.{replicate}
use Rattle.era_base.specs.Geometry.{blocks_of}
use Rattle.era_text.proofs.Raises.{fold-is, merged-runs}
use Rattle.era_text.proofs.merge.fold.Goals as goal

-- the runs of the raised entries are those of the merged array
pub returns : goal.returns
returns c =
    let m = c.marks.inside in
    let blocks = blocks_of m.geometry.sectors m.geometry.block_sectors in
    let zeros = c.in_ok-entries.ensures.items_if_clones_equal (λ y same. same) in
    let empty : c.in_ok-entries.entries.items ≡ replicate blocks 0 = zeros ∙ ap (λ count. replicate count 0) c.blocks-2.ensures.value in
    let first = rw (c.as_mut_slice-raised.ensures.value, c.as_slice.ensures.value) at c.raise_array.ensures in
    let second = rw c.as_slice-2.ensures at c.raise_sets.ensures in
    let merged = merged-runs blocks m.array c.in_ok-array.array m.archive c.in_ok-entries.entries.items c.raise_array.new.entries c.raise_sets.new.entries
    empty c.as_slice.ensures.runs first second c.in_ok-array.ensures in
    fold-is c.args.marks.now m.geometry m.era m.array c.in_ok-array.array m.archive c.new.result m.current c.in_ok-current.current
    c.marks.view_is c.new.ensures (c.in_ok-current.ensures ∙ c.as_slice-3.ensures.value) merged.1
