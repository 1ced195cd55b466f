use Rattle.std.proofs.Common.{◌∙◌, length}
use Rattle.era_base.specs.Geometry.{blocks_of}
use Rattle.era_meta.specs.AsRuns.{TellEntries, TellSets}
use Rattle.era_meta.proofs.MarkRunsTold.{marks-told, sizes-of, within-all}
use Rattle.era_meta.proofs.live_marks.LiveMarks.to_marks.Goals as goal

pub invariant_of-result : goal.invariant_of-result
invariant_of-result c =
    let m = c.self.inside in let blocks = blocks_of m.geometry.sectors m.geometry.block_sectors in let valid = c.self.invariant.valid in
    let array : TellEntries c.in_ok-array.array (length m.array) m.array = rw c.as_slice.ensures at c.in_ok-array.ensures in
    let sizes = sizes-of blocks 0 m.era m.archive valid.archive in
    let archive : TellSets c.in_ok-archive.archive blocks m.archive = rw c.as_slice-2.ensures at (c.in_ok-archive.ensures blocks (rw c.as_slice-2.ensures sizes)) in
    within-all blocks m.array m.archive m.current c.in_ok-array.array c.in_ok-archive.archive c.in_ok-current.current valid.array_size valid.current_size array sizes archive c.in_ok-current.ensures

pub returns : goal.returns
returns c =
    let m = c.self.inside in let blocks = blocks_of m.geometry.sectors m.geometry.block_sectors in let valid = c.self.invariant.valid in
    let array : TellEntries c.in_ok-array.array (length m.array) m.array = rw c.as_slice.ensures at c.in_ok-array.ensures in
    let sizes = sizes-of blocks 0 m.era m.archive valid.archive in
    let archive : TellSets c.in_ok-archive.archive blocks m.archive = rw c.as_slice-2.ensures at (c.in_ok-archive.ensures blocks (rw c.as_slice-2.ensures sizes)) in
    marks-told m.geometry m.era m.array m.archive m.current c.in_ok-array.array c.in_ok-archive.archive c.in_ok-current.current valid.array_size valid.current_size array sizes archive c.in_ok-current.ensures
    ∙ c.self.view_is
