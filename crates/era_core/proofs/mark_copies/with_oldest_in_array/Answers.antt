use Rattle.std.proofs.Common.{◌≡◌, ◌∙◌, ◌∷◌, length, refl, sym, ap, arith}
use Rattle.era_base.specs.Geometry.{blocks_of}
use Rattle.era_model.specs.MarkRuns.{marks_of_runs}
use Rattle.era_model.specs.Marks.{with_oldest_merged}
use Rattle.era_core.proofs.MarkCopies.{array-of, entries-few, merged-view, transcribed-length}
use Rattle.era_core.proofs.Tables.{eras-length}
use Rattle.era_core.proofs.mark_copies.with_oldest_in_array.Goals as goal

-- there are at most 65,536 entries
pub merge_set-requires : goal.merge_set-requires
merge_set-requires c =
    let few = entries-few c.blocks-2.result c.in_ok-entries.entries.items c.as_slice-2.result.now c.in_ok-entries.ensures c.blocks-2.ensures.range.1 in omega (arith, few)

-- and as many once a set was merged
pub runs_of_entries-requires : goal.runs_of_entries-requires
runs_of_entries-requires c =
    let few = entries-few c.blocks-2.result c.in_ok-entries.entries.items c.as_slice-2.result.now c.in_ok-entries.ensures c.blocks-2.ensures.range.1 in
    let same = ap length c.merge_set.ensures ∙ transcribed-length _ 0 c.in_ok-entries.entries.items in
    rw c.as_slice-3.ensures.value (omega (arith, few, same))

-- the marks end within the blocks
pub invariant_of-result : goal.invariant_of-result
invariant_of-result c =
    let marks = c.marks.inside in
    let blocks = blocks_of marks.geometry.sectors marks.geometry.block_sectors in
    let archive : marks.archive ≡ c.in-Some.oldest.now ∷ c.in-Some.later.now = sym c.as_slice.ensures ∙ c.in-Some.ensures.cases.0 in
    let is = rw (c.blocks-2.ensures.value, c.as_slice-2.ensures.value) at c.in_ok-entries.ensures in
    let size = ap length c.merge_set.ensures ∙ transcribed-length _ 0 c.in_ok-entries.entries.items ∙ ap length is ∙ eras-length 0 blocks marks.array in
    let array = array-of blocks c.merge_set.new.entries.items c.in_ok-runs_of_entries.field-0 size
    (rw c.as_slice-3.ensures.value at c.in_ok-runs_of_entries.ensures.value) (rw c.as_slice-3.ensures.value at c.in_ok-runs_of_entries.ensures.within) in
    let sets = rw archive at c.marks.invariant.archive_within in
    record {
      array_within = array.within;
      archive_within = rw c.in_ok-copy_sets.ensures sets.1;
      current_within = rw c.in_ok-copy_runs.ensures c.marks.invariant.current_within;
    }

-- the oldest set is merged
pub returns : goal.returns
returns c =
    let marks = c.marks.inside in
    let blocks = blocks_of marks.geometry.sectors marks.geometry.block_sectors in
    let archive : marks.archive ≡ c.in-Some.oldest.now ∷ c.in-Some.later.now = sym c.as_slice.ensures ∙ c.in-Some.ensures.cases.0 in
    let is = rw (c.blocks-2.ensures.value, c.as_slice-2.ensures.value) at c.in_ok-entries.ensures in
    let old_size = ap length is ∙ eras-length 0 blocks marks.array in
    let size = ap length c.merge_set.ensures ∙ transcribed-length _ 0 c.in_ok-entries.entries.items ∙ old_size in
    let array = array-of blocks c.merge_set.new.entries.items c.in_ok-runs_of_entries.field-0 size
    (rw c.as_slice-3.ensures.value at c.in_ok-runs_of_entries.ensures.value) (rw c.as_slice-3.ensures.value at c.in_ok-runs_of_entries.ensures.within) in
    let merged = rw (old_size, is) at c.merge_set.ensures in
    let made : marks_of_runs marks.geometry marks.era c.in_ok-runs_of_entries.field-0 c.in_ok-copy_sets.field-0 c.in_ok-copy_runs.field-0 ≡ marks_of_runs marks.geometry marks.era c.in_ok-runs_of_entries.field-0 c.in-Some.later.now marks.current =
    rw (c.in_ok-copy_sets.ensures, c.in_ok-copy_runs.ensures) refl in
    let merges = merged-view marks.geometry marks.era marks.array c.in_ok-runs_of_entries.field-0 marks.archive c.in-Some.oldest.now c.in-Some.later.now marks.current archive (array.value ∙ merged) in
    made ∙ merges ∙ ap (λ m. with_oldest_merged m m.archive) c.marks.view_is
