use Rattle.std.proofs.Common.{arith}
use Rattle.std.proofs.lemmas.Bool.{false≢true}
use Rattle.era_base.specs.Geometry.{blocks_of}
use Rattle.era_core.proofs.Tables.{sets-length}
use Rattle.era_core.proofs.Validating.{valid-of_runs}
use Rattle.era_core.proofs.validity.is_valid.Goals as goal

-- too many sets
pub returns-then-sets : goal.returns-then-sets
returns-then-sets c =
    let m = c.m.inside in
    let blocks = blocks_of m.geometry.sectors m.geometry.block_sectors in
    let many = rw c.as_slice-sets.ensures at c.if-sets.true in
    (λ h. absurd (false≢true h), λ valid. let valid' = rw (← c.m.view_is) at valid in let few = rw (sets-length blocks m.archive) at valid'.few_sets in absurd (omega arith))

-- the entries decide
pub returns : goal.returns
returns c =
    let m = c.m.inside in
    let blocks = blocks_of m.geometry.sectors m.geometry.block_sectors in
    let ascend = rw c.as_slice-sets.ensures at ((c.do_ascend.ensures blocks).0 c.if-not-do_ascend.false) in
    let few = rw c.as_slice-sets.ensures at c.if-sets.false in
    let limit = rw c.as_slice-sets.ensures at (c.limit_of.ensures blocks) in
    let within = rw (c.blocks-2.ensures.value, c.as_slice.ensures.value, limit) at c.are_within.ensures in (
      λ h. rw (← c.m.view_is) (valid-of_runs m.geometry m.era m.array m.archive m.current c.if-m-lt1.false ascend few (within.0 h)),
      λ valid. let valid' = rw (← c.m.view_is) at valid in within.1 valid'.entries,
    )
