-- The marks of a session as they stand in memory.
use Rattle.std.specs.Prelude.{◌≡◌, ℕ, ◌+◌, ◌≤◌, All, List, length}
use Rattle.era_base.specs.declared.limits.TheConstants.{MOST_SETS}
use Rattle.era_model.specs.Marks.{ArchivedSet, BlockMarks, blocks_of_marks}
use Rattle.era_model.specs.Validity.{AreValidMarks}

-- The marks are valid. With the spare sets there are as many sets of that many blocks as can be archived, and room for each.
pub record AreParts (m : BlockMarks) (spare : List ArchivedSet) (capacity : ℕ) : Type 0 where
  pub valid : AreValidMarks m
  pub sizes : All (λ set. length set.blocks ≡ blocks_of_marks m) spare
  pub sets : length m.archive + length spare ≡ MOST_SETS
  pub room : MOST_SETS ≤ capacity
