-- The marks as they stand in memory.
use Rattle.std.specs.Prelude.{◌≡◌, ℕ, ◌+◌, ◌<◌, ◌≤◌, true, List, ◌∷◌, length}
use Rattle.std.specs.List.{AllByRecursion}
use Rattle.era_base.specs.declared.limits.TheConstants.{MOST_SETS}
use Rattle.era_model.specs.Marks.{ArchivedSet, BlockMarks, blocks_of_marks, transcribed}
use Rattle.era_model.specs.Validity.{AreValidMarks}

-- The marks are valid, and with the spare sets there are as many sets of that many blocks as can be archived.
pub record AreLiveParts (m : BlockMarks) (spare : List ArchivedSet) : Type 0 where
  pub valid : AreValidMarks m
  pub sizes : AllByRecursion (λ set. length set.blocks ≡ blocks_of_marks m) spare
  pub sets : length m.archive + length spare ≡ MOST_SETS

-- Where fewer than sixteen sets are archived nothing changes. Else the oldest is merged into the array, and leaves.
pub record MakesRoom (array array' : List ℕ) (archive archive' : List ArchivedSet) : Type 0 where
  pub few : length archive < MOST_SETS → (array' ≡ array) × (archive' ≡ archive)
  pub full : (oldest : ArchivedSet) (sets : List ArchivedSet) → archive ≡ oldest ∷ sets → MOST_SETS ≤ length archive
      → (array' ≡ transcribed oldest (λ block. true) 0 array) × (archive' ≡ sets)
