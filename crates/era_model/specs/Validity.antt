-- Which marks are valid: those that a dump text may spell.
use Rattle.std.specs.Prelude.{◌≡◌, ℕ, ◌-◌, ◌<◌, ◌≤◌, List, [], ◌∷◌, length, Option, Some, None}
use Rattle.era_base.specs.declared.limits.TheConstants.{MOST_SETS}
use Rattle.era_model.specs.Marks.{ArchivedSet, BlockMarks, blocks_of_marks, entry_of}

-- The archived sets are of so many blocks, and their eras ascend strictly, above one era and below another.
abbrev pub AreArchivedBetween : ℕ → ℕ → ℕ → List ArchivedSet → Type 0
AreArchivedBetween blocks above below [] = Unit {0}
AreArchivedBetween blocks above below (set ∷ sets) =
    (above < set.era) × (set.era < below) × (length set.blocks ≡ blocks) × AreArchivedBetween blocks set.era below sets

-- The greatest era that an array entry may have: that of the oldest archived set, and without archived sets the one before the present era.
abbrev pub entry_limit : List ArchivedSet → ℕ → ℕ
entry_limit [] era = era - 1
entry_limit (oldest ∷ sets) era = oldest.era

-- Valid marks: the present era is at least 1, the array and the current set are of the geometry's blocks, the archived sets ascend below the present era, there are at most sixteen, and no array entry is above the limit.
pub record AreValidMarks (m : BlockMarks) : Type 0 where
  pub begun : 1 ≤ m.era
  pub array_size : length m.array ≡ blocks_of_marks m
  pub current_size : length m.current ≡ blocks_of_marks m
  pub archive : AreArchivedBetween (blocks_of_marks m) 0 m.era m.archive
  pub few_sets : length m.archive ≤ MOST_SETS
  pub entries : (block : ℕ) → entry_of m.array block ≤ entry_limit m.archive m.era

-- A held snapshot is valid marks, and there may be none.
abbrev pub IsValidSnapshot : Option BlockMarks → Type 0
IsValidSnapshot None = Unit {0}
IsValidSnapshot (Some m) = AreValidMarks m
