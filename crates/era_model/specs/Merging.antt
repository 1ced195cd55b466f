-- Marks whose archived sets are merged into the era array.
use Rattle.std.specs.Prelude.{ℕ, ◌+◌, max, List, [], ◌∷◌}
use Rattle.era_model.specs.Marks.{ArchivedSet, BlockMarks, last_archived}

-- The array, counted from a block on, with the greatest of its entry and the eras of the archived sets that have it as each block's entry.
abbrev pub merged_array : List ArchivedSet → ℕ → List ℕ → List ℕ
merged_array sets block [] = []
merged_array sets block (entry ∷ entries) = max entry (last_archived sets block) ∷ merged_array sets (block + 1) entries

-- The marks with all archived sets merged into the era array, and the current set and the era as they were.
abbrev pub merged_marks : BlockMarks → BlockMarks
merged_marks m = record m { array = merged_array m.archive 0 m.array; archive = [] }
