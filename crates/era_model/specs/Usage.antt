-- How many metadata blocks are used, as a status tells it.
use Rattle.std.specs.Prelude.{◌≡◌, ℕ, ◌+◌, ◌*◌, ◌≤◌, length, Option, Some, None}
use Rattle.era_base.specs.Geometry.{array_pages_of, bit_pages_of}
use Rattle.era_model.specs.Marks.{BlockMarks, blocks_of_marks}

-- The pages of marks: those of the array, and of the current and of each archived set.
abbrev pub pages_of_marks : BlockMarks → ℕ
pages_of_marks m = array_pages_of (blocks_of_marks m) + bit_pages_of (blocks_of_marks m) * (1 + length m.archive)

-- Used metadata blocks are the two slots and the pages of the marks. A held snapshot adds its own block, and those of its pages that the marks don't share.
abbrev pub IsUsage : BlockMarks → Option BlockMarks → ℕ → Type 0
IsUsage m None used = used ≡ 2 + pages_of_marks m
IsUsage m (Some held) used = (2 + pages_of_marks m + 1 ≤ used) × (used ≤ 2 + pages_of_marks m + 1 + pages_of_marks held)

-- The metadata block at which the snapshot is held, none where none is.
abbrev pub held_block : Option BlockMarks → Option ℕ
held_block None = None
held_block (Some held) = Some 2
