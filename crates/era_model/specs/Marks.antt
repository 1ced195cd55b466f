-- Marks block by block: the era array, the archived write sets and the set of the present era, and how each change of the metadata changes them.
use Rattle.std.specs.Prelude.{ℕ, ◌+◌, ◌&&◌, max, nat_lt, nat_le, Bool, true, false, List, [], ◌∷◌, ◌++◌, length, replicate, slice_index_or, slice_set, if◌then◌else◌}
use Rattle.era_base.specs.Flags.{has}
use Rattle.era_base.specs.Geometry.{blocks_of}
use Rattle.era_base.specs.declared.limits.TheConstants.{MOST_SETS}

-- A write set that was archived: the era in which it was written, and for each block whether it is in the set.
pub record ArchivedSet : Type 0 where
  pub era : ℕ
  pub blocks : List Bool

-- What a metadata image means: the origin's length and block size in sectors, the present era, each block's entry of the era array (0 for none), the archived sets (oldest first), and for each block whether it is marked in the present era.
pub record BlockMarks : Type 0 where
  pub sectors : ℕ
  pub block_sectors : ℕ
  pub era : ℕ
  pub array : List ℕ
  pub archive : List ArchivedSet
  pub current : List Bool

-- How many blocks the marks are of.
abbrev pub blocks_of_marks : BlockMarks → ℕ
blocks_of_marks m = blocks_of m.sectors m.block_sectors

-- The block's entry of the era array, 0 past the end.
abbrev pub entry_of : List ℕ → ℕ → ℕ
entry_of array block = slice_index_or array block 0

-- The greatest era of the archived sets that have the block, 0 where none has it.
abbrev pub last_archived : List ArchivedSet → ℕ → ℕ
last_archived [] block = 0
last_archived (set ∷ sets) block = max (if has set.blocks block then set.era else 0) (last_archived sets block)

-- The last marked era of a block: the greatest of its array entry, the eras of the archived sets that have it, and the present era where the current set has it; 0 for never.
abbrev pub marks_last_era : BlockMarks → ℕ → ℕ
marks_last_era m block =
    max (entry_of m.array block) (max (last_archived m.archive block) (if has m.current block then m.era else 0))

-- Whether the block was written since the era: its last marked era is at least that era. Era 0 means the same as 1.
abbrev pub written_since : BlockMarks → ℕ → ℕ → Bool
written_since m era block = nat_le (max era 1) (marks_last_era m block)

-- No marks of any block, in the era.
abbrev pub no_marks : ℕ → ℕ → ℕ → BlockMarks
no_marks sectors block_sectors era = record {
  sectors = sectors;
  block_sectors = block_sectors;
  era = era;
  array = replicate (blocks_of sectors block_sectors) 0;
  archive = [];
  current = replicate (blocks_of sectors block_sectors) false;
}

-- The marks with one more block marked in the present era.
abbrev pub with_block : BlockMarks → ℕ → BlockMarks
with_block m block = record m { current = slice_set m.current block true }

-- The array, counted from a block on, with the era as the entry of each block that is in the set and passes the test.
abbrev pub transcribed : ArchivedSet → (ℕ → Bool) → ℕ → List ℕ → List ℕ
transcribed set test block [] = []
transcribed set test block (entry ∷ entries) =
    (if test block && has set.blocks block then set.era else entry) ∷ transcribed set test (block + 1) entries

-- The marks with the oldest of the given archived sets merged into the array, and the others left.
abbrev pub with_oldest_merged : BlockMarks → List ArchivedSet → BlockMarks
with_oldest_merged m [] = m
with_oldest_merged m (oldest ∷ sets) = record m { array = transcribed oldest (λ block. true) 0 m.array; archive = sets }

-- The marks with the current set archived under the era that ends, and the next era begun without marks.
abbrev pub with_current_archived : BlockMarks → BlockMarks
with_current_archived m = record m {
  era = m.era + 1;
  archive = m.archive ++ record { era = m.era; blocks = m.current } ∷ [];
  current = replicate (length m.current) false;
}

-- The marks after an era switch: where sixteen sets are archived, the oldest is merged first.
abbrev pub rolled : BlockMarks → BlockMarks
rolled m = with_current_archived (if nat_lt (length m.archive) MOST_SETS then m else with_oldest_merged m m.archive)
