-- Runs of blocks, as they stand in memory, seen block by block.
use Rattle.std.specs.Prelude.{ℕ, zero, suc, ◌+◌, ◌<◌, ◌&&◌, nat_le, Bool, List, [], ◌∷◌, if◌then◌else◌}
use Rattle.era_base.specs.Geometry.{blocks_of}
use Rattle.era_base.specs.Runs.{runs_cover}
use Rattle.era_base.specs.declared.geometry.Geometry.{Geometry}
use Rattle.era_model.specs.declared.marked_set.MarkedSet.{MarkedSet}
use Rattle.era_model.specs.EraRuns.{EndWithin}
use Rattle.era_model.specs.Marks.{ArchivedSet, BlockMarks}

-- For each of so many blocks, counted from the first, whether it lies in one of the runs.
abbrev pub flags_of_runs : ℕ → ℕ → List (ℕ × ℕ) → List Bool
flags_of_runs first zero runs = []
flags_of_runs first (suc count) runs = runs_cover runs first ∷ flags_of_runs (first + 1) count runs

-- The era of the run in which the block lies, 0 where it lies in none.
abbrev pub era_in_runs : List (ℕ × ℕ × ℕ) → ℕ → ℕ
era_in_runs [] block = 0
era_in_runs (run ∷ runs) block = if nat_le run.0 block && nat_le block run.1 then run.2 else era_in_runs runs block

-- The entries of so many blocks, counted from the first.
abbrev pub eras_of_runs : ℕ → ℕ → List (ℕ × ℕ × ℕ) → List ℕ
eras_of_runs first zero runs = []
eras_of_runs first (suc count) runs = era_in_runs runs first ∷ eras_of_runs (first + 1) count runs

-- The archived sets of so many blocks, block by block.
abbrev pub sets_of_runs : ℕ → List MarkedSet → List ArchivedSet
sets_of_runs blocks [] = []
sets_of_runs blocks (set ∷ sets) = record { era = set.era; blocks = flags_of_runs 0 blocks set.blocks } ∷ sets_of_runs blocks sets

-- The marks of a metadata image, block by block.
abbrev pub marks_of_runs : Geometry → ℕ → List (ℕ × ℕ × ℕ) → List MarkedSet → List (ℕ × ℕ) → BlockMarks
marks_of_runs g era array archive current =
    let blocks = blocks_of g.sectors g.block_sectors in record {
      sectors = g.sectors;
      block_sectors = g.block_sectors;
      era = era;
      array = eras_of_runs 0 blocks array;
      archive = sets_of_runs blocks archive;
      current = flags_of_runs 0 blocks current;
    }

-- All runs of a set end below so many blocks.
abbrev pub SetEndsWithin : ℕ → List (ℕ × ℕ) → Type 0
SetEndsWithin blocks [] = Unit {0}
SetEndsWithin blocks (run ∷ runs) = (run.1 < blocks) × SetEndsWithin blocks runs

-- All runs of the archived sets do.
abbrev pub SetsEndWithin : ℕ → List MarkedSet → Type 0
SetsEndWithin blocks [] = Unit {0}
SetsEndWithin blocks (set ∷ sets) = SetEndsWithin blocks set.blocks × SetsEndWithin blocks sets

-- No run of the marks is past the end of the geometry's blocks.
pub record AreWithin (blocks : ℕ) (array : List (ℕ × ℕ × ℕ)) (archive : List MarkedSet) (current : List (ℕ × ℕ)) : Type 0 where
  pub array_within : EndWithin blocks array
  pub archive_within : SetsEndWithin blocks archive
  pub current_within : SetEndsWithin blocks current
