-- Entries of an era array that are raised to the eras of runs, and the runs of equal entries.
use Rattle.std.specs.Prelude.{◌≡◌, ℕ, ◌<◌, ◌&&◌, max, nat_le, List, [], ◌∷◌, length, slice_index, if◌then◌else◌}
use Rattle.era_model.specs.EraRuns.{EndWithin}
use Rattle.era_model.specs.MarkRuns.{era_in_runs}
use Rattle.era_model.specs.declared.marked_set.MarkedSet.{MarkedSet}

-- Each entry was raised to the value of its block, where that is greater.
pub record RaisedBy (value : ℕ → ℕ) (old new : List ℕ) : Type 0 where
  pub size : length new ≡ length old
  pub each : (block : ℕ) → block < length old → slice_index new block ≡ max (slice_index old block) (value block)

-- An era for the blocks of a run, 0 for the others.
abbrev pub era_within : ℕ → ℕ → ℕ → ℕ → ℕ
era_within first last era block = if nat_le first block && nat_le block last then era else 0

-- The greatest of the values that items have at a block, 0 where there are none.
abbrev pub greatest_at : {A : Type 0} → (A → ℕ → ℕ) → List A → ℕ → ℕ
greatest_at value [] block = 0
greatest_at value (item ∷ items) block = max (value item block) (greatest_at value items block)

-- An era for the blocks of runs.
abbrev pub set_value : ℕ → List (ℕ × ℕ) → ℕ → ℕ
set_value era runs block = greatest_at (λ (run : ℕ × ℕ). era_within run.0 run.1 era) runs block

-- The greatest era of the runs of the array that have a block.
abbrev pub array_value : List (ℕ × ℕ × ℕ) → ℕ → ℕ
array_value runs block = greatest_at (λ (run : ℕ × ℕ × ℕ). era_within run.0 run.1 run.2) runs block

-- The greatest era of the archived sets that have a block.
abbrev pub sets_value : List MarkedSet → ℕ → ℕ
sets_value sets block = greatest_at (λ (set : MarkedSet). set_value set.era set.blocks) sets block

-- Runs tell the entries of the blocks below an end, and have no others.
pub record ListEntries (runs : List (ℕ × ℕ × ℕ)) (end : ℕ) (entries : List ℕ) : Type 0 where
  pub within : EndWithin end runs
  pub each : (block : ℕ) → block < end → era_in_runs runs block ≡ slice_index entries block
