-- Marks as runs of blocks: which runs tell the entries of the era array, and which tell archived sets.
use Rattle.std.specs.Prelude.{◌≡◌, ℕ, ◌<◌, Bool, List, [], ◌∷◌, slice_index}
use Rattle.era_base.specs.Flags.{has}
use Rattle.era_base.specs.Runs.{ListExactly}
use Rattle.era_model.specs.EraRuns.{EndWithin}
use Rattle.era_model.specs.MarkRuns.{SetEndsWithin, era_in_runs}
use Rattle.era_model.specs.Marks.{ArchivedSet}
use Rattle.era_model.specs.declared.marked_set.MarkedSet.{MarkedSet}

-- Runs tell the entries of the blocks below an end, and have no others.
pub record TellEntries (runs : List (ℕ × ℕ × ℕ)) (end : ℕ) (entries : List ℕ) : Type 0 where
  pub within : EndWithin end runs
  pub each : (block : ℕ) → block < end → era_in_runs runs block ≡ slice_index entries block

-- Runs tell a set of so many blocks.
pub record TellSet (runs : List (ℕ × ℕ)) (blocks : ℕ) (test : ℕ → Bool) : Type 0 where
  pub within : SetEndsWithin blocks runs
  pub exact : ListExactly runs test

-- Runs tell archived sets, set by set, each with its era.
abbrev pub TellSets : List MarkedSet → ℕ → List ArchivedSet → Type 0
TellSets [] blocks [] = Unit {0}
TellSets (told ∷ others) blocks (set ∷ sets) = (told.era ≡ set.era) × TellSet told.blocks blocks (has set.blocks) × TellSets others blocks sets
TellSets told blocks sets = ⊥
