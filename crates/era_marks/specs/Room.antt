-- Room for one more archived set, and for the runs of a list.
use Rattle.std.specs.Prelude.{◌≡◌, ℕ, ◌<◌, ◌≤◌, ◌&&◌, ◌||◌, nat_le, nat_lt, true, List, ◌∷◌, length}
use Rattle.era_base.specs.Runs.{EndsBefore, runs_cover}
use Rattle.era_base.specs.declared.limits.TheConstants.{MOST_SETS}
use Rattle.era_model.specs.Marks.{ArchivedSet, transcribed}

-- Where fewer than sixteen sets are archived nothing changes. Else the oldest is merged into the array, and leaves.
pub record MakesRoom (array array' : List ℕ) (archive archive' : List ArchivedSet) : Type 0 where
  pub few : length archive < MOST_SETS → (array' ≡ array) × (archive' ≡ archive)
  pub full : (oldest : ArchivedSet) (sets : List ArchivedSet) → archive ≡ oldest ∷ sets → MOST_SETS ≤ length archive
      → (array' ≡ transcribed oldest (λ block. true) 0 array) × (archive' ≡ sets)

-- The blocks from one up to another one, which isn't among them, were added to the runs, if there are any.
pub record AddsRun (runs runs' : List (ℕ × ℕ)) (begin end : ℕ) : Type 0 where
  pub covered : (block : ℕ) → runs_cover runs' block ≡ (runs_cover runs block || (nat_le begin block && nat_lt block end))
  pub apart : (next : ℕ) → end < next → EndsBefore runs' next
