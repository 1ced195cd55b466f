-- Blocks as runs: pairs of a first and a last block.
use Rattle.std.specs.Prelude.{◌≡◌, ℕ, ◌+◌, ◌<◌, ◌≤◌, Bool, true, false, not, ◌&&◌, ◌||◌, nat_le, List, [], ◌∷◌}

-- The first of the runs, if there is one, begins after a gap: no block of it is, or touches, a block up to the last one of the run before.
abbrev pub BeginsAfter : ℕ × ℕ → List (ℕ × ℕ) → Type 0
BeginsAfter before [] = Unit {0}
BeginsAfter before (run ∷ runs) = before.1 + 1 < run.0

-- Runs are maximal and ascending: none is empty, and between two of them a block is left out.
abbrev pub AreRuns : List (ℕ × ℕ) → Type 0
AreRuns [] = Unit {0}
AreRuns (run ∷ runs) = (run.0 ≤ run.1) × BeginsAfter run runs × AreRuns runs

-- Whether a block lies in one of the runs.
abbrev pub runs_cover : List (ℕ × ℕ) → ℕ → Bool
runs_cover [] block = false
runs_cover (run ∷ runs) block = (nat_le run.0 block && nat_le block run.1) || runs_cover runs block

-- All runs end before this block and don't touch it.
abbrev pub EndsBefore : List (ℕ × ℕ) → ℕ → Type 0
EndsBefore [] block = Unit {0}
EndsBefore (run ∷ runs) block = (run.1 + 1 < block) × EndsBefore runs block

-- The first block from one on at which a test gives the flag, or the end where it gives it at none before.
pub record IsFirstWith (test : ℕ → Bool) (flag : Bool) (from end first : ℕ) : Type 0 where
  pub order : from ≤ first
  pub within : first ≤ end
  pub passed : (block : ℕ) → from ≤ block → block < first → test block ≡ not flag
  pub found : first < end → test first ≡ flag

-- The first run from a block on of the blocks that pass a test, which goes on as far as they pass.
pub record IsNextRun (test : ℕ → Bool) (from : ℕ) (run : ℕ × ℕ) : Type 0 where
  pub order : (from ≤ run.0) × (run.0 ≤ run.1)
  pub none_before : (block : ℕ) → from ≤ block → block < run.0 → test block ≡ false
  pub all_within : (block : ℕ) → run.0 ≤ block → block ≤ run.1 → test block ≡ true
  pub none_behind : test (run.1 + 1) ≡ false

-- No block from one on passes a test.
abbrev pub NoneFrom : (ℕ → Bool) → ℕ → Type 0
NoneFrom test from = (block : ℕ) → from ≤ block → test block ≡ false

-- Runs list exactly the blocks that pass a test.
abbrev pub ListExactly : List (ℕ × ℕ) → (ℕ → Bool) → Type 0
ListExactly runs test = (block : ℕ) → runs_cover runs block ≡ test block
