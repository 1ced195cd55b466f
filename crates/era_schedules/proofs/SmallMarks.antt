-- Marks of no block are valid, and sets without blocks end within any number of them.
use Rattle.std.proofs.Common.{◌≡◌, ℕ, zero, suc, ◌+◌, ◌≤◌, List, [], ◌∷◌, ◌++◌, length, refl, ap, arith}
use Rattle.era_base.specs.Geometry.{blocks_of}
use Rattle.era_base.specs.declared.geometry.Geometry.{Geometry}
use Rattle.era_model.specs.declared.marked_set.MarkedSet.{MarkedSet}
use Rattle.era_model.specs.MarkRuns.{SetEndsWithin, SetsEndWithin, eras_of_runs, flags_of_runs, marks_of_runs}
use Rattle.era_model.specs.Marks.{entry_of}
use Rattle.era_model.specs.Validity.{AreValidMarks}

-- no block has an entry
pub no_entry : (first count block : ℕ) → entry_of (eras_of_runs first count []) block ≡ 0
no_entry first zero block = refl
no_entry first (suc count) zero = refl
no_entry first (suc count) (suc block) = no_entry (first + 1) count block

pub no_entries-length : (first count : ℕ) → length (eras_of_runs first count []) ≡ count
no_entries-length first zero = refl
no_entries-length first (suc count) = ap suc (no_entries-length (first + 1) count)

pub no_flags-length : (first count : ℕ) → length (flags_of_runs first count []) ≡ count
no_flags-length first zero = refl
no_flags-length first (suc count) = ap suc (no_flags-length (first + 1) count)

-- marks without runs are valid in each era
pub valid-no_runs : (g : Geometry) (era : ℕ) → 1 ≤ era → AreValidMarks (marks_of_runs g era [] [] [])
valid-no_runs g era begun =
    let blocks = blocks_of g.sectors g.block_sectors in
    record {
      begun = begun;
      array_size = no_entries-length 0 blocks;
      current_size = no_flags-length 0 blocks;
      archive = tt;
      few_sets = omega arith;
      entries = λ block. rw (no_entry 0 blocks block) (omega arith);
    }

-- one more set that ends within the blocks
pub within-push : (blocks : ℕ) (sets : List MarkedSet) (set : MarkedSet) → SetsEndWithin blocks sets → SetEndsWithin blocks set.blocks → SetsEndWithin blocks (sets ++ set ∷ [])
within-push blocks [] set all one = (one, tt)
within-push blocks (first ∷ sets) set all one = (all.0, within-push blocks sets set all.1 one)
