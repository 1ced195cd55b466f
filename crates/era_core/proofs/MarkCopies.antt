-- Copies of marks as runs, and the marks after an era switch.
use Rattle.std.proofs.Common.{◌≡◌, ℕ, zero, suc, ◌+◌, ◌≤◌, false, true, List, [], ◌∷◌, ◌++◌, length, replicate, refl, ap, ◌∙◌, arith}
use Rattle.era_base.specs.Geometry.{blocks_of}
use Rattle.era_base.specs.declared.geometry.Geometry.{Geometry}
use Rattle.era_model.specs.EraRuns.{EndWithin}
use Rattle.era_model.specs.MarkRuns.{SetEndsWithin, SetsEndWithin, eras_of_runs, flags_of_runs, marks_of_runs}
use Rattle.era_model.specs.Marks.{ArchivedSet, transcribed, with_current_archived, with_oldest_merged}
use Rattle.era_model.specs.declared.marked_set.MarkedSet.{MarkedSet}
use Rattle.era_core.proofs.Tables.{eras-length, flags-length, sets-append}

-- as many entries as blocks
pub entries-few : (blocks : ℕ) (entries : List ℕ) (array : List (ℕ × ℕ × ℕ)) → entries ≡ eras_of_runs 0 blocks array → blocks ≤ 65536 → length entries ≤ 65536
entries-few blocks entries array is few = let size = ap length is ∙ eras-length 0 blocks array in omega (arith, size, few)

-- Runs of the entries of so many blocks.
pub record ArrayOf (blocks : ℕ) (entries : List ℕ) (array : List (ℕ × ℕ × ℕ)) : Type 0 where
  pub value : eras_of_runs 0 blocks array ≡ entries
  pub within : EndWithin blocks array

-- the array made of so many entries
pub array-of : (blocks : ℕ) (entries : List ℕ) (array : List (ℕ × ℕ × ℕ)) → length entries ≡ blocks → eras_of_runs 0 (length entries) array ≡ entries → EndWithin (length entries) array → ArrayOf blocks entries array
array-of blocks entries array size value within = record { value = rw size at value; within = rw size at within }

-- the marks with another array of the same entries
pub copied-view : (g : Geometry) (era : ℕ) (array array' : List (ℕ × ℕ × ℕ)) (archive : List MarkedSet) (current : List (ℕ × ℕ))
    → eras_of_runs 0 (blocks_of g.sectors g.block_sectors) array' ≡ eras_of_runs 0 (blocks_of g.sectors g.block_sectors) array → marks_of_runs g era array' archive current ≡ marks_of_runs g era array archive current
copied-view g era array array' archive current same = rw same refl

-- a transcribed array is as long as before
pub transcribed-length : (set : ArchivedSet) (first : ℕ) (array : List ℕ) → length (transcribed set (λ block. true) first array) ≡ length array
transcribed-length set first [] = refl
transcribed-length set first (entry ∷ array) = ap suc (transcribed-length set (first + 1) array)

-- the oldest set is merged
pub merged-view : (g : Geometry) (era : ℕ) (array array' : List (ℕ × ℕ × ℕ)) (archive : List MarkedSet) (oldest : MarkedSet) (later : List MarkedSet) (current : List (ℕ × ℕ)) → archive ≡ oldest ∷ later
    → eras_of_runs 0 (blocks_of g.sectors g.block_sectors) array'
    ≡ transcribed (record { era = oldest.era; blocks = flags_of_runs 0 (blocks_of g.sectors g.block_sectors) oldest.blocks }) (λ block. true) 0 (eras_of_runs 0 (blocks_of g.sectors g.block_sectors) array)
    → marks_of_runs g era array' later current ≡ with_oldest_merged (marks_of_runs g era array archive current) (marks_of_runs g era array archive current).archive
merged-view g era array array' archive oldest later current is same = rw (is, same) refl

-- one more set ends within as well
pub sets-within : (blocks : ℕ) (sets : List MarkedSet) (set : MarkedSet) → SetsEndWithin blocks sets → SetEndsWithin blocks set.blocks → SetsEndWithin blocks (sets ++ set ∷ [])
sets-within blocks [] set within ends = (ends, tt)
sets-within blocks (first ∷ sets) set within ends = (within.0, sets-within blocks sets set within.1 ends)

-- no runs, no block
flags-none : (first count : ℕ) → flags_of_runs first count [] ≡ replicate count false
flags-none first zero = refl
flags-none first (suc count) = ap (λ l. false ∷ l) (flags-none (first + 1) count)

-- the next era begins
pub archived-view : (g : Geometry) (era : ℕ) (array : List (ℕ × ℕ × ℕ)) (archive : List MarkedSet) (current : List (ℕ × ℕ))
    → marks_of_runs g (era + 1) array (archive ++ record { era = era; blocks = current } ∷ []) [] ≡ with_current_archived (marks_of_runs g era array archive current)
archived-view g era array archive current =
    let blocks = blocks_of g.sectors g.block_sectors in
    rw (flags-length 0 blocks current, flags-none 0 blocks, sets-append blocks archive (record { era = era; blocks = current })) refl
