-- Marks as runs that are valid.
use Rattle.std.proofs.Common.{◌≡◌, ℕ, ◌+◌, ◌<◌, ◌≤◌, List, length, drop, get_or, arith, inl, inr}
use Rattle.std.specs.Prelude.{◌↔◌}
use Rattle.std.proofs.lemmas.Bool.{cases_lt}
use Rattle.std.proofs.lemmas.List.{drop_more, get_or_past}
use Rattle.era_base.specs.Geometry.{blocks_of}
use Rattle.era_base.specs.declared.geometry.Geometry.{Geometry}
use Rattle.era_model.specs.declared.marked_set.MarkedSet.{MarkedSet}
use Rattle.era_model.specs.MarkRuns.{era_in_runs, eras_of_runs, marks_of_runs, sets_of_runs}
use Rattle.era_model.specs.Marks.{entry_of}
use Rattle.era_model.specs.Validity.{AreArchivedBetween, AreValidMarks, entry_limit}
use Rattle.era_core.proofs.Tables.{era-of, eras-length, flags-length, sets-length}

-- one more set ascends
pub ascend-more : (blocks above below : ℕ) (sets : List MarkedSet) (i : ℕ) (set : MarkedSet) → i < length sets → set ≡ get_or sets i set → above < set.era → set.era < below
    → AreArchivedBetween blocks above below (sets_of_runs blocks (drop i sets)) ↔ AreArchivedBetween blocks set.era below (sets_of_runs blocks (drop (i + 1) sets))
ascend-more blocks above below sets i set lt is after before =
    rw (drop_more sets i set lt, ← is) ((λ all. all.3), λ rest. (after, before, flags-length 0 blocks set.blocks, rest))

-- the next set of those that ascend
pub ascend-next : (blocks above below : ℕ) (sets : List MarkedSet) (i : ℕ) (set : MarkedSet) → i < length sets → set ≡ get_or sets i set
    → AreArchivedBetween blocks above below (sets_of_runs blocks (drop i sets)) → (above < set.era) × (set.era < below)
ascend-next blocks above below sets i set lt is all = let next = rw (drop_more sets i set lt, ← is) at all in (next.0, next.1)

-- no entry is above the limit where none of the origin's blocks has one
pub entries-within : (blocks limit : ℕ) (runs : List (ℕ × ℕ × ℕ)) → ((block : ℕ) → block < blocks → era_in_runs runs block ≤ limit) → (block : ℕ) → entry_of (eras_of_runs 0 blocks runs) block ≤ limit
entries-within blocks limit runs within block =
    elim (cases_lt block blocks) [
      | inl below ↦ let e = within block below in rw (era-of blocks runs block below) e
      | inr above ↦ let past : length (eras_of_runs 0 blocks runs) ≤ block = rw (eras-length 0 blocks runs) above in
          rw (get_or_past (eras_of_runs 0 blocks runs) block 0 past) (omega arith)
    ]

-- the marks are valid
pub valid-of_runs : (g : Geometry) (era : ℕ) (array : List (ℕ × ℕ × ℕ)) (archive : List MarkedSet) (current : List (ℕ × ℕ)) → 1 ≤ era
    → AreArchivedBetween (blocks_of g.sectors g.block_sectors) 0 era (sets_of_runs (blocks_of g.sectors g.block_sectors) archive) → length archive ≤ 16
    → ((block : ℕ) → entry_of (eras_of_runs 0 (blocks_of g.sectors g.block_sectors) array) block ≤ entry_limit (sets_of_runs (blocks_of g.sectors g.block_sectors) archive) era)
    → AreValidMarks (marks_of_runs g era array archive current)
valid-of_runs g era array archive current begun ascend few within =
    let blocks = blocks_of g.sectors g.block_sectors in
    record {
      begun = begun;
      array_size = eras-length 0 blocks array;
      current_size = flags-length 0 blocks current;
      archive = ascend;
      few_sets = rw (sets-length blocks archive) few;
      entries = within;
    }
