-- Marks whose archived sets were merged into the era array are valid, and keep what was marked last.
use Rattle.std.proofs.Common.{◌≡◌, ℕ, zero, suc, ◌+◌, ◌<◌, ◌≤◌, List, [], ◌∷◌, length, refl, ap, ◌∙◌, inl, inr, arith}
use Rattle.std.specs.Prelude.{Bool, true, false, max, if◌then◌else◌}
use Rattle.std.proofs.lemmas.Bool.{cases_lt}
use Rattle.era_base.specs.Flags.{has}
use Rattle.era_model.specs.Marks.{ArchivedSet, BlockMarks, blocks_of_marks, entry_of, last_archived, marks_last_era}
use Rattle.era_model.specs.Merging.{merged_array, merged_marks}
use Rattle.era_model.specs.Validity.{AreArchivedBetween, AreValidMarks, entry_limit}
use Rattle.era_text.specs.DumpLaws.{MergingKeepsLasts, LogicalDumpsReadBack}
use Rattle.era_text.proofs.ValidDumps.{dumps-read}

-- the array keeps its length
pub length-merged : (sets : List ArchivedSet) (first : ℕ) (array : List ℕ) → length (merged_array sets first array) ≡ length array
length-merged sets first [] = refl
length-merged sets first (entry ∷ entries) = ap suc (length-merged sets (first + 1) entries)

-- a merged entry
pub entry-merged : (sets : List ArchivedSet) (first : ℕ) (array : List ℕ) (i : ℕ) → i < length array
    → entry_of (merged_array sets first array) i ≡ max (entry_of array i) (last_archived sets (first + i))
entry-merged sets first [] i lt = absurd (omega arith)
entry-merged sets first (entry ∷ entries) zero lt = let e : first + 0 ≡ first = omega arith in rw e refl
entry-merged sets first (entry ∷ entries) (suc i) lt =
    let e : first + suc i ≡ first + 1 + i = omega arith in
    rw e (entry-merged sets (first + 1) entries i (omega arith))

-- no entry past the end
entry-past : (array : List ℕ) (i : ℕ) → length array ≤ i → entry_of array i ≡ 0
entry-past [] i past = refl
entry-past (entry ∷ entries) zero past = absurd (omega arith)
entry-past (entry ∷ entries) (suc i) past = entry-past entries i (omega arith)

-- no flag past the end
flag-past : (flags : List Bool) (i : ℕ) → length flags ≤ i → has flags i ≡ false
flag-past [] i past = refl
flag-past (flag ∷ flags) zero past = absurd (omega arith)
flag-past (flag ∷ flags) (suc i) past = flag-past flags i (omega arith)

-- archived sets of so many blocks have none past the end
archived-past : (blocks above below : ℕ) (sets : List ArchivedSet) (block : ℕ) → AreArchivedBetween blocks above below sets → blocks ≤ block → last_archived sets block ≡ 0
archived-past blocks above below [] block between past = refl
archived-past blocks above below (set ∷ sets) block between past =
    let size = between.2 in
    rw (flag-past set.blocks block (omega arith), archived-past blocks set.era below sets block between.3 past) refl

-- the greatest era of archived sets is below the end
archived-below : (blocks above below : ℕ) (sets : List ArchivedSet) (block : ℕ) → AreArchivedBetween blocks above below sets → 1 ≤ below → last_archived sets block < below
archived-below blocks above below [] block between begun = omega arith
archived-below blocks above below (set ∷ sets) block between begun =
    let past = between.1 in
    let rest = archived-below blocks set.era below sets block between.3 begun in
    elim (has set.blocks block) as (λ marked. max (if marked then set.era else 0) (last_archived sets block) < below) [
      | true ↦ omega arith
      | false ↦ omega arith
    ]

-- the entries' limit is below the present era
limit-below : (blocks era : ℕ) (sets : List ArchivedSet) → 1 ≤ era → AreArchivedBetween blocks 0 era sets → entry_limit sets era < era
limit-below blocks era [] begun between = omega arith
limit-below blocks era (set ∷ sets) begun between = between.1

-- merged marks are valid
valid-merged : (m : BlockMarks) → AreValidMarks m → AreValidMarks (merged_marks m)
valid-merged m valid = record {
  begun = valid.begun;
  array_size = length-merged m.archive 0 m.array ∙ valid.array_size;
  current_size = valid.current_size;
  archive = tt;
  few_sets = omega arith;
  entries = λ block. elim (cases_lt block (length m.array)) [
    | inl lt ↦
        let e : 0 + block ≡ block = omega arith in
        let entry = rw e at (entry-merged m.archive 0 m.array block lt) in
        let old = valid.entries block in
        let limit = limit-below (blocks_of_marks m) m.era m.archive valid.begun valid.archive in
        let archived = archived-below (blocks_of_marks m) 0 m.era m.archive block valid.archive valid.begun in
        omega (arith, entry, old, limit, archived)
    | inr past ↦
        let none = entry-past (merged_array m.archive 0 m.array) block (let size = length-merged m.archive 0 m.array in omega arith) in
        omega (arith, none)
  ];
}

-- the last marked era stays
merged-last : (m : BlockMarks) → AreValidMarks m → (block : ℕ) → marks_last_era (merged_marks m) block ≡ marks_last_era m block
merged-last m valid block = elim (cases_lt block (length m.array)) [
  | inl lt ↦
      let e : 0 + block ≡ block = omega arith in
      let entry = rw e at (entry-merged m.archive 0 m.array block lt) in
      let present = if has m.current block then m.era else 0 in
      omega (arith, entry)
  | inr past ↦
      let none = entry-past (merged_array m.archive 0 m.array) block (let size = length-merged m.archive 0 m.array in omega arith) in
      let was = entry-past m.array block past in
      let size = valid.array_size in
      let archived = archived-past (blocks_of_marks m) 0 m.era m.archive block valid.archive (omega arith) in
      omega (arith, none, was, archived)
]

pub merging-keeps : MergingKeepsLasts
merging-keeps m valid = record { valid = valid-merged m valid; lasts = merged-last m valid }

pub logical-read : LogicalDumpsReadBack
logical-read m text image valid dump =
    dumps-read (merged_marks m) text (record { geometry = image.geometry; sectors_fit = image.sectors_fit; era_fits = image.era_fits }) (valid-merged m valid) dump
