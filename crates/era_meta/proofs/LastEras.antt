-- The last marked eras of blocks: set by set, and past the last block.
use Rattle.std.proofs.Common.{◌≡◌, ℕ, ◌+◌, ◌<◌, ◌≤◌, false, List, [], ◌∷◌, ◌++◌, length, get_or, take, refl, ap, sym, ◌∙◌, inl, inr, arith}
use Rattle.std.specs.Prelude.{max, nat_le, if◌then◌else◌}
use Rattle.std.proofs.lemmas.Bool.{cases_lt, le-ltb, lt-leb, lt-ltb}
use Rattle.std.proofs.lemmas.List.{take_more, get_or_past}
use Rattle.era_base.specs.Flags.{has}
use Rattle.era_base.specs.Runs.{AreRuns, ListExactly}
use Rattle.era_model.specs.Conditions.{ListsExactly}
use Rattle.era_model.specs.Marks.{ArchivedSet, BlockMarks, blocks_of_marks, entry_of, last_archived, marks_last_era, written_since}
use Rattle.era_model.specs.Validity.{AreArchivedBetween, AreValidMarks}

last-push : (sets : List ArchivedSet) (set : ArchivedSet) (block : ℕ)
    → last_archived (sets ++ set ∷ []) block ≡ max (last_archived sets block) (if has set.blocks block then set.era else 0)
last-push [] set block = omega arith
last-push (first ∷ sets) set block = let rest = last-push sets set block in rw rest (omega arith)

-- one set more
pub last-more : (sets : List ArchivedSet) (i block : ℕ) (set : ArchivedSet) → i < length sets → set ≡ get_or sets i set
    → last_archived (take (i + 1) sets) block ≡ max (last_archived (take i sets) block) (if has set.blocks block then set.era else 0)
last-more sets i block set within is =
    ap (λ front. last_archived front block) (take_more sets i set within) ∙ last-push (take i sets) (get_or sets i set) block
    ∙ ap (λ (one : ArchivedSet). max (last_archived (take i sets) block) (if has one.blocks block then one.era else 0)) (sym is)

-- no archived set has a block past the end
sets-past : (blocks above below : ℕ) (sets : List ArchivedSet) (block : ℕ) → AreArchivedBetween blocks above below sets → blocks ≤ block → last_archived sets block ≡ 0
sets-past blocks above below [] block are past = refl
sets-past blocks above below (set ∷ sets) block are past =
    let size = are.2 in
    let none : has set.blocks block ≡ false = get_or_past set.blocks block false (omega arith) in
    rw (none, sets-past blocks set.era below sets block are.3 past) refl

-- a block past the end was never marked
pub never-past : (m : BlockMarks) (block : ℕ) → AreValidMarks m → blocks_of_marks m ≤ block → marks_last_era m block ≡ 0
never-past m block valid past =
    let array = valid.array_size in let current = valid.current_size in
    let entry : entry_of m.array block ≡ 0 = get_or_past m.array block 0 (omega arith) in
    let none : has m.current block ≡ false = get_or_past m.current block false (omega arith) in
    rw (entry, none, sets-past (blocks_of_marks m) 0 m.era m.archive block valid.archive past) refl

pub not-since : (m : BlockMarks) (era block : ℕ) → AreValidMarks m → blocks_of_marks m ≤ block → written_since m era block ≡ false
not-since m era block valid past = ap (λ last. nat_le (max era 1) last) (never-past m block valid past) ∙ lt-leb (max era 1) 0 (omega arith)

-- one more set was looked at
pub last-step : (sets : List ArchivedSet) (i block last now : ℕ) (set : ArchivedSet) → i < length sets → set ≡ get_or sets i set
    → last ≡ last_archived (take i sets) block → now ≡ max last (if has set.blocks block then set.era else 0)
    → now ≡ last_archived (take (i + 1) sets) block
last-step sets i block last now set within is so_far new = let more = last-more sets i block set within is in omega (arith, more, so_far, new)

-- runs of the blocks since an era are exactly those below the end
pub lists-since : (m : BlockMarks) (era : ℕ) (runs : List (ℕ × ℕ)) → AreValidMarks m → AreRuns runs → ListExactly runs (written_since m era)
    → ListsExactly (blocks_of_marks m) (written_since m era) runs
lists-since m era runs valid are exact = record {
  maximal = are;
  exact = λ block. exact block ∙ elim (cases_lt block (blocks_of_marks m)) [
    | inl below ↦ rw (lt-ltb block (blocks_of_marks m) below) refl
    | inr past ↦ rw (le-ltb block (blocks_of_marks m) past) (not-since m era block valid past)
  ];
}
