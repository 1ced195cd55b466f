-- An era switch, a fold and a mark keep marks valid, and what they do to the last marked eras.
use Rattle.std.proofs.Common.{◌≡◌, ℕ, zero, suc, ◌+◌, ◌<◌, ◌≤◌, Bool, true, false, List, [], ◌∷◌, ◌++◌, length, get_or, replicate, refl, ap, sym, ◌∙◌, subst, arith, inl, inr}
use Rattle.std.specs.Prelude.{max, nat_lt, if◌then◌else◌}
use Rattle.std.proofs.lemmas.Bool.{cases_lt}
use Rattle.std.proofs.lemmas.Bool.Decides.{eqb_tells, nat_tests}
use Rattle.std.proofs.lemmas.List.{get_or-replicate, get_or_past, get_or-set_same, get_or-set_other, length-replicate, length-set, length_push}
use Rattle.era_base.specs.Flags.{has}
use Rattle.era_model.specs.MarkLaws.{LastsAreBounded, MarkGivesEra, SwitchKeepsMarks}
use Rattle.era_model.specs.Marks.{ArchivedSet, BlockMarks, blocks_of_marks, entry_of, last_archived, marks_last_era, transcribed, with_block, with_current_archived, with_oldest_merged}
use Rattle.era_model.specs.Validity.{AreArchivedBetween, AreValidMarks, entry_limit}

-- a set more among the archived ones
last_archived-push : (sets : List ArchivedSet) (set : ArchivedSet) (block : ℕ)
    → last_archived (sets ++ set ∷ []) block ≡ max (last_archived sets block) (if has set.blocks block then set.era else 0)
last_archived-push [] set block = omega arith
last_archived-push (first ∷ sets) set block =
    let rest = last_archived-push sets set block in
    rw rest (omega arith)

-- the eras of archived sets are below their bound
pub last_archived-below : (blocks above below : ℕ) (sets : List ArchivedSet) (block : ℕ) → AreArchivedBetween blocks above below sets → above < below
    → last_archived sets block < below
last_archived-below blocks above below [] block archived room = omega arith
last_archived-below blocks above below (set ∷ sets) block archived room =
    let rest = last_archived-below blocks set.era below sets block archived.3 archived.1 in
    elim (has set.blocks block) as (λ flag. max (if flag then set.era else 0) (last_archived sets block) < below) [
      | true ↦ (let e = archived.1 in omega arith)
      | false ↦ omega arith
    ]

-- a smaller lower bound serves as well
pub archived-weaker : (blocks above above' below : ℕ) (sets : List ArchivedSet) → above' ≤ above → AreArchivedBetween blocks above below sets → AreArchivedBetween blocks above' below sets
archived-weaker blocks above above' below [] less archived = tt
archived-weaker blocks above above' below (set ∷ sets) less archived = ((let e = archived.0 in omega arith), archived.1, archived.2, archived.3)

-- a set of the era at the upper bound is archived behind the others
archived-push : (blocks above below : ℕ) (sets : List ArchivedSet) (flags : List Bool) → AreArchivedBetween blocks above below sets → above < below → length flags ≡ blocks
    → AreArchivedBetween blocks above (below + 1) (sets ++ record { era = below; blocks = flags } ∷ [])
archived-push blocks above below [] flags archived room size = (room, omega arith, size, tt)
archived-push blocks above below (set ∷ sets) flags archived room size =
    (archived.0, (let e = archived.1 in omega arith), archived.2, archived-push blocks set.era below sets flags archived.3 archived.1 size)

-- a transcribed array is as long as before
length-transcribed : (set : ArchivedSet) (first : ℕ) (array : List ℕ) → length (transcribed set (λ block. true) first array) ≡ length array
length-transcribed set first [] = refl
length-transcribed set first (entry ∷ array) = ap suc (length-transcribed set (first + 1) array)

-- each entry is the set's era where the set has the block, else what it was
entry-transcribed : (set : ArchivedSet) (first : ℕ) (array : List ℕ) (at : ℕ) → at < length array
    → get_or (transcribed set (λ block. true) first array) at 0 ≡ (if has set.blocks (first + at) then set.era else get_or array at 0)
entry-transcribed set first [] at within = absurd (omega arith)
entry-transcribed set first (entry ∷ array) zero within =
    ap (λ block. if has set.blocks block then set.era else entry) (let e : first ≡ first + 0 = omega arith in e)
entry-transcribed set first (entry ∷ array) (suc at) within =
    entry-transcribed set (first + 1) array at (omega arith)
    ∙ ap (λ block. if has set.blocks block then set.era else get_or array at 0) (let e : first + 1 + at ≡ first + suc at = omega arith in e)

-- merging a set that isn't older than any entry gives each block the greater of the two
merged-entry : (set : ArchivedSet) (array : List ℕ) (block : ℕ) → length set.blocks ≡ length array → entry_of array block ≤ set.era
    → entry_of (transcribed set (λ b. true) 0 array) block ≡ max (entry_of array block) (if has set.blocks block then set.era else 0)
merged-entry set array block size bound = elim (cases_lt block (length array)) [
  | inl within ↦ entry-transcribed set 0 array block within
      ∙ ap (λ b. if has set.blocks b then set.era else entry_of array block) (let e : 0 + block ≡ block = omega arith in e)
      ∙ greater (has set.blocks block)
  | inr past ↦
      let none : has set.blocks block ≡ false = get_or_past set.blocks block false (omega (arith, size)) in
      let gone : entry_of array block ≡ 0 = get_or_past array block 0 past in
      let out : entry_of (transcribed set (λ b. true) 0 array) block ≡ 0 = get_or_past (transcribed set (λ b. true) 0 array) block 0 (rw (length-transcribed set 0 array) past) in
      rw none (omega (arith, gone, out))
]
  where
    greater : (flag : Bool) → (if flag then set.era else entry_of array block) ≡ max (entry_of array block) (if flag then set.era else 0)
    greater true = omega (arith, bound)
    greater false = omega arith

-- the marks with the oldest set merged, where there is one
merged-valid : (m : BlockMarks) (oldest : ArchivedSet) (sets : List ArchivedSet) → m.archive ≡ oldest ∷ sets → AreValidMarks m → AreValidMarks (with_oldest_merged m (oldest ∷ sets))
merged-valid m oldest sets is valid =
    let archived = subst (λ a. AreArchivedBetween (blocks_of_marks m) 0 m.era a) is valid.archive in
    let bound : (block : ℕ) → entry_of m.array block ≤ oldest.era = λ block. subst (λ a. entry_of m.array block ≤ entry_limit a m.era) is (valid.entries block) in
    record {
      begun = valid.begun;
      array_size = length-transcribed oldest 0 m.array ∙ valid.array_size;
      current_size = valid.current_size;
      archive = archived-weaker (blocks_of_marks m) oldest.era 0 m.era sets (omega arith) archived.3;
      few_sets = let few = subst (λ a. length a ≤ 16) is valid.few_sets in omega arith;
      entries = λ block.
          let entry = merged-entry oldest m.array block (archived.2 ∙ sym valid.array_size) (bound block) in
          below-limit sets block archived.3 (at-most (has oldest.blocks block) (entry_of m.array block) (bound block) _ entry);
    }
  where
    at-most : (flag : Bool) (entry : ℕ) → entry ≤ oldest.era → (now : ℕ) → now ≡ max entry (if flag then oldest.era else 0) → now ≤ oldest.era
    at-most true entry less now e = omega (arith, less, e)
    at-most false entry less now e = omega (arith, less, e)

    below-limit : (sets : List ArchivedSet) (block : ℕ) → AreArchivedBetween (blocks_of_marks m) oldest.era m.era sets → {now : ℕ} → now ≤ oldest.era → now ≤ entry_limit sets m.era
    below-limit [] block archived less = let e = (subst (λ a. AreArchivedBetween (blocks_of_marks m) 0 m.era a) is valid.archive).1 in omega arith
    below-limit (set ∷ sets) block archived less = let e = archived.0 in omega arith

-- merging keeps each block's last marked era
merged-lasts : (m : BlockMarks) (oldest : ArchivedSet) (sets : List ArchivedSet) → m.archive ≡ oldest ∷ sets → AreValidMarks m
    → (block : ℕ) → marks_last_era (with_oldest_merged m (oldest ∷ sets)) block ≡ marks_last_era m block
merged-lasts m oldest sets is valid block =
    let archived = subst (λ a. AreArchivedBetween (blocks_of_marks m) 0 m.era a) is valid.archive in
    let bound : entry_of m.array block ≤ oldest.era = subst (λ a. entry_of m.array block ≤ entry_limit a m.era) is (valid.entries block) in
    let entry = merged-entry oldest m.array block (archived.2 ∙ sym valid.array_size) bound in
    rw (entry, is) (omega arith)

-- archiving the current set keeps the marks valid, where there is room for it
archived-valid : (m : BlockMarks) → AreValidMarks m → length m.archive < 16 → AreValidMarks (with_current_archived m)
archived-valid m valid room = record {
  begun = omega arith;
  array_size = valid.array_size;
  current_size = length-replicate (length m.current) false ∙ valid.current_size;
  archive = archived-push (blocks_of_marks m) 0 m.era m.archive m.current valid.archive valid.begun valid.current_size;
  few_sets = let more = length_push m.archive (record { era = m.era; blocks = m.current }) in omega arith;
  entries = λ block. limit m.archive block (valid.entries block);
}
  where
    limit : (sets : List ArchivedSet) (block : ℕ) → entry_of m.array block ≤ entry_limit sets m.era → entry_of m.array block ≤ entry_limit (sets ++ record { era = m.era; blocks = m.current } ∷ []) (m.era + 1)
    limit [] block less = omega arith
    limit (oldest ∷ sets) block less = less

-- no block is in an empty set
none-has : (count block : ℕ) → has (replicate count false) block ≡ false
none-has count block = elim (cases_lt block count) [
  | inl within ↦ get_or-replicate count block false false within
  | inr past ↦ get_or_past _ block false (simp length-replicate past)
]

-- and each block's last marked era
archived-lasts : (m : BlockMarks) (block : ℕ) → marks_last_era (with_current_archived m) block ≡ marks_last_era m block
archived-lasts m block =
    rw (last_archived-push m.archive (record { era = m.era; blocks = m.current }) block, none-has (length m.current) block) (omega arith)

-- Marks with the same last marked eras, and with room for one more archived set.
record IsReadyToArchive (m before : BlockMarks) : Type 0 where
  pub valid : AreValidMarks before
  pub room : length before.archive < 16
  pub lasts : (block : ℕ) → marks_last_era before block ≡ marks_last_era m block

merged-before : (m : BlockMarks) (sets : List ArchivedSet) → m.archive ≡ sets → AreValidMarks m → 16 ≤ length m.archive → IsReadyToArchive m (with_oldest_merged m sets)
merged-before m [] is valid full = absurd (let e = ap length is in omega arith)
merged-before m (oldest ∷ sets) is valid full = record {
  valid = merged-valid m oldest sets is valid;
  room = let few = subst (λ a. length a ≤ 16) is valid.few_sets in omega arith;
  lasts = merged-lasts m oldest sets is valid;
}

-- The marks before the current set is archived: where sixteen sets are archived, the oldest is merged first.
abbrev ready-marks : BlockMarks → BlockMarks
ready-marks m = if nat_lt (length m.archive) 16 then m else with_oldest_merged m m.archive

-- they are ready for it
before-switch : (m : BlockMarks) → AreValidMarks m → IsReadyToArchive m (ready-marks m)
before-switch m valid = elim (nat_lt (length m.archive) 16) as (λ flag. nat_lt (length m.archive) 16 ≡ flag → IsReadyToArchive m (if flag then m else with_oldest_merged m m.archive)) [
  | true ↦ λ few. record { valid = valid; room = grind (arith, nat_tests); lasts = λ block. refl }
  | false ↦ λ full. merged-before m m.archive refl valid (grind (arith, nat_tests))
] refl

-- an era switch keeps the marks valid, and each block's last marked era
pub switch-keeps : (m : BlockMarks) → AreValidMarks m → SwitchKeepsMarks m
switch-keeps m valid =
    let before = before-switch m valid in
    record {
      valid = archived-valid (ready-marks m) before.valid before.room;
      lasts = λ block. archived-lasts (ready-marks m) block ∙ before.lasts block;
    }

-- no entry of the array is above the present era
entry-below : (sets : List ArchivedSet) (blocks era entry : ℕ) → AreArchivedBetween blocks 0 era sets → entry ≤ entry_limit sets era → entry ≤ era
entry-below [] blocks era entry archived less = omega arith
entry-below (set ∷ sets) blocks era entry archived less = let e = archived.1 in omega arith

-- the last marked eras are at most the present one
pub lasts-bounded : (m : BlockMarks) → AreValidMarks m → LastsAreBounded m
lasts-bounded m valid = record {
  current = λ block has_it.
      let entry = entry-below m.archive (blocks_of_marks m) m.era (entry_of m.array block) valid.archive (valid.entries block) in
      let sets = last_archived-below (blocks_of_marks m) 0 m.era m.archive block valid.archive valid.begun in
      rw has_it (omega arith);
  bounded = λ block.
      let entry = entry-below m.archive (blocks_of_marks m) m.era (entry_of m.array block) valid.archive (valid.entries block) in
      let sets = last_archived-below (blocks_of_marks m) 0 m.era m.archive block valid.archive valid.begun in
      at-most (has m.current block) (entry_of m.array block) (last_archived m.archive block) entry sets;
}
  where
    at-most : (flag : Bool) (entry archived : ℕ) → entry ≤ m.era → archived < m.era → max entry (max archived (if flag then m.era else 0)) ≤ m.era
    at-most true entry archived a b = omega (arith, a, b)
    at-most false entry archived a b = omega (arith, a, b)

-- a mark keeps the marks valid, and gives its block the present era
pub mark-gives : (m : BlockMarks) (block : ℕ) → AreValidMarks m → block < blocks_of_marks m → MarkGivesEra m block
mark-gives m block valid within =
    let marked : AreValidMarks (with_block m block) = record {
      begun = valid.begun;
      array_size = valid.array_size;
      current_size = length-set m.current block true ∙ valid.current_size;
      archive = valid.archive;
      few_sets = valid.few_sets;
      entries = valid.entries;
    } in
    record {
      valid = marked;
      lasts = λ other. elim (eqb_tells block other) [
        | inl same ↦ rw same.0 ((lasts-bounded (with_block m block) marked).current other
            (subst (λ b. has (with_block m block).current b ≡ true) same.1 (get_or-set_same m.current block true false (omega (arith, within, valid.current_size)))))
        | inr apart ↦ rw apart.0 (ap (λ flag. max (entry_of m.array other) (max (last_archived m.archive other) (if flag then m.era else 0)))
            (get_or-set_other m.current block other true false (λ e. apart.1 (sym e))))
      ];
    }
