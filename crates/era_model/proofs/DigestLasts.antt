-- A digest step, and a merge of all archived sets, keep marks valid, and each block's last marked era.
use Rattle.std.proofs.Common.{◌≡◌, ◌⊎◌, ℕ, zero, suc, ◌+◌, ◌/◌, ◌<◌, ◌≤◌, Bool, true, false, not, ◌==◌, ◌&&◌, List, [], ◌∷◌, length, get_or, Some, None, Option, refl, ap, sym, ◌∙◌, subst, arith, inl, inr}
use Rattle.std.specs.Prelude.{max, option_map, if◌then◌else◌}
use Rattle.std.proofs.lemmas.Bool.{cases_lt, cond_both, eqb-true}
use Rattle.std.proofs.lemmas.List.{get_or_past}
use Rattle.std.proofs.lemmas.Option.{same_Some}
use Rattle.era_base.specs.Flags.{has}
use Rattle.era_model.specs.Digest.{digest_of, digested, digested_from, first_untranscribed}
use Rattle.era_model.specs.Marks.{ArchivedSet, BlockMarks, blocks_of_marks, entry_of, last_archived, marks_last_era, transcribed}
use Rattle.era_model.specs.Merging.{merged_array, merged_marks}
use Rattle.era_model.specs.Promises.{KeepsLastEras}
use Rattle.era_model.specs.Validity.{AreArchivedBetween, AreValidMarks, entry_limit}
use Rattle.era_model.proofs.Asked.{sets-past}
use Rattle.era_model.proofs.SwitchLasts.{archived-weaker, last_archived-below}

-- a transcribed array is as long as before
length-transcribed : (set : ArchivedSet) (test : ℕ → Bool) (first : ℕ) (array : List ℕ) → length (transcribed set test first array) ≡ length array
length-transcribed set test first [] = refl
length-transcribed set test first (entry ∷ array) = ap suc (length-transcribed set test (first + 1) array)

-- each entry is the set's era where the set has the block and the block passes the test, else what it was
entry-transcribed : (set : ArchivedSet) (test : ℕ → Bool) (first : ℕ) (array : List ℕ) (at : ℕ) → at < length array
    → get_or (transcribed set test first array) at 0 ≡ (if test (first + at) && has set.blocks (first + at) then set.era else get_or array at 0)
entry-transcribed set test first [] at within = absurd (omega arith)
entry-transcribed set test first (entry ∷ array) zero within =
    ap (λ block. if test block && has set.blocks block then set.era else entry) (let e : first ≡ first + 0 = omega arith in e)
entry-transcribed set test first (entry ∷ array) (suc at) within =
    entry-transcribed set test (first + 1) array at (omega arith)
    ∙ ap (λ block. if test block && has set.blocks block then set.era else get_or array at 0) (let e : first + 1 + at ≡ first + suc at = omega arith in e)

-- What a transcribed entry is: what it was, or the era of a set that has the block.
record IsTranscribed (set : ArchivedSet) (array after : List ℕ) (block : ℕ) : Type 0 where
  pub entry : (entry_of after block ≡ entry_of array block) ⊎ ((entry_of after block ≡ set.era) × (has set.blocks block ≡ true))

transcribed-entry : (set : ArchivedSet) (test : ℕ → Bool) (array : List ℕ) (block : ℕ) → IsTranscribed set array (transcribed set test 0 array) block
transcribed-entry set test array block = record {
  entry = elim (cases_lt block (length array)) [
    | inl within ↦ by_flag (test block) (has set.blocks block) refl
        (subst (λ b. entry_of (transcribed set test 0 array) block ≡ (if test b && has set.blocks b then set.era else entry_of array block)) (let e : 0 + block ≡ block = omega arith in e)
        (entry-transcribed set test 0 array block within))
    | inr past ↦ inl (get_or_past _ block 0 (rw (length-transcribed set test 0 array) past) ∙ sym (get_or_past array block 0 past))
  ];
}
  where
    by_flag : (passes flag : Bool) → has set.blocks block ≡ flag → entry_of (transcribed set test 0 array) block ≡ (if passes && flag then set.era else entry_of array block)
        → (entry_of (transcribed set test 0 array) block ≡ entry_of array block) ⊎ ((entry_of (transcribed set test 0 array) block ≡ set.era) × (has set.blocks block ≡ true))
    by_flag true true is entry = inr (entry, is)
    by_flag true false is entry = inl entry
    by_flag false flag is entry = inl entry

-- a digest of a page keeps the marks
page-keeps : (m : BlockMarks) (oldest : ArchivedSet) (sets : List ArchivedSet) (page : ℕ) → m.archive ≡ oldest ∷ sets → AreValidMarks m → KeepsLastEras m (digested_from m (oldest ∷ sets) (Some page))
page-keeps m oldest sets page is valid = record {
  valid = record {
    begun = valid.begun;
    array_size = length-transcribed oldest (λ block. block / 1024 == page) 0 m.array ∙ valid.array_size;
    current_size = valid.current_size;
    archive = valid.archive;
    few_sets = valid.few_sets;
    entries = λ block. subst (λ a. entry_of after block ≤ entry_limit a m.era) (sym is) (at_most block (entry block).entry);
  };
  sectors = refl;
  block_sectors = refl;
  lasts = λ block. same_last block (entry block).entry;
}
  where
    after : List ℕ
    after = transcribed oldest (λ block. block / 1024 == page) 0 m.array

    entry : (block : ℕ) → IsTranscribed oldest m.array after block
    entry block = transcribed-entry oldest (λ block. block / 1024 == page) m.array block

    bound : (block : ℕ) → entry_of m.array block ≤ oldest.era
    bound block = subst (λ a. entry_of m.array block ≤ entry_limit a m.era) is (valid.entries block)

    at_most : (block : ℕ) → (entry_of after block ≡ entry_of m.array block) ⊎ ((entry_of after block ≡ oldest.era) × (has oldest.blocks block ≡ true)) → entry_of after block ≤ oldest.era
    at_most block (inl same) = let b = bound block in omega arith
    at_most block (inr new) = let e = new.0 in omega arith

    same_last : (block : ℕ) → (entry_of after block ≡ entry_of m.array block) ⊎ ((entry_of after block ≡ oldest.era) × (has oldest.blocks block ≡ true))
        → marks_last_era (record m { array = after }) block ≡ marks_last_era m block
    same_last block (inl same) = ap (λ e. max e (max (last_archived m.archive block) (if has m.current block then m.era else 0))) same
    same_last block (inr new) = let b = bound block in rw (new.0, is, new.1) (omega (arith, b))

-- where no block of a set is left to transcribe, each has the set's era as its entry
transcribed-all : (era : ℕ) (flags : List Bool) (array : List ℕ) (first : ℕ) → first_untranscribed era flags array first ≡ None → (at : ℕ) → get_or flags at false ≡ true → entry_of array (first + at) ≡ era
transcribed-all era [] array first none at flag = absurd (cc)
transcribed-all era (set ∷ flags) array first none zero flag =
    by_entry (entry_of array first == era) refl none
  where
    by_entry : (same : Bool) → (entry_of array first == era) ≡ same → (if set && not (entry_of array first == era) then Some first else first_untranscribed era flags array (first + 1)) ≡ None → entry_of array (first + 0) ≡ era
    by_entry true is rest = ap (λ n. entry_of array n) (let e : first + 0 ≡ first = omega arith in e) ∙ eqb-true (entry_of array first) era is
    by_entry false is rest = absurd (let some : Some first ≡ None = rw (flag, is) at rest in cc)
transcribed-all era (set ∷ flags) array first none (suc at) flag =
    cond_both (set && not (entry_of array first == era)) (Some first) (first_untranscribed era flags array (first + 1)) (λ found. found ≡ None → entry_of array (first + suc at) ≡ era)
    (λ left some. absurd (cc))
    (λ done rest. ap (λ n. entry_of array n) (let e : first + suc at ≡ first + 1 + at = omega arith in e) ∙ transcribed-all era flags array (first + 1) rest at flag) none

-- dropping a set whose blocks are all transcribed keeps the marks
drop-keeps : (m : BlockMarks) (oldest : ArchivedSet) (sets : List ArchivedSet) → m.archive ≡ oldest ∷ sets → first_untranscribed oldest.era oldest.blocks m.array 0 ≡ None → AreValidMarks m
    → KeepsLastEras m (digested_from m (oldest ∷ sets) None)
drop-keeps m oldest sets is none valid =
    let archived = subst (λ a. AreArchivedBetween (blocks_of_marks m) 0 m.era a) is valid.archive in
    record {
      valid = record {
        begun = valid.begun;
        array_size = valid.array_size;
        current_size = valid.current_size;
        archive = archived-weaker (blocks_of_marks m) oldest.era 0 m.era sets (omega arith) archived.3;
        few_sets = let few = subst (λ a. length a ≤ 16) is valid.few_sets in omega arith;
        entries = λ block. below_limit sets block archived.1 archived.3 (bound block);
      };
      sectors = refl;
      block_sectors = refl;
      lasts = λ block. same_last block (has oldest.blocks block) refl;
    }
  where
    bound : (block : ℕ) → entry_of m.array block ≤ oldest.era
    bound block = subst (λ a. entry_of m.array block ≤ entry_limit a m.era) is (valid.entries block)

    below_limit : (sets : List ArchivedSet) (block : ℕ) → oldest.era < m.era → AreArchivedBetween (blocks_of_marks m) oldest.era m.era sets → entry_of m.array block ≤ oldest.era → entry_of m.array block ≤ entry_limit sets m.era
    below_limit [] block below archived less = omega arith
    below_limit (set ∷ sets) block below archived less = let e = archived.0 in omega arith

    same_last : (block : ℕ) (flag : Bool) → has oldest.blocks block ≡ flag → marks_last_era (record m { archive = sets }) block ≡ marks_last_era m block
    same_last block true has_it =
        let e : entry_of m.array block ≡ oldest.era = ap (λ b. entry_of m.array b) (let e : block ≡ 0 + block = omega arith in e) ∙ transcribed-all oldest.era oldest.blocks m.array 0 none block has_it in
        rw (is, has_it) (omega (arith, e))
    same_last block false lacks = rw (is, lacks) (omega arith)

-- a digest step keeps the marks
digest-keeps_from : (m : BlockMarks) (sets : List ArchivedSet) (era : ℕ) (page : Option ℕ) → m.archive ≡ sets → digest_of sets m.array ≡ Some (era, page) → AreValidMarks m → KeepsLastEras m (digested_from m sets page)
digest-keeps_from m [] era page is step valid = absurd (cc)
digest-keeps_from m (oldest ∷ sets) era (Some page) is step valid = page-keeps m oldest sets page is valid
digest-keeps_from m (oldest ∷ sets) era None is step valid =
    drop-keeps m oldest sets is (nothing_left (first_untranscribed oldest.era oldest.blocks m.array 0) (ap (λ step. step.1) (same_Some (oldest.era, option_map (λ block. block / 1024) (first_untranscribed oldest.era oldest.blocks m.array 0)) (era, None) step))) valid
  where
    nothing_left : (found : Option ℕ) → option_map (λ block. block / 1024) found ≡ None → found ≡ None
    nothing_left None none = refl
    nothing_left (Some block) none = absurd (cc)

pub digest-keeps : (m : BlockMarks) (era : ℕ) (page : Option ℕ) → AreValidMarks m → digest_of m.archive m.array ≡ Some (era, page) → KeepsLastEras m (digested m page)
digest-keeps m era page valid step = digest-keeps_from m m.archive era page refl step valid

-- a merged array is as long as before
length-merged : (sets : List ArchivedSet) (first : ℕ) (array : List ℕ) → length (merged_array sets first array) ≡ length array
length-merged sets first [] = refl
length-merged sets first (entry ∷ array) = ap suc (length-merged sets (first + 1) array)

-- each entry is the greatest of what it was and of the archived sets' eras
entry-merged : (sets : List ArchivedSet) (first : ℕ) (array : List ℕ) (at : ℕ) → at < length array → get_or (merged_array sets first array) at 0 ≡ max (get_or array at 0) (last_archived sets (first + at))
entry-merged sets first [] at within = absurd (omega arith)
entry-merged sets first (entry ∷ array) zero within = ap (λ block. max entry (last_archived sets block)) (let e : first ≡ first + 0 = omega arith in e)
entry-merged sets first (entry ∷ array) (suc at) within =
    entry-merged sets (first + 1) array at (omega arith) ∙ ap (λ block. max (get_or array at 0) (last_archived sets block)) (let e : first + 1 + at ≡ first + suc at = omega arith in e)

-- so of each block
merged-entry : (m : BlockMarks) (block : ℕ) → AreValidMarks m → entry_of (merged_marks m).array block ≡ max (entry_of m.array block) (last_archived m.archive block)
merged-entry m block valid = elim (cases_lt block (length m.array)) [
  | inl within ↦ entry-merged m.archive 0 m.array block within ∙ ap (λ b. max (entry_of m.array block) (last_archived m.archive b)) (let e : 0 + block ≡ block = omega arith in e)
  | inr past ↦
      let gone : entry_of m.array block ≡ 0 = get_or_past m.array block 0 past in
      let none = sets-past (blocks_of_marks m) 0 m.era m.archive block valid.archive (let e = valid.array_size in omega arith) in
      let out : entry_of (merged_marks m).array block ≡ 0 = get_or_past (merged_array m.archive 0 m.array) block 0 (rw (length-merged m.archive 0 m.array) past) in
      omega (arith, gone, none, out)
]

-- no array entry is of the present era
entry-before : (m : BlockMarks) (sets : List ArchivedSet) (block : ℕ) → m.archive ≡ sets → AreValidMarks m → entry_of m.array block < m.era
entry-before m [] block is valid = let limit = subst (λ a. entry_of m.array block ≤ entry_limit a m.era) is (valid.entries block) in let begun = valid.begun in omega arith
entry-before m (oldest ∷ sets) block is valid =
    let limit = subst (λ a. entry_of m.array block ≤ entry_limit a m.era) is (valid.entries block) in
    let archived = subst (λ a. AreArchivedBetween (blocks_of_marks m) 0 m.era a) is valid.archive in let below = archived.1 in omega arith

-- a merge of all archived sets keeps the marks
pub merge-keeps : (m : BlockMarks) → AreValidMarks m → KeepsLastEras m (merged_marks m)
merge-keeps m valid = record {
  valid = record {
    begun = valid.begun;
    array_size = length-merged m.archive 0 m.array ∙ valid.array_size;
    current_size = valid.current_size;
    archive = tt;
    few_sets = omega arith;
    entries = λ block.
        let entry = merged-entry m block valid in let below = entry-before m m.archive block refl valid in
        let sets = last_archived-below (blocks_of_marks m) 0 m.era m.archive block valid.archive valid.begun in
        omega arith;
  };
  sectors = refl;
  block_sectors = refl;
  lasts = λ block. let entry = merged-entry m block valid in rw entry (omega arith);
}
