-- The era array with a set merged into it, entry by entry.
use Rattle.std.proofs.Common.{◌≡◌, ℕ, zero, suc, ◌+◌, ◌-◌, ◌*◌, ◌/◌, ◌%◌, ◌<◌, ◌≤◌, ◌≢◌, true, false, List, [], ◌∷◌, length, get_or, take, drop, nat_eq, refl, sym, ap, ◌∙◌, arith, inl, inr, eq-eqb}
use Rattle.std.specs.Prelude.{if◌then◌else◌}
use Rattle.std.specs.Int.{div_ceil}
use Rattle.std.proofs.lemmas.Bool.{cases_eq, eqb-true}
use Rattle.std.proofs.lemmas.List.{ext_get_or}
use Rattle.era_array.specs.Entries.{transcribed_entry}
use Rattle.era_base.specs.Bits.{bit_of, bit_of_words}
use Rattle.era_base.specs.Flags.{has}
use Rattle.era_model.specs.Marks.{ArchivedSet, transcribed}
use Rattle.era_meta.proofs.PartsOfLists.{item-of-part}

pub length-transcribed : (set : ArchivedSet) (first : ℕ) (array : List ℕ) → length (transcribed set (λ b. true) first array) ≡ length array
length-transcribed set first [] = refl
length-transcribed set first (entry ∷ array) = ap suc (length-transcribed set (first + 1) array)

entry-from : (set : ArchivedSet) (first : ℕ) (array : List ℕ) (at : ℕ) → at < length array
    → get_or (transcribed set (λ b. true) first array) at 0 ≡ (if has set.blocks (first + at) then set.era else get_or array at 0)
entry-from set first [] at within = absurd (omega arith)
entry-from set first (entry ∷ array) zero within =
    ap (λ (block : ℕ). if has set.blocks block then set.era else entry) (let e : first ≡ first + 0 = omega arith in e)
entry-from set first (entry ∷ array) (suc at) within =
    entry-from set (first + 1) array at (omega arith)
    ∙ ap (λ (block : ℕ). if has set.blocks block then set.era else get_or array at 0) (let e : first + 1 + at ≡ first + suc at = omega arith in e)

-- an array of these entries is the merged one
pub merged-is : (set : ArchivedSet) (old new : List ℕ) → length new ≡ length old
    → ((block : ℕ) → block < length old → get_or new block 0 ≡ (if has set.blocks block then set.era else get_or old block 0))
    → new ≡ transcribed set (λ b. true) 0 old
merged-is set old new size entries =
    ext_get_or 0 new (transcribed set (λ b. true) 0 old) (size ∙ sym (length-transcribed set 0 old))
    (λ block lt.
    let within : block < length old = omega (arith, size) in
    entries block within
    ∙ sym (entry-from set 0 old block within ∙ ap (λ (at : ℕ). if has set.blocks at then set.era else get_or old block 0) (let e : 0 + block ≡ block = omega arith in e)))

pub bit-of-page : (words : List ℕ) (page bit : ℕ) → bit < 1024 → bit_of_words (take 16 (drop (16 * page) words)) bit ≡ bit_of_words words (1024 * page + bit)
bit-of-page words page bit lt =
    let word : (1024 * page + bit) / 64 ≡ 16 * page + bit / 64 = omega arith in
    let rest : (1024 * page + bit) % 64 ≡ bit % 64 = omega arith in
    ap (λ (n : ℕ). bit_of n (bit % 64)) (item-of-part words (16 * page) 16 (bit / 64) (omega arith)) ∙ rw (word, rest) refl

-- the blocks of the first pages are merged, and the others are as they were
pub record IsMergedUpTo (set : ArchivedSet) (old now : List ℕ) (page : ℕ) : Type 0 where
  pub size : length now ≡ length old
  pub front : (block : ℕ) → block < length old → block / 1024 < page → get_or now block 0 ≡ (if has set.blocks block then set.era else get_or old block 0)
  pub back : (block : ℕ) → block < length old → page ≤ block / 1024 → get_or now block 0 ≡ get_or old block 0

own-entry : (words : List ℕ) (set : ArchivedSet) (mid : List ℕ) (page block entry : ℕ) → ((k : ℕ) → bit_of_words words k ≡ has set.blocks k) → block / 1024 ≡ page
    → get_or mid block 0 ≡ entry
    → transcribed_entry mid page (take 16 (drop (16 * page) words)) set.era block ≡ (if has set.blocks block then set.era else entry)
own-entry words set mid page block entry bits own was =
    let test : nat_eq (block / 1024) page ≡ true = eq-eqb (block / 1024) page own in
    let at : 1024 * page + (block - 1024 * page) ≡ block = omega arith in
    let bit : bit_of_words (take 16 (drop (16 * page) words)) (block - 1024 * page) ≡ has set.blocks block
    = bit-of-page words page (block - 1024 * page) (omega arith) ∙ (ap (bit_of_words words) at ∙ bits block) in
    rw (test, bit, was) refl

differ-false : (a b : ℕ) → a ≢ b → nat_eq a b ≡ false
differ-false a b differ = elim (nat_eq a b) as (λ flag. nat_eq a b ≡ flag → flag ≡ false) [
  | true ↦ λ is. absurd (differ (eqb-true a b is))
  | false ↦ λ is. refl
] refl

other-entry : (words : List ℕ) (mid : List ℕ) (page era block : ℕ) → block / 1024 ≢ page
    → transcribed_entry mid page words era block ≡ get_or mid block 0
other-entry words mid page era block apart =
    let test : nat_eq (block / 1024) page ≡ false = differ-false (block / 1024) page apart in
    rw test refl

pub merged-step : (words : List ℕ) (set : ArchivedSet) (old mid now : List ℕ) (page : ℕ) → ((k : ℕ) → bit_of_words words k ≡ has set.blocks k)
    → length now ≡ length mid
    → ((block : ℕ) → block < length mid → get_or now block 0 ≡ transcribed_entry mid page (take 16 (drop (16 * page) words)) set.era block)
    → IsMergedUpTo set old mid page → IsMergedUpTo set old now (page + 1)
merged-step words set old mid now page bits size entries merged =
    let same = merged.size in
    record {
      size = size ∙ merged.size;
      front = λ block lt up. elim (cases_eq (block / 1024) page) [
        | inl own ↦ entries block (omega arith) ∙ own-entry words set mid page block (get_or old block 0) bits own (merged.back block lt (omega arith))
        | inr apart ↦ entries block (omega arith) ∙ (other-entry (take 16 (drop (16 * page) words)) mid page set.era block apart ∙ merged.front block lt (omega (arith, apart)))
      ];
      back = λ block lt behind.
          let apart : block / 1024 ≢ page = omega arith in
          entries block (omega arith) ∙ (other-entry (take 16 (drop (16 * page) words)) mid page set.era block apart ∙ merged.back block lt (omega arith));
    }

pub merged-end : (set : ArchivedSet) (old now : List ℕ) (page : ℕ) → div_ceil (length old) 1024 ≤ page → IsMergedUpTo set old now page
    → now ≡ transcribed set (λ b. true) 0 old
merged-end set old now page past merged = merged-is set old now merged.size (λ block lt. merged.front block lt (omega arith))
