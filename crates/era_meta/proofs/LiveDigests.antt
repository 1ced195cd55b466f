-- One digest step in memory: what is left to transcribe, a page that is transcribed and put back, and a set that is dropped.
use Rattle.std.proofs.Common.{◌≡◌, ℕ, zero, suc, ◌+◌, ◌-◌, ◌*◌, ◌/◌, ◌<◌, ◌≤◌, ◌&&◌, not, Bool, true, false, inl, inr, List, [], ◌∷◌, Option, Some, None, length, get_or, take, drop, nat_eq, refl, sym, ap, ◌∙◌, subst, arith}
use Rattle.std.specs.Prelude.{option_map, slice_index, if◌then◌else◌}
use Rattle.std.proofs.lemmas.Bool.Decides.{eqb_tells}
use Rattle.std.proofs.lemmas.List.{drop_more, ext_get_or, length-take, length-drop}
use Rattle.era_array.specs.Entries.{transcribed_entry}
use Rattle.era_base.specs.Bits.{bit_of_words}
use Rattle.era_base.specs.Flags.{has}
use Rattle.era_model.specs.Digest.{digest_of, digested, first_untranscribed}
use Rattle.era_model.specs.Marks.{ArchivedSet, BlockMarks, blocks_of_marks, entry_of, transcribed}
use Rattle.era_model.specs.Validity.{AreValidMarks, AreArchivedBetween}
use Rattle.era_meta.specs.Digesting.{IsDigest, WasTranscribed, entries_of_page}
use Rattle.era_meta.proofs.Merged.{bit-of-page}
use Rattle.era_meta.proofs.PartsOfLists.{item-of-part}

-- whether a block of a set is left to transcribe
abbrev pub is_left : ℕ → List Bool → List ℕ → ℕ → Bool
is_left era flags array block = has flags block && not (nat_eq (entry_of array block) era)

left-at : (era : ℕ) (flags : List Bool) (array : List ℕ) (block : ℕ) → block < length flags
    → first_untranscribed era (drop block flags) array block
    ≡ (if is_left era flags array block then Some block else first_untranscribed era (drop (block + 1) flags) array (block + 1))
left-at era flags array block lt = rw (drop_more flags block false lt) refl

-- a block that isn't left is passed over
pub left-passed : (era : ℕ) (flags : List Bool) (array : List ℕ) (block : ℕ) → block < length flags → is_left era flags array block ≡ false
    → first_untranscribed era (drop block flags) array block ≡ first_untranscribed era (drop (block + 1) flags) array (block + 1)
left-passed era flags array block lt passed =
    left-at era flags array block lt
    ∙ ap (λ (test : Bool). if test then Some block else first_untranscribed era (drop (block + 1) flags) array (block + 1)) passed

-- one that is left is the first one
pub left-found : (era : ℕ) (flags : List Bool) (array : List ℕ) (block : ℕ) → block < length flags → is_left era flags array block ≡ true
    → first_untranscribed era (drop block flags) array block ≡ Some block
left-found era flags array block lt found =
    left-at era flags array block lt
    ∙ ap (λ (test : Bool). if test then Some block else first_untranscribed era (drop (block + 1) flags) array (block + 1)) found

drop-past : {A : Type 0} (xs : List A) (n : ℕ) → length xs ≤ n → drop n xs ≡ []
drop-past [] zero past = refl
drop-past [] (suc n) past = refl
drop-past (x ∷ xs) zero past = absurd (omega arith)
drop-past (x ∷ xs) (suc n) past = drop-past xs n (omega arith)

-- past the end none is left
pub none-left : (era : ℕ) (flags : List Bool) (array : List ℕ) (block : ℕ) → length flags ≤ block
    → first_untranscribed era (drop block flags) array block ≡ None
none-left era flags array block past = rw (drop-past flags block past) refl

-- the first block that is left lies in the set
first-below : (era : ℕ) (flags : List Bool) (array : List ℕ) (from block : ℕ) → first_untranscribed era flags array from ≡ Some block → block < from + length flags
first-below era [] array from block is = cc
first-below era (flag ∷ flags) array from block is =
    elim (flag && not (nat_eq (entry_of array from) era)) as (λ test.
    (if test then Some from else first_untranscribed era flags array (from + 1)) ≡ Some block → block < from + length (flag ∷ flags)) [
      | true ↦ λ found. let same : from ≡ block = cc in omega arith
      | false ↦ λ passed. let rest = first-below era flags array (from + 1) block passed in omega arith
    ] is

-- what a digest step that has something to do finds
pub record HasOldest (m : BlockMarks) (era : ℕ) : Type 0 where
  pub oldest : ArchivedSet
  pub sets : List ArchivedSet
  pub archive : m.archive ≡ oldest ∷ sets
  pub era_is : oldest.era ≡ era

-- the parts of a digest step
abbrev step_era : Option (ℕ × Option ℕ) → ℕ
step_era None = 0
step_era (Some step) = step.0

abbrev step_page : Option (ℕ × Option ℕ) → Option ℕ
step_page None = None
step_page (Some step) = step.1

oldest-from : (m : BlockMarks) (archive : List ArchivedSet) (era : ℕ) (page : Option ℕ) → m.archive ≡ archive → digest_of archive m.array ≡ Some (era, page) → HasOldest m era
oldest-from m [] era page same is = absurd (let never : ⊥ = cc in never)
oldest-from m (oldest ∷ sets) era page same is = record { oldest = oldest; sets = sets; archive = same; era_is = ap step_era is }

pub has-oldest : (m : BlockMarks) (era : ℕ) (page : Option ℕ) → IsDigest m era page → HasOldest m era
has-oldest m era page is = oldest-from m m.archive era page refl is

-- the set of valid marks that is oldest is of their blocks
pub oldest-size : (m : BlockMarks) (oldest : ArchivedSet) (sets : List ArchivedSet) → AreValidMarks m → m.archive ≡ oldest ∷ sets → length oldest.blocks ≡ blocks_of_marks m
oldest-size m oldest sets valid is = (subst (AreArchivedBetween (blocks_of_marks m) 0 m.era) is valid.archive).2

page-of-first : (first : Option ℕ) (page : ℕ) → option_map (λ block. block / 1024) first ≡ Some page → (block : ℕ) × (first ≡ Some block) × (block / 1024 ≡ page)
page-of-first None page is = absurd (let never : ⊥ = cc in never)
page-of-first (Some block) page is = (block, refl, cc)

-- the page that a digest transcribes is one of the array's
pub page-within : (m : BlockMarks) (era page : ℕ) → AreValidMarks m → IsDigest m era (Some page) → 1024 * page < length m.array
page-within m era page valid is =
    let has = has-oldest m era (Some page) is in
    let oldest = has.oldest in
    let step : digest_of (oldest ∷ has.sets) m.array ≡ Some (era, Some page) = subst (λ (archive : List ArchivedSet). digest_of archive m.array ≡ Some (era, Some page)) has.archive is in
    let first = page-of-first (first_untranscribed oldest.era oldest.blocks m.array 0) page (ap step_page step) in
    let below = first-below oldest.era oldest.blocks m.array 0 first.0 first.1 in
    let size = oldest-size m oldest has.sets valid has.archive in
    let array = valid.array_size in
    let at = first.2 in
    omega arith

-- a page of the array that is transcribed, entry by entry
length-paged : (set : ArchivedSet) (test : ℕ → Bool) (first : ℕ) (array : List ℕ) → length (transcribed set test first array) ≡ length array
length-paged set test first [] = refl
length-paged set test first (entry ∷ array) = ap suc (length-paged set test (first + 1) array)

entry-paged : (set : ArchivedSet) (test : ℕ → Bool) (first : ℕ) (array : List ℕ) (at : ℕ) → at < length array
    → get_or (transcribed set test first array) at 0 ≡ (if test (first + at) && has set.blocks (first + at) then set.era else get_or array at 0)
entry-paged set test first [] at within = absurd (omega arith)
entry-paged set test first (entry ∷ array) zero within =
    ap (λ (block : ℕ). if test block && has set.blocks block then set.era else entry) (let e : first ≡ first + 0 = omega arith in e)
entry-paged set test first (entry ∷ array) (suc at) within =
    entry-paged set test (first + 1) array at (omega arith)
    ∙ ap (λ (block : ℕ). if test block && has set.blocks block then set.era else get_or array at 0) (let e : first + 1 + at ≡ first + suc at = omega arith in e)

abbrev in_page : ℕ → ℕ → Bool
in_page page block = nat_eq (block / 1024) page

entry-of-paged : (set : ArchivedSet) (page : ℕ) (array : List ℕ) (block : ℕ) → block < length array
    → get_or (transcribed set (in_page page) 0 array) block 0 ≡ (if in_page page block && has set.blocks block then set.era else get_or array block 0)
entry-of-paged set page array block lt =
    entry-paged set (in_page page) 0 array block lt
    ∙ ap (λ (at : ℕ). if in_page page at && has set.blocks at then set.era else get_or array block 0) (let e : 0 + block ≡ block = omega arith in e)

same-test : (words : List ℕ) (set : ArchivedSet) (page block entry : ℕ) → ((k : ℕ) → bit_of_words words k ≡ has set.blocks k)
    → (if in_page page block && bit_of_words (take 16 (drop (16 * page) words)) (block - 1024 * page) then set.era else entry)
    ≡ (if in_page page block && has set.blocks block then set.era else entry)
same-test words set page block entry bits = elim (eqb_tells (block / 1024) page) [
  | inl own ↦
      let is = own.1 in
      let at : 1024 * page + (block - 1024 * page) ≡ block = omega arith in
      let bit : bit_of_words (take 16 (drop (16 * page) words)) (block - 1024 * page) ≡ has set.blocks block
      = bit-of-page words page (block - 1024 * page) (omega arith) ∙ (ap (bit_of_words words) at ∙ bits block) in
      rw bit refl
  | inr other ↦ rw other.0 refl
]

-- an array of these entries is the one with the page transcribed
pub paged-is : (words : List ℕ) (set : ArchivedSet) (page : ℕ) (old new : List ℕ) → ((k : ℕ) → bit_of_words words k ≡ has set.blocks k) → length new ≡ length old
    → ((block : ℕ) → block < length old → get_or new block 0 ≡ transcribed_entry old page (take 16 (drop (16 * page) words)) set.era block)
    → new ≡ transcribed set (in_page page) 0 old
paged-is words set page old new bits size entries =
    ext_get_or 0 new (transcribed set (in_page page) 0 old) (size ∙ sym (length-paged set (in_page page) 0 old))
    (λ block lt.
    let within : block < length old = omega (arith, size) in
    entries block within ∙ same-test words set page block (get_or old block 0) bits ∙ sym (entry-of-paged set page old block within))

-- the marks with a page transcribed
abbrev with_array : BlockMarks → List ℕ → BlockMarks
with_array m array = record m { array = array }

pub transcribed-marks : (m : BlockMarks) (oldest : ArchivedSet) (sets : List ArchivedSet) (page : ℕ) (array : List ℕ) → m.archive ≡ oldest ∷ sets
    → array ≡ transcribed oldest (in_page page) 0 m.array → with_array m array ≡ digested m (Some page)
transcribed-marks m oldest sets page array is same =
    rw (same, is) refl

-- entries that are put back
pub put-back : (set : ArchivedSet) (page : ℕ) (array saved old new : List ℕ) → old ≡ transcribed set (in_page page) 0 array → saved ≡ entries_of_page array page
    → length new ≡ length old → ((index : ℕ) → index < length saved → slice_index new (1024 * page + index) ≡ slice_index saved index)
    → ((block : ℕ) → (1024 * page ≤ block → 1024 * page + length saved ≤ block) → slice_index new block ≡ slice_index old block) → new ≡ array
put-back set page array saved old new is copied size put others =
    let same : length old ≡ length array = ap length is ∙ length-paged set (in_page page) 0 array in
    ext_get_or 0 new array (size ∙ same) (λ block lt.
    let within : block < length array = omega (arith, size, same) in
    elim (eqb_tells (block / 1024) page) [
      | inl own ↦
          let at = own.1 in
          let place : 1024 * page + (block - 1024 * page) ≡ block = omega arith in
          let sizes = ap length copied in
          let taken = length-take 1024 (drop (1024 * page) array) in
          let left = length-drop (1024 * page) array in
          let count : block - 1024 * page < length saved = omega arith in
          ap (λ (k : ℕ). get_or new k 0) (sym place) ∙ put (block - 1024 * page) count ∙ ap (λ (list : List ℕ). get_or list (block - 1024 * page) 0) copied
          ∙ item-of-part array (1024 * page) 1024 (block - 1024 * page) (omega arith) ∙ ap (λ (k : ℕ). get_or array k 0) place
      | inr other ↦
          let apart = other.1 in
          let sizes = ap length copied in
          let taken = length-take 1024 (drop (1024 * page) array) in
          let outside : 1024 * page ≤ block → 1024 * page + length saved ≤ block = λ from. omega (arith, apart) in
          others block outside ∙ ap (λ (list : List ℕ). get_or list block 0) is ∙ entry-of-paged set page array block within ∙ rw other.0 refl
    ])

-- the marks in memory after a page was transcribed, by their parts
pub transcribe-is : (m now : BlockMarks) (era page : ℕ) (first : ArchivedSet) (words array : List ℕ) → m ≡ now → IsDigest now era (Some page)
    → first ≡ get_or m.archive 0 first → ((k : ℕ) → bit_of_words words k ≡ has first.blocks k) → length array ≡ length m.array
    → ((block : ℕ) → block < length m.array → slice_index array block ≡ transcribed_entry m.array page (take 16 (drop (16 * page) words)) first.era block)
    → with_array m array ≡ digested now (Some page)
transcribe-is m now era page first words array is step at bits size entries =
    let has = has-oldest m era (Some page) (subst (λ (n : BlockMarks). IsDigest n era (Some page)) (sym is) step) in
    let same : first ≡ has.oldest = at ∙ ap (λ (archive : List ArchivedSet). get_or archive 0 first) has.archive in
    let archive : m.archive ≡ first ∷ has.sets = has.archive ∙ ap (λ (set : ArchivedSet). set ∷ has.sets) (sym same) in
    transcribed-marks m first has.sets page array archive (paged-is words first page m.array array bits size entries)
    ∙ ap (λ (n : BlockMarks). digested n (Some page)) is

-- the marks before a page was transcribed, and the array that they have then
array-after : (m now before : BlockMarks) (page : ℕ) (saved : List ℕ) → m ≡ now → (was : WasTranscribed page saved before now)
    → m ≡ with_array before (transcribed (has-oldest before was.era (Some page) was.step).oldest (in_page page) 0 before.array)
array-after m now before page saved is was =
    let has = has-oldest before was.era (Some page) was.step in
    is ∙ was.is ∙ sym (transcribed-marks before has.oldest has.sets page (transcribed has.oldest (in_page page) 0 before.array) has.archive refl)

-- the page's entries lie in the array
pub back-within : (m now before : BlockMarks) (page : ℕ) (saved : List ℕ) → m ≡ now → WasTranscribed page saved before now → 1024 * page + length saved ≤ length m.array
back-within m now before page saved is was =
    let has = has-oldest before was.era (Some page) was.step in
    let size : length m.array ≡ length before.array
    = ap (λ (n : BlockMarks). length n.array) (array-after m now before page saved is was) ∙ length-paged has.oldest (in_page page) 0 before.array in
    let within = page-within before was.era page was.valid was.step in
    let count = ap length was.entries in
    let taken = length-take 1024 (drop (1024 * page) before.array) in
    let left = length-drop (1024 * page) before.array in
    omega arith

-- the marks in memory are as before once the entries are back
pub back-is : (m now before : BlockMarks) (page : ℕ) (saved array : List ℕ) → m ≡ now → WasTranscribed page saved before now → length array ≡ length m.array
    → ((index : ℕ) → index < length saved → slice_index array (1024 * page + index) ≡ slice_index saved index)
    → ((block : ℕ) → (1024 * page ≤ block → 1024 * page + length saved ≤ block) → slice_index array block ≡ slice_index m.array block)
    → with_array m array ≡ before
back-is m now before page saved array is was size put others =
    let has = has-oldest before was.era (Some page) was.step in
    let after = array-after m now before page saved is was in
    let back : array ≡ before.array = put-back has.oldest page before.array saved m.array array (ap (λ (n : BlockMarks). n.array) after) was.entries size put others in
    ap (with_array m) back ∙ ap (λ (n : BlockMarks). with_array n before.array) after
