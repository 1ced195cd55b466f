-- Sets and lists that are copied into spare ones, one after another.
use Rattle.std.proofs.Common.{◌≡◌, ℕ, zero, suc, ◌+◌, ◌<◌, ◌≤◌, Bool, List, [], ◌∷◌, ◌++◌, length, get_or, take, drop, refl, sym, ap, ◌∙◌, subst, arith}
use Rattle.std.specs.List.{AllByRecursion}
use Rattle.std.proofs.lemmas.List.{ext_get_or, length-append, length-drop, length-take, take_all, take_more}
use Rattle.std.specs.Prelude.{slice_index}
use Rattle.era_base.specs.Geometry.{blocks_of}
use Rattle.era_model.specs.Marks.{ArchivedSet, BlockMarks, blocks_of_marks}
use Rattle.era_model.specs.Validity.{AreValidMarks}
use Rattle.era_meta.specs.LiveParts.{AreLiveParts}
use Rattle.era_meta.proofs.AreasLists.{all_both}
use Rattle.era_meta.proofs.AreasNumbered.{all_drop, behind}
use Rattle.era_meta.proofs.MarkRunsTold.{sizes-of}

-- the sets so far are copied, and as many spare ones are taken
pub record IsCopied {A B : Type 0} (all : List A) (spare : List B) (index : ℕ) (copies : List A) (left : List B) : Type 0 where
  pub copies_are : copies ≡ take index all
  pub left_are : left ≡ drop index spare

-- one more
pub copied-step : {A B : Type 0} (all : List A) (spare : List B) (index : ℕ) (copies : List A) (left : List B) (item copy : A) (taken : B) (rest : List B)
    → index < length all → item ≡ get_or all index item → IsCopied all spare index copies left → left ≡ taken ∷ rest → copy ≡ item
    → IsCopied all spare (index + 1) (copies ++ copy ∷ []) rest
copied-step {A} {B} all spare index copies left item copy taken rest lt is so_far split same = record {
  copies_are = ap (λ (front : List A). front ++ copy ∷ []) so_far.copies_are ∙ ap (λ (last : A). take index all ++ last ∷ []) (same ∙ is) ∙ sym (take_more all index item lt);
  left_are = behind spare index taken rest (sym so_far.left_are ∙ split);
}

-- there is a spare one for the next, and room for its copy
pub copied-left : {A B : Type 0} (all : List A) (spare : List B) (index : ℕ) (copies : List A) (left : List B) → index < length all → length all ≤ length spare
    → IsCopied all spare index copies left → (0 < length left) × (length copies ≡ index)
copied-left all spare index copies left lt enough so_far =
    let one = ap length so_far.left_are ∙ length-drop index spare in
    let two = ap length so_far.copies_are ∙ length-take index all in
    (omega arith, omega arith)

-- at the end all are copied
pub copied-end : {A B : Type 0} (all : List A) (spare : List B) (index : ℕ) (copies : List A) (left : List B) → index ≡ length all → IsCopied all spare index copies left
    → (copies ≡ all) × (left ≡ drop (length all) spare)
copied-end {A} {B} all spare index copies left end so_far = (
  so_far.copies_are ∙ take_all index all (omega arith),
  so_far.left_are ∙ ap (λ (n : ℕ). drop n spare) end,
)

-- what holds of all spare ones holds of the next
pub next-spare : {A : Type 0} (P : A → Type 0) (spare left : List A) (index : ℕ) (taken : A) (rest : List A) → AllByRecursion P spare → left ≡ drop index spare
    → left ≡ taken ∷ rest → P taken
next-spare P spare left index taken rest all are split = (subst (AllByRecursion P) (sym are ∙ split) (all_drop P index spare all)).0

pub at-item : {A : Type 0} (P : A → Type 0) (all : List A) (index : ℕ) (item : A) → AllByRecursion P all → index < length all → item ≡ get_or all index item → P item
at-item P [] index item holds lt is = absurd (omega arith)
at-item P (first ∷ all) zero item holds lt is = subst P (sym is) holds.0
at-item P (first ∷ all) (suc index) item holds lt is = at-item P all index item holds.1 (omega arith) is

-- entries that were all put are those that were put
pub all-put : (old new put : List ℕ) → length old ≡ length put → length new ≡ length old
    → ((index : ℕ) → index < length put → slice_index new (0 + index) ≡ slice_index put index) → new ≡ put
all-put old new put one two each = ext_get_or 0 new put (two ∙ one) (λ index lt.
    ap (λ (k : ℕ). get_or new k 0) (let e : index ≡ 0 + index = omega arith in e) ∙ each index (omega arith))

-- sets that are given back are of as many blocks, and as many
pub released-sizes : (blocks : ℕ) (spare archive released : List ArchivedSet) → released ≡ spare ++ archive → AllByRecursion (λ set. length set.blocks ≡ blocks) spare
    → AllByRecursion (λ set. length set.blocks ≡ blocks) archive → AllByRecursion (λ set. length set.blocks ≡ blocks) released × (length released ≡ length spare + length archive)
released-sizes blocks spare archive released is one two = (
  subst (AllByRecursion (λ (set : ArchivedSet). length set.blocks ≡ blocks)) (sym is) (all_both (λ (set : ArchivedSet). length set.blocks ≡ blocks) spare archive one two),
  ap length is ∙ length-append spare archive,
)

-- marks whose parts are those of others are the others
pub copied-marks : (own other : BlockMarks) (array : List ℕ) (archive : List ArchivedSet) (current : List Bool) → own.sectors ≡ other.sectors
    → own.block_sectors ≡ other.block_sectors → array ≡ other.array → archive ≡ other.archive → current ≡ other.current
    → record { sectors = own.sectors; block_sectors = own.block_sectors; era = other.era; array = array; archive = archive; current = current } ≡ other
copied-marks own other array archive current one two three four five = rw (one, two, three, four, five) refl

-- and they are live parts with the sets that are left
pub copied-parts : (own other made : BlockMarks) (spare spare' released left : List ArchivedSet) → own.sectors ≡ other.sectors → own.block_sectors ≡ other.block_sectors
    → AreLiveParts own spare → AreLiveParts other spare' → made ≡ other → released ≡ spare ++ own.archive → left ≡ drop (length other.archive) released → AreLiveParts made left
copied-parts own other made spare spare' released left one two mine theirs is free rest =
    let blocks = blocks_of_marks own in
    let same : blocks_of_marks made ≡ blocks
    = ap blocks_of_marks is ∙ sym (ap (λ (n : ℕ). blocks_of n own.block_sectors) one ∙ ap (λ (n : ℕ). blocks_of other.sectors n) two) in
    let all = released-sizes blocks spare own.archive released free mine.sizes (sizes-of blocks 0 own.era own.archive mine.valid.archive) in
    let count = all.1 in let sum = mine.sets in let few = theirs.valid.few_sets in
    let size = ap length rest ∙ length-drop (length other.archive) released in let archive = ap (λ (m : BlockMarks). length m.archive) is in
    record {
      valid = subst AreValidMarks (sym is) theirs.valid;
      sizes = subst (λ (n : ℕ). AllByRecursion (λ set. length set.blocks ≡ n) left) (sym same)
          (subst (AllByRecursion (λ (set : ArchivedSet). length set.blocks ≡ blocks)) (sym rest)
          (all_drop (λ (set : ArchivedSet). length set.blocks ≡ blocks) (length other.archive) released all.0));
      sets = omega arith;
    }
