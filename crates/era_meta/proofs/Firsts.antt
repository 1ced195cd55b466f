-- Marks without blocks, and the first root of a disk: its pages take the first page area.
use Rattle.std.proofs.Common.{◌≡◌, ℕ, zero, suc, ◌+◌, ◌*◌, ◌≤◌, Bool, false, List, [], ◌∷◌, ◌++◌, length, get_or, replicate, take, refl, ap, ◌∙◌, arith, inl}
use Rattle.std.specs.List.{AllByRecursion}
use Rattle.std.proofs.lemmas.List.{length-append, length-replicate}
use Rattle.era_base.specs.Geometry.{array_pages_of, bit_pages_of, blocks_of, root_pages_of}
use Rattle.era_layout.specs.declared.archive.Archived.{Archived}
use Rattle.era_base.specs.declared.limits.TheConstants.{MOST_SETS}
use Rattle.era_layout.specs.Root.{RootFields, archive_pages, numbers_from, pages_of}
use Rattle.era_model.specs.Marks.{ArchivedSet, no_marks}
use Rattle.era_model.specs.Validity.{AreValidMarks}
use Rattle.era_meta.specs.Areas.{area_start, page_count, IsOutside, IsFreeArea, IsLeastFreeArea, TakesNextBlocks}
use Rattle.era_meta.specs.LiveParts.{AreLiveParts}
use Rattle.era_meta.proofs.Agree.{all_both, all_weaker}
use Rattle.era_meta.proofs.AreasLists.{first-of}
use Rattle.era_meta.proofs.AreasPrepared.{count-fits}

-- no block has an entry
entry-none : (blocks block : ℕ) → get_or (replicate blocks zero) block zero ≡ zero
entry-none zero block = refl
entry-none (suc blocks) zero = refl
entry-none (suc blocks) (suc block) = entry-none blocks block

pub no-marks-valid : (sectors block_sectors : ℕ) → AreValidMarks (no_marks sectors block_sectors 1)
no-marks-valid sectors block_sectors = record {
  begun = omega arith;
  array_size = length-replicate (blocks_of sectors block_sectors) 0;
  current_size = length-replicate (blocks_of sectors block_sectors) false;
  archive = tt;
  few_sets = omega arith;
  entries = λ block. let none = entry-none (blocks_of sectors block_sectors) block in omega arith;
}

-- the parts of no marks
pub first-live : (sectors block_sectors blocks : ℕ) (array : List ℕ) (current : List Bool) (archive spare : List ArchivedSet) → blocks ≡ blocks_of sectors block_sectors
    → array ≡ replicate blocks 0 → current ≡ replicate blocks false → archive ≡ [] → length spare ≡ MOST_SETS → AllByRecursion (λ set. length set.blocks ≡ blocks) spare
    → AreLiveParts (record { sectors = sectors; block_sectors = block_sectors; era = 1; array = array; archive = archive; current = current }) spare
first-live sectors block_sectors blocks array current archive spare same one two three count sizes = record {
  valid = rw (one, two, three, same) (no-marks-valid sectors block_sectors);
  sizes = rw same at sizes;
  sets = let none = ap length three in omega arith;
}

-- one item more has the property
pub all_more : {A : Type 0} (P : A → Type 0) (xs : List A) (x : A) → AllByRecursion P xs → P x → AllByRecursion P (xs ++ x ∷ [])
all_more P xs x all one = all_both P xs (x ∷ []) all (one, tt)

-- block 0 lies in no page area
pub zeros-free : (blocks area : ℕ) (pages : List ℕ) → AllByRecursion (λ page. page ≡ 0) pages → IsFreeArea blocks pages area
zeros-free blocks area pages all =
    all_weaker (λ page. page ≡ 0) (IsOutside (area_start blocks area) (root_pages_of blocks)) pages (λ page none. inl (omega (arith, none))) all

zeros : (n : ℕ) → AllByRecursion {X = ℕ} (λ page. page ≡ 0) (replicate n 0)
zeros zero = tt
zeros (suc n) = (refl, zeros n)

pub zero-pages : (root : RootFields) (n m : ℕ) → root.array ≡ replicate n 0 → root.current ≡ replicate m 0 → root.archive ≡ [] → AllByRecursion (λ page. page ≡ 0) (pages_of root)
zero-pages root n m one two none =
    let P = λ (page : ℕ). page ≡ 0 in
    rw (one, two, none) (all_both P (replicate n 0 ++ replicate m 0) [] (all_both P (replicate n 0) (replicate m 0) (zeros n) (zeros m)) tt)

-- room for a root has no more pages than a page area
pub room-few : (blocks : ℕ) (root : RootFields) → length root.array ≡ array_pages_of blocks → length root.current ≡ bit_pages_of blocks → root.archive ≡ []
    → length (pages_of root) ≤ root_pages_of blocks
room-few blocks root array current none =
    let front = length-append (root.array ++ root.current) (archive_pages root.archive) in
    let own = length-append root.array root.current in
    let rest = ap (λ (archive : List Archived). length (archive_pages archive)) none in
    omega arith

-- the first area is the least free one, where it is free: so pages take the numbers from 3 on
pub first-numbers : (blocks : ℕ) (used : List ℕ) (next : RootFields) → IsFreeArea blocks used 0 → TakesNextBlocks blocks used next → length next.archive ≤ MOST_SETS
    → pages_of next ≡ numbers_from 3 (page_count blocks (length next.archive))
first-numbers blocks used next free taken few =
    let size = root_pages_of blocks in let count = page_count blocks (length next.archive) in
    let least : IsLeastFreeArea blocks used 0 = record { three = omega arith; free = free; least = λ other less. absurd (omega (arith, less)) } in
    let from : taken.0 ≡ numbers_from 3 size = taken.1.area 0 least ∙ ap (λ (n : ℕ). numbers_from n size) (let e : 3 + 0 * size ≡ 3 = omega arith in e) in
    taken.2 ∙ ap (take count) from ∙ first-of 3 count size (count-fits blocks (length next.archive) few)
