-- A root whose pages have the first of some numbers: what it is to its marks, and to the roots before it.
use Rattle.std.proofs.Common.{◌≡◌, ℕ, zero, suc, ◌+◌, ◌-◌, ◌*◌, ◌^◌, ◌<◌, ◌≤◌, true, List, [], ◌∷◌, ◌++◌, length, map, take, drop, refl, sym, ap, ◌∙◌, subst, arith}
use Rattle.std.specs.Prelude.{slice_index}
use Rattle.std.specs.List.{AllByRecursion}
use Rattle.std.proofs.lemmas.List.{drop-drop, get_or-take, length-append, length-drop, length-map, length-take-le}
use Rattle.std.proofs.lemmas.Nat.{mul-le}
use Rattle.std.proofs.Math.Seq.{take-add}
use Rattle.era_base.specs.Geometry.{array_pages_of, bit_pages_of, need_of, root_pages_of}
use Rattle.era_base.specs.declared.limits.TheConstants.{MOST_SETS}
use Rattle.era_layout.specs.declared.archive.Archived.{Archived}
use Rattle.era_layout.specs.Root.{RootFields, archive_pages, pages_of, AreDifferent, AreInImage, EraOrder, IsGeometry, IsValidRoot}
use Rattle.era_model.specs.Marks.{ArchivedSet, BlockMarks, blocks_of_marks}
use Rattle.era_model.specs.Validity.{AreArchivedBetween, AreValidMarks}
use Rattle.era_meta.specs.Areas.{is_unused, page_count, ArePlaces, IsNumbered, HasPageLists}
use Rattle.era_meta.specs.Content.{blocks_of_root}
use Rattle.era_meta.specs.Putting.{IsNone}
use Rattle.era_meta.specs.SaysMarks.{HasSets, IsRootFor}
use Rattle.era_meta.proofs.AreasNumbered.{all_drop, archive-numbers, length-archived, widths-are}
use Rattle.era_meta.proofs.Unused.{unused-apart}

-- the pages of a numbered root are the first of the numbers
pub numbered-pages : (numbers : List ℕ) (sets : List ArchivedSet) (next : RootFields) → IsNumbered numbers sets next → pages_of next ≡ take (page_count (blocks_of_root next) (length sets)) numbers
numbered-pages numbers sets next is =
    let a = array_pages_of (blocks_of_root next) in let w = bit_pages_of (blocks_of_root next) in let n = length sets * w in
    let archive : archive_pages next.archive ≡ take n (drop (a + w) numbers)
    = ap archive_pages is.archive ∙ archive-numbers (drop w (drop a numbers)) w sets ∙ ap (take n) (drop-drop w a numbers) in
    ap (λ (array : List ℕ). array ++ next.current ++ archive_pages next.archive) is.array
    ∙ ap (λ (current : List ℕ). take a numbers ++ current ++ archive_pages next.archive) is.current
    ∙ ap (λ (front : List ℕ). front ++ archive_pages next.archive) (sym (take-add a w numbers))
    ∙ ap (λ (pages : List ℕ). take (a + w) numbers ++ pages) archive
    ∙ sym (take-add (a + w) n numbers)

-- a root has no more pages than a page area
most-pages : (a w sets : ℕ) → sets ≤ 16 → a + w + sets * w ≤ a + 17 * w
most-pages a w sets few = omega (arith, mul-le sets w 16 w few (let e : w ≤ w = omega arith in e))

pub count-fits : (blocks sets : ℕ) → sets ≤ MOST_SETS → page_count blocks sets ≤ root_pages_of blocks
count-fits blocks sets few = most-pages (array_pages_of blocks) (bit_pages_of blocks) sets few

-- the first of some places for pages
all_take : (P : ℕ → Type 0) (count : ℕ) (xs : List ℕ) → AllByRecursion P xs → AllByRecursion P (take count xs)
all_take P zero xs all = tt
all_take P (suc count) [] all = tt
all_take P (suc count) (x ∷ xs) all = (all.0, all_take P count xs all.1)

at-index : (P : ℕ → Type 0) (xs : List ℕ) (index : ℕ) → index < length xs → AllByRecursion P xs → P (slice_index xs index)
at-index P [] index lt all = absurd (omega (arith, lt))
at-index P (x ∷ xs) zero lt all = all.0
at-index P (x ∷ xs) (suc index) lt all = at-index P xs index (omega (arith, lt)) all.1

places-in-image : (blocks count : ℕ) (used places : List ℕ) → ArePlaces blocks used places → AreInImage blocks (take count places)
places-in-image blocks count used places are = λ index lt.
    at-index (λ block. (3 ≤ block) × (block < need_of blocks)) (take count places) index lt
    (all_take (λ block. (3 ≤ block) × (block < need_of blocks)) count places are.range)

first-different : (count : ℕ) (places : List ℕ) → count ≤ length places → AreDifferent places → AreDifferent (take count places)
first-different count places enough differ = λ first second before within same.
    let size = length-take-le count places enough in
    let two : second < count = omega (arith, within, size) in let one : first < count = omega (arith, before, two) in
    differ first second before (omega (arith, two, enough))
    (sym (get_or-take count places first 0 one) ∙ same ∙ get_or-take count places second 0 two)

pub places-apart : (blocks count : ℕ) (used places : List ℕ) → ArePlaces blocks used places → AllByRecursion (IsNone (take count places)) used
places-apart blocks count used places are =
    unused-apart (take count places) used (all_take (λ put. is_unused used put ≡ true) count places are.unused)

-- the lists of a numbered root have their lengths
parts-fit : (a w n : ℕ) (numbers : List ℕ) → a + w + n ≤ length numbers
    → (a ≤ length numbers) × (w ≤ length (drop a numbers)) × (n ≤ length (drop w (drop a numbers)))
parts-fit a w n numbers enough =
    let one = length-drop a numbers in let two = length-drop w (drop a numbers) in
    (omega arith, omega arith, omega arith)

-- archived sets of valid marks are in order
pub order-of : (blocks above below : ℕ) (sets : List ArchivedSet) (archive : List Archived) → AreArchivedBetween blocks above below sets → HasSets sets archive → EraOrder above below archive
order-of blocks above below [] [] are has = tt
order-of blocks above below [] (archived ∷ archive) are has = absurd has
order-of blocks above below (set ∷ sets) [] are has = absurd has
order-of blocks above below (set ∷ sets) (archived ∷ archive) are has = (
  subst (λ (era : ℕ). above < era) (sym has.0) are.0,
  subst (λ (era : ℕ). era < below) (sym has.0) are.1,
  subst (λ (era : ℕ). EraOrder era below archive) (sym has.0) (order-of blocks set.era below sets archive are.3 has.1),
)

pub length-sets : (sets : List ArchivedSet) (archive : List Archived) → HasSets sets archive → length archive ≡ length sets
length-sets [] [] has = refl
length-sets [] (archived ∷ archive) has = absurd has
length-sets (set ∷ sets) [] has = absurd has
length-sets (set ∷ sets) (archived ∷ archive) has = ap suc (length-sets sets archive has.1)

-- a root of valid marks whose pages have the first of some places is valid
pub numbered-valid : (used places : List ℕ) (sets : List ArchivedSet) (next : RootFields) (m : BlockMarks) → next.sectors < 2 ^ 64 → IsGeometry next.sectors next.block_sectors → next.era < 2 ^ 32
    → length sets ≤ MOST_SETS → root_pages_of (blocks_of_root next) ≤ length places → ArePlaces (blocks_of_root next) used places
    → IsNumbered places sets next → AreValidMarks m → IsRootFor next m → IsValidRoot next
numbered-valid used places sets next m fits geometry era few enough are_places is are for =
    let blocks = blocks_of_root next in let count = page_count blocks (length sets) in
    let a = array_pages_of blocks in let w = bit_pages_of blocks in
    let most = count-fits blocks (length sets) few in
    let parts = parts-fit a w (length sets * w) places (omega (arith, most, enough)) in
    let pages : pages_of next ≡ take count places = numbered-pages places sets next is in
    record {
      length_fits = fits;
      geometry = geometry;
      era = let begun = are.begun in let same = for.era in omega arith;
      era_fits = era;
      array = ap length is.array ∙ length-take-le a places parts.0;
      current = ap length is.current ∙ length-take-le w (drop a places) parts.1;
      count = let same = length-sets m.archive next.archive for.archive in let most = are.few_sets in omega arith;
      sets = subst (λ (archive : List Archived). AllByRecursion (λ (set : Archived). length set.pages ≡ w) archive) (sym is.archive) (widths-are (drop w (drop a places)) w sets parts.2);
      order = subst (λ (era : ℕ). EraOrder 0 era next.archive) (sym for.era) (order-of (blocks_of_marks m) 0 m.era m.archive next.archive are.archive for.archive);
      range = rw pages (places-in-image blocks count used places are_places);
      different = rw pages (first-different count places (omega (arith, most, enough)) are_places.different);
    }

-- lists of sets, as lists of pages
pub all_lists : (P : List ℕ → Type 0) (spare : List (List ℕ)) (sets : List Archived) → AllByRecursion P spare → AllByRecursion (λ set. P set.pages) sets
    → AllByRecursion P (spare ++ map (λ (set : Archived). set.pages) sets)
all_lists P [] [] one two = tt
all_lists P [] (set ∷ sets) one two = (two.0, all_lists P [] sets tt two.1)
all_lists P (pages ∷ spare) sets one two = (one.0, all_lists P spare sets one.1 two)

-- the lists of a numbered root and the spare ones are as many as before, and as long
pub lists-stay : (numbers : List ℕ) (sets : List ArchivedSet) (old next : RootFields) (spare spare' : List (List ℕ)) → HasPageLists (blocks_of_root next) old spare → length sets ≤ length old.archive + length spare
    → length sets ≤ MOST_SETS → root_pages_of (blocks_of_root next) ≤ length numbers → IsNumbered numbers sets next → spare' ≡ drop (length sets) (spare ++ map (λ (set : Archived). set.pages) old.archive)
    → HasPageLists (blocks_of_root next) next spare' × (length next.archive + length spare' ≡ length old.archive + length spare)
lists-stay numbers sets old next spare spare' lists enough few some is left =
    let blocks = blocks_of_root next in let a = array_pages_of blocks in let w = bit_pages_of blocks in
    let fits = count-fits blocks (length sets) few in
    let parts = parts-fit a w (length sets * w) numbers (omega (arith, fits, some)) in
    let all = spare ++ map (λ (set : Archived). set.pages) old.archive in
    let archived : length next.archive ≡ length sets = ap length is.archive ∙ length-archived (drop w (drop a numbers)) w sets in
    let size : length all ≡ length spare + length old.archive = length-append spare (map (λ (set : Archived). set.pages) old.archive) ∙ ap (λ (n : ℕ). length spare + n) (length-map old.archive (λ (set : Archived). set.pages)) in
    let rest : length spare' ≡ length all - length sets = ap length left ∙ length-drop (length sets) all in
    let sum : length next.archive + length spare' ≡ length old.archive + length spare = omega arith in (
      record {
        array = ap length is.array ∙ length-take-le a numbers parts.0;
        current = ap length is.current ∙ length-take-le w (drop a numbers) parts.1;
        sets = subst (λ (archive : List Archived). AllByRecursion (λ (set : Archived). length set.pages ≡ w) archive) (sym is.archive) (widths-are (drop w (drop a numbers)) w sets parts.2);
        spare = subst (λ (kept : List (List ℕ)). AllByRecursion (λ (pages : List ℕ). length pages ≡ w) kept) (sym left)
            (all_drop (λ (pages : List ℕ). length pages ≡ w) (length sets) all (all_lists (λ (pages : List ℕ). length pages ≡ w) spare old.archive lists.spare lists.sets));
        count = let most = lists.count in omega arith;
      },
      sum,
    )
