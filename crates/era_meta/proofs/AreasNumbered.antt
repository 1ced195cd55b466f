-- Pages that are numbered one behind the other: of archived sets, and of a whole root.
use Rattle.std.proofs.Common.{◌≡◌, ℕ, zero, suc, ◌+◌, ◌*◌, ◌<◌, ◌≤◌, List, [], ◌∷◌, ◌++◌, length, get_or, take, drop, refl, sym, ap, ◌∙◌, arith, append_assoc, add-mul}
use Rattle.std.proofs.lemmas.List.{drop-drop, drop_more, length-drop, length-take-le}
use Rattle.std.proofs.Math.Seq.{take-add}
use Rattle.std.specs.List.{AllByRecursion}
use Rattle.era_layout.specs.declared.archive.Archived.{Archived}
use Rattle.era_layout.specs.Root.{archive_pages}
use Rattle.era_model.specs.Marks.{ArchivedSet}
use Rattle.era_meta.specs.Areas.{archived_from}
use Rattle.era_meta.specs.SaysMarks.{HasSets}

pub all_drop : {A : Type 0} (P : A → Type 0) (n : ℕ) (xs : List A) → AllByRecursion P xs → AllByRecursion P (drop n xs)
all_drop P zero xs all = all
all_drop P (suc n) [] all = all
all_drop P (suc n) (x ∷ xs) all = all_drop P n xs all.1

-- what is left behind an item
pub behind : {A : Type 0} (xs : List A) (n : ℕ) (y : A) (ys : List A) → drop n xs ≡ y ∷ ys → ys ≡ drop (n + 1) xs
behind xs n y ys is = sym (ap (drop 1) is) ∙ drop-drop 1 n xs

-- the first items, and one more
pub take-next : {A : Type 0} (xs : List A) (n : ℕ) (y : A) (ys : List A) → drop n xs ≡ y ∷ ys → take (n + 1) xs ≡ take n xs ++ y ∷ []
take-next xs n y ys is = take-add n 1 xs ∙ ap (λ (rest : List _). take n xs ++ take 1 rest) is

-- one more set was archived
pub archive-step : (archive : List Archived) (numbers : List ℕ) (width index : ℕ) (sets : List ArchivedSet) (all : List Archived) (set : ArchivedSet) (item : Archived)
    → index < length sets → set ≡ get_or sets index set → item.era ≡ set.era → item.pages ≡ take width numbers
    → archive ++ archived_from numbers width (drop index sets) ≡ all → (archive ++ item ∷ []) ++ archived_from (drop width numbers) width (drop (index + 1) sets) ≡ all
archive-step archive numbers width index sets all set item lt is era pages before =
    let rest : drop index sets ≡ set ∷ drop (index + 1) sets =
    drop_more sets index set lt ∙ ap (λ (first : ArchivedSet). first ∷ drop (index + 1) sets) (sym is) in
    let same : item ≡ record { era = set.era; pages = take width numbers } = rw (← era, ← pages) refl in
    append_assoc archive (item ∷ []) (archived_from (drop width numbers) width (drop (index + 1) sets))
    ∙ ap (λ (one : Archived). archive ++ one ∷ archived_from (drop width numbers) width (drop (index + 1) sets)) same
    ∙ ap (λ (left : List ArchivedSet). archive ++ archived_from numbers width left) (sym rest) ∙ before

-- the archived sets have the eras
pub eras-are : (numbers : List ℕ) (width : ℕ) (sets : List ArchivedSet) → HasSets sets (archived_from numbers width sets)
eras-are numbers width [] = tt
eras-are numbers width (set ∷ sets) = (refl, eras-are (drop width numbers) width sets)

-- their lists have the length
enough-left : (numbers : List ℕ) (width more : ℕ) → suc more * width ≤ length numbers → (width ≤ length numbers) × (more * width ≤ length (drop width numbers))
enough-left numbers width more enough =
    let split = add-mul 1 more width in let e : suc more ≡ 1 + more = omega arith in
    let all : (1 + more) * width ≤ length numbers = rw e at enough in
    let size = length-drop width numbers in
    (omega arith, omega arith)

pub widths-are : (numbers : List ℕ) (width : ℕ) (sets : List ArchivedSet) → length sets * width ≤ length numbers → AllByRecursion (λ set. length set.pages ≡ width) (archived_from numbers width sets)
widths-are numbers width [] enough = tt
widths-are numbers width (set ∷ sets) enough =
    let left = enough-left numbers width (length sets) enough in
    (length-take-le width numbers left.0, widths-are (drop width numbers) width sets left.1)

pub length-archived : (numbers : List ℕ) (width : ℕ) (sets : List ArchivedSet) → length (archived_from numbers width sets) ≡ length sets
length-archived numbers width [] = refl
length-archived numbers width (set ∷ sets) = ap suc (length-archived (drop width numbers) width sets)

-- their pages are numbered one behind the other
pub archive-numbers : (numbers : List ℕ) (width : ℕ) (sets : List ArchivedSet) → archive_pages (archived_from numbers width sets) ≡ take (length sets * width) numbers
archive-numbers numbers width [] = ap (λ (n : ℕ). take n numbers) (let e : 0 ≡ 0 * width = omega arith in e)
archive-numbers numbers width (set ∷ sets) =
    let size : width + length sets * width ≡ suc (length sets) * width = let more = add-mul 1 (length sets) width in let e : suc (length sets) ≡ 1 + length sets = omega arith in rw e (omega arith) in
    ap (λ (pages : List ℕ). take width numbers ++ pages) (archive-numbers (drop width numbers) width sets)
    ∙ sym (take-add width (length sets * width) numbers) ∙ ap (λ (n : ℕ). take n numbers) size
