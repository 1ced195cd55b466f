-- Predicates on all items of lists, and lists of consecutive numbers.
use Rattle.std.proofs.Common.{◌≡◌, ℕ, zero, suc, ◌+◌, ◌<◌, ◌≤◌, List, [], ◌∷◌, ◌++◌, length, take, refl, ap, ◌∙◌, arith}
use Rattle.std.specs.Prelude.{All, slice_index}
use Rattle.std.specs.List.{AllByRecursion}
use Rattle.std.proofs.lemmas.List.Elements.{All-from_recursion, recursion_from_All}
use Rattle.era_layout.specs.declared.archive.Archived.{Archived}
use Rattle.era_layout.specs.Root.{RootFields, numbers_from, archive_pages, pages_of, AreDifferent}
use Rattle.era_meta.proofs.SaysMarksTables.{length-tabulate, get_or-tabulate}

pub all_front : {A : Type 0} (P : A → Type 0) (xs ys : List A) → AllByRecursion P (xs ++ ys) → AllByRecursion P xs
all_front P [] ys all = tt
all_front P (x ∷ xs) ys all = (all.0, all_front P xs ys all.1)

pub all_back : {A : Type 0} (P : A → Type 0) (xs ys : List A) → AllByRecursion P (xs ++ ys) → AllByRecursion P ys
all_back P [] ys all = all
all_back P (x ∷ xs) ys all = all_back P xs ys all.1

pub all_both : {A : Type 0} (P : A → Type 0) (xs ys : List A) → AllByRecursion P xs → AllByRecursion P ys → AllByRecursion P (xs ++ ys)
all_both P [] ys one two = two
all_both P (x ∷ xs) ys one two = (one.0, all_both P xs ys one.1 two)

pub all_weaker : {A : Type 0} (P Q : A → Type 0) (xs : List A) → ((x : A) → P x → Q x) → AllByRecursion P xs → AllByRecursion Q xs
all_weaker P Q [] more all = tt
all_weaker P Q (x ∷ xs) more all = (more x all.0, all_weaker P Q xs more all.1)

-- of all pages of sets, set by set
pub all_of_sets : (P : ℕ → Type 0) (sets : List Archived) → AllByRecursion (λ set. AllByRecursion P set.pages) sets → AllByRecursion P (archive_pages sets)
all_of_sets P [] all = tt
all_of_sets P (set ∷ sets) all = all_both P set.pages (archive_pages sets) all.0 (all_of_sets P sets all.1)

pub all_in_sets : (P : ℕ → Type 0) (sets : List Archived) → AllByRecursion P (archive_pages sets) → AllByRecursion (λ set. AllByRecursion P set.pages) sets
all_in_sets P [] all = tt
all_in_sets P (set ∷ sets) all = (all_front P set.pages (archive_pages sets) all, all_in_sets P sets (all_back P set.pages (archive_pages sets) all))

-- all pages of a root, from those of its three parts
pub all_of_root : (P : ℕ → Type 0) (root : RootFields) → All P root.array → All P root.current → All (λ set. All P set.pages) root.archive → AllByRecursion P (pages_of root)
all_of_root P root array current archive =
    all_both P (root.array ++ root.current) (archive_pages root.archive)
    (all_both P root.array root.current (recursion_from_All P root.array array) (recursion_from_All P root.current current))
    (all_of_sets P root.archive (all_weaker (λ (set : Archived). All P set.pages) (λ set. AllByRecursion P set.pages) root.archive
    (λ set all. recursion_from_All P set.pages all) (recursion_from_All (λ (set : Archived). All P set.pages) root.archive archive)))

pub array_of_root : (P : ℕ → Type 0) (root : RootFields) → AllByRecursion P (pages_of root) → All P root.array
array_of_root P root all =
    All-from_recursion P root.array (all_front P root.array root.current (all_front P (root.array ++ root.current) (archive_pages root.archive) all))

pub current_of_root : (P : ℕ → Type 0) (root : RootFields) → AllByRecursion P (pages_of root) → All P root.current
current_of_root P root all =
    All-from_recursion P root.current (all_back P root.array root.current (all_front P (root.array ++ root.current) (archive_pages root.archive) all))

pub archive_of_root : (P : ℕ → Type 0) (root : RootFields) → AllByRecursion P (pages_of root) → All (λ set. All P set.pages) root.archive
archive_of_root P root all =
    All-from_recursion (λ (set : Archived). All P set.pages) root.archive
    (all_weaker (λ (set : Archived). AllByRecursion P set.pages) (λ set. All P set.pages) root.archive (λ set own. All-from_recursion P set.pages own)
    (all_in_sets P root.archive (all_back P (root.array ++ root.current) (archive_pages root.archive) all)))

-- consecutive numbers, and as many others behind them, are consecutive
pub numbers-join : (first count more : ℕ) → numbers_from first count ++ numbers_from (first + count) more ≡ numbers_from first (count + more)
numbers-join first zero more = ap (λ (n : ℕ). numbers_from n more) (let e : first + 0 ≡ first = omega arith in e) ∙ ap (numbers_from first) (let e : more ≡ zero + more = omega arith in e)
numbers-join first (suc count) more =
    let next : first + suc count ≡ first + 1 + count = omega arith in
    let size : suc count + more ≡ suc (count + more) = omega arith in
    rw (size, next) (ap (λ (numbers : List ℕ). first ∷ numbers) (numbers-join (first + 1) count more))

pub length-numbers : (first count : ℕ) → length (numbers_from first count) ≡ count
length-numbers first count = length-tabulate first count (λ number. number)

pub number-at : (first count index : ℕ) → index < count → slice_index (numbers_from first count) index ≡ first + index
number-at first count index lt = get_or-tabulate first count (λ number. number) index 0 lt

-- what holds of each of the numbers holds of all
pub all-numbers : (P : ℕ → Type 0) (first count : ℕ) → ((number : ℕ) → first ≤ number → number < first + count → P number) → AllByRecursion P (numbers_from first count)
all-numbers P first zero each = tt
all-numbers P first (suc count) each = (each first (omega arith) (omega arith), all-numbers P (first + 1) count (λ number from below. each number (omega arith) (omega arith)))

-- consecutive numbers are different
pub numbers-different : (first count : ℕ) → AreDifferent (numbers_from first count)
numbers-different first count = λ one two before within same.
    let size = length-numbers first count in
    let two' : two < count = omega arith in
    let one' : one < count = omega arith in
    let is = number-at first count one one' in let is' = number-at first count two two' in
    omega (arith, same, is, is')

-- the first of consecutive numbers
pub first-of : (first count size : ℕ) → count ≤ size → take count (numbers_from first size) ≡ numbers_from first count
first-of first zero size le = refl
first-of first (suc count) zero le = absurd (omega arith)
first-of first (suc count) (suc size) le = ap (λ (numbers : List ℕ). first ∷ numbers) (first-of (first + 1) count size (omega arith))
