-- How many different numbers two lists have, one behind the other, and how many blocks roots use.
use Rattle.std.proofs.Common.{◌≡◌, ℕ, zero, suc, ◌+◌, ◌*◌, ◌<◌, ◌≤◌, ◌≢◌, Bool, true, false, not, inl, inr, List, [], ◌∷◌, ◌++◌, Option, Some, None, length, get_or, nat_eq, refl, ap, sym, ◌∙◌, arith}
use Rattle.std.specs.Prelude.{◌||◌, slice_index, if◌then◌else◌}
use Rattle.std.specs.List.{AllByRecursion}
use Rattle.std.specs.Option.{option_map}
use Rattle.std.proofs.lemmas.Bool.Decides.{eqb_tells}
use Rattle.std.proofs.lemmas.List.{length-append, length-map}
use Rattle.std.proofs.lemmas.List.Folds.{list_any-append}
use Rattle.std.proofs.lemmas.List.Sums.{count_by-le-length, sum_by-cons}
use Rattle.era_base.specs.Geometry.{array_pages_of, bit_pages_of}
use Rattle.era_layout.specs.declared.archive.Archived.{Archived}
use Rattle.era_layout.specs.Root.{RootFields, archive_pages, pages_of, IsValidRoot}
use Rattle.era_model.specs.Usage.{IsUsage, pages_of_marks}
use Rattle.era_meta.specs.Content.{blocks_of_root}
use Rattle.era_meta.specs.Meaning.{marks_on, IsWholeRoot}
use Rattle.era_meta.specs.Putting.{IsNone}
use Rattle.era_meta.specs.Usage.{count_apart, count_different, has_number, used_by}
use Rattle.era_meta.proofs.PutSets.{Distinct, distinct-from}

unequal : (a b : ℕ) → a ≢ b → nat_eq a b ≡ false
unequal a b differ = elim (eqb_tells a b) [ inl same ↦ absurd (differ same.1) | inr apart ↦ apart.0 ]

has-none : (numbers : List ℕ) (number : ℕ) → IsNone numbers number → has_number numbers number ≡ false
has-none [] number none = refl
has-none (other ∷ numbers) number none =
    let head : nat_eq other number ≡ false = unequal other number (λ same. none.0 (sym same)) in
    rw (head, has-none numbers number none.1) refl

not-one : (flag : Bool) → ◌≡◌ {A = ℕ} (if not flag then 1 else 0) (if flag then 0 else 1)
not-one true = refl
not-one false = refl

apart-cons : (others : List ℕ) (number : ℕ) (numbers : List ℕ)
    → count_apart others (number ∷ numbers) ≡ (if has_number others number then 0 else 1) + count_apart others numbers
apart-cons others number numbers =
    sum_by-cons (λ n. if not (has_number others n) then 1 else 0) number numbers
    ∙ ap (λ (one : ℕ). one + count_apart others numbers)
    (not-one (has_number others number))

-- numbers of which none stands twice count as far as the others don't have them
pub different-split : (numbers others : List ℕ) → Distinct numbers → count_different (numbers ++ others) ≡ count_apart others numbers + count_different others
different-split [] others distinct = omega arith
different-split (number ∷ numbers) others distinct =
    let rest = different-split numbers others distinct.1 in
    let test : has_number (numbers ++ others) number ≡ has_number others number
    = list_any-append (λ other. nat_eq other number) numbers others ∙ ap (λ flag. flag || has_number others number) (has-none numbers number distinct.0) in
    let more = apart-cons others number numbers in
    rw (test, rest) (omega (arith, more))

-- numbers of which none stands twice all count
pub different-all : (numbers : List ℕ) → Distinct numbers → count_different numbers ≡ length numbers
different-all [] distinct = refl
different-all (number ∷ numbers) distinct = let rest = different-all numbers distinct.1 in rw (has-none numbers number distinct.0) (omega (arith, rest))

-- block 2 is no page
two-none : (pages : List ℕ) → ((index : ℕ) → index < length pages → 3 ≤ slice_index pages index) → IsNone pages 2
two-none [] range = tt
two-none (page ∷ pages) range = (
  (λ same. let least = range 0 (omega arith) in omega arith),
  two-none pages (λ index lt. range (suc index) (omega arith)),
)

no-two : (root : RootFields) → IsValidRoot root → has_number (pages_of root) 2 ≡ false
no-two root valid = has-none (pages_of root) 2 (two-none (pages_of root) (λ index lt. (valid.range index lt).0))

-- without a held root all pages count
pub used-alone : (root : RootFields) → IsValidRoot root → used_by root None ≡ 2 + length (pages_of root)
used-alone root valid = ap (λ (n : ℕ). 2 + n) (different-all (pages_of root) (distinct-from (pages_of root) valid.different))

-- with one, its block and those of its pages that the root doesn't have count too
pub used-both : (root held : RootFields) → IsValidRoot root → IsValidRoot held
    → used_by root (Some held) ≡ 2 + (1 + (count_apart (pages_of root) (pages_of held) + length (pages_of root)))
used-both root held valid valid' =
    let own = pages_of root in let others = pages_of held in
    let none : has_number (others ++ own) 2 ≡ false
    = list_any-append (λ other. nat_eq other 2) others own ∙ ap (λ flag. flag || has_number own 2) (no-two held valid') ∙ no-two root valid in
    let split = different-split others own (distinct-from others valid'.different) in
    let all = different-all own (distinct-from own valid.different) in
    rw (none, split, all) refl

-- how many pages archived sets have
pub length-archive : (width : ℕ) (sets : List Archived) → AllByRecursion (λ set. length set.pages ≡ width) sets → length (archive_pages sets) ≡ width * length sets
length-archive width [] sizes = omega arith
length-archive width (set ∷ sets) sizes =
    let rest = length-archive width sets sizes.1 in let size = sizes.0 in
    let more : width * suc (length sets) ≡ width + width * length sets = grind arith in
    length-append set.pages (archive_pages sets) ∙ omega (arith, rest, size, more)

-- how many pages a valid root has
pub length-pages : (root : RootFields) → IsValidRoot root
    → length (pages_of root) ≡ array_pages_of (blocks_of_root root) + bit_pages_of (blocks_of_root root) * (1 + length root.archive)
length-pages root valid =
    let a = array_pages_of (blocks_of_root root) in let w = bit_pages_of (blocks_of_root root) in
    let archive = length-archive w root.archive valid.sets in
    let array = valid.array in let current = valid.current in
    let more : w * (1 + length root.archive) ≡ w + w * length root.archive = grind arith in
    length-append (root.array ++ root.current) (archive_pages root.archive) ∙ omega (arith, length-append root.array root.current, archive, array, current, more)

-- and that is what its marks say
pub count-of-marks : (page : ℕ → List ℕ) (root : RootFields) → IsValidRoot root → length (pages_of root) ≡ pages_of_marks (marks_on page root)
count-of-marks page root valid =
    let sets : length (marks_on page root).archive ≡ length root.archive = simp length-map in
    length-pages root valid ∙ ap (λ (n : ℕ). array_pages_of (blocks_of_root root) + bit_pages_of (blocks_of_root root) * (1 + n)) (sym sets)

-- the count of used blocks is a usage of the marks, as a status tells it
pub usage-is : (page : ℕ → List ℕ) (root : RootFields) (held : Option RootFields) → IsWholeRoot page root held
    → IsUsage (marks_on page root) (option_map (marks_on page) held) (used_by root held)
usage-is page root None whole = used-alone root whole.valid ∙ ap (λ (n : ℕ). 2 + n) (count-of-marks page root whole.valid)
usage-is page root (Some held) whole =
    let used = used-both root held whole.valid whole.snapshot.valid in
    let own = count-of-marks page root whole.valid in
    let others = count-of-marks page held whole.snapshot.valid in
    let most = count_by-le-length (λ number. not (has_number (pages_of root) number)) (pages_of held) in
    (omega arith, omega arith)

or-true : (flag : Bool) → (flag || true) ≡ true
or-true true = refl
or-true false = refl

-- a page of one of the sets is one of theirs
pub has-at : (sets : List Archived) (i : ℕ) (d : Archived) (block : ℕ) → i < length sets → has_number (get_or sets i d).pages block ≡ true
    → has_number (archive_pages sets) block ≡ true
has-at [] i d block lt has = absurd (omega arith)
has-at (set ∷ sets) zero d block lt has =
    list_any-append (λ other. nat_eq other block) set.pages (archive_pages sets) ∙ ap (λ flag. flag || has_number (archive_pages sets) block) has
has-at (set ∷ sets) (suc i) d block lt has =
    list_any-append (λ other. nat_eq other block) set.pages (archive_pages sets)
    ∙ ap (λ flag. has_number set.pages block || flag) (has-at sets i d block (omega arith) has) ∙ or-true (has_number set.pages block)
