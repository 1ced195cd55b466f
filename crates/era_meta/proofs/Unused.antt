-- Metadata blocks that aren't in use: which they are, how many, and that they are places for pages.
use Rattle.std.proofs.Common.{◌≡◌, ◌≢◌, ℕ, zero, suc, ◌+◌, ◌-◌, ◌*◌, ◌<◌, ◌≤◌, Bool, true, false, inl, inr, List, [], ◌∷◌, ◌++◌, Option, Some, None, length, refl, ap, ◌∙◌, arith}
use Rattle.std.specs.Prelude.{if◌then◌else◌}
use Rattle.std.specs.List.{AllByRecursion, filter}
use Rattle.std.specs.List.Sorted.{IsStrictlyIncreasing}
use Rattle.std.proofs.lemmas.Bool.{cases_lt, false≢true}
use Rattle.std.proofs.lemmas.Bool.Decides.{eqb_tells}
use Rattle.std.proofs.lemmas.List.{length-append}
use Rattle.std.proofs.lemmas.List.Elements.{All-filter, All-from_recursion, recursion_from_All, filter_passes}
use Rattle.std.proofs.lemmas.List.Kept.{AllPairs-filter, AllPairs-from_increasing}
use Rattle.era_base.specs.Geometry.{need_of, root_pages_of}
use Rattle.era_layout.specs.Root.{RootFields, numbers_from, pages_of, AreDifferent}
use Rattle.era_meta.specs.Areas.{IsOutside, is_unused, free_between, ArePlaces, HaveFewPages}
use Rattle.era_meta.specs.Meaning.{reached}
use Rattle.era_meta.specs.Putting.{IsNone}
use Rattle.era_meta.proofs.AreasLists.{all-numbers, length-numbers, number-at}

-- one block in use more
unused-both : (other block : ℕ) (used : List ℕ) → is_unused (other ∷ used) block ≡ true → (other ≢ block) × (is_unused used block ≡ true)
unused-both other block used is = elim (eqb_tells other block) [
  | inl same ↦ absurd (false≢true (rw same.0 at is))
  | inr differ ↦ (differ.1, rw differ.0 at is)
]

unused-more : (other block : ℕ) (used : List ℕ) → other ≢ block → is_unused used block ≡ true → is_unused (other ∷ used) block ≡ true
unused-more other block used differ is = elim (eqb_tells other block) [
  | inl same ↦ absurd (differ same.1)
  | inr other_one ↦ rw other_one.0 is
]

-- blocks that are outside of so many leave these unused
apart : (first count block other : ℕ) → first ≤ block → block < first + count → IsOutside first count other → other ≢ block
apart first count block other from below (inl before) same = omega arith
apart first count block other from below (inr behind) same = omega arith

pub outside-unused : (first count block : ℕ) (used : List ℕ) → first ≤ block → block < first + count → AllByRecursion (IsOutside first count) used → is_unused used block ≡ true
outside-unused first count block [] from below all = refl
outside-unused first count block (other ∷ used) from below all =
    unused-more other block used (apart first count block other from below all.0) (outside-unused first count block used from below all.1)

pub unused-outside : (block : ℕ) (used : List ℕ) → is_unused used block ≡ true → AllByRecursion (IsOutside block 1) used
unused-outside block [] is = tt
unused-outside block (other ∷ used) is =
    let both = unused-both other block used is in (
      elim (cases_lt other block) [
        | inl less ↦ inl less
        | inr most ↦ inr (let differ = both.0 in elim (cases_lt block other) [
          | inl more ↦ omega arith
          | inr same ↦ absurd (differ (omega arith))
        ])
      ],
      unused-outside block used both.1,
    )

-- blocks that are unused are none of those in use
firsts : (puts : List ℕ) (other : ℕ) (used : List ℕ) → AllByRecursion (λ put. is_unused (other ∷ used) put ≡ true) puts → IsNone puts other
firsts [] other used all = tt
firsts (put ∷ puts) other used all = ((unused-both other put used all.0).0, firsts puts other used all.1)

others : (puts : List ℕ) (other : ℕ) (used : List ℕ) → AllByRecursion (λ put. is_unused (other ∷ used) put ≡ true) puts → AllByRecursion (λ put. is_unused used put ≡ true) puts
others [] other used all = tt
others (put ∷ puts) other used all = ((unused-both other put used all.0).1, others puts other used all.1)

pub unused-apart : (puts used : List ℕ) → AllByRecursion (λ put. is_unused used put ≡ true) puts → AllByRecursion (IsNone puts) used
unused-apart puts [] all = tt
unused-apart puts (other ∷ used) all = (firsts puts other used all, unused-apart puts used (others puts other used all))

-- the unused blocks from one on: that one first, where it is unused
from-first : (used : List ℕ) (from end : ℕ) → from < end
    → free_between used from end ≡ (if is_unused used from then from ∷ free_between used (from + 1) end else free_between used (from + 1) end)
from-first used from end below =
    ap (λ (n : ℕ). filter (is_unused used) (numbers_from from n)) (let e : end - from ≡ suc (end - (from + 1)) = omega arith in e)

pub free-skip : (used : List ℕ) (from end : ℕ) → from < end → is_unused used from ≡ false → free_between used from end ≡ free_between used (from + 1) end
free-skip used from end below in_use = from-first used from end below ∙ rw in_use refl

pub free-take : (used : List ℕ) (from end : ℕ) → from < end → is_unused used from ≡ true → free_between used from end ≡ from ∷ free_between used (from + 1) end
free-take used from end below unused = from-first used from end below ∙ rw unused refl

pub free-none : (used : List ℕ) (from end : ℕ) → end ≤ from → free_between used from end ≡ []
free-none used from end past = ap (λ (n : ℕ). filter (is_unused used) (numbers_from from n)) (let e : end - from ≡ 0 = omega arith in e)

-- where all are unused
pub free-all : (used : List ℕ) (from count : ℕ) → ((block : ℕ) → from ≤ block → block < from + count → is_unused used block ≡ true)
    → filter (is_unused used) (numbers_from from count) ≡ numbers_from from count
free-all used from zero each = refl
free-all used from (suc count) each =
    rw (each from (omega arith) (omega arith)) (ap (λ (blocks : List ℕ). from ∷ blocks) (free-all used (from + 1) count (λ block low high. each block (omega arith) (omega arith))))

-- a block in use more takes one of the unused ones at most
either : (b : Bool) (x y n : ℕ) (xs ys : List ℕ) → length xs ≤ length ys + n → length (if b then x ∷ xs else xs) ≤ length (if b then y ∷ ys else ys) + n
either true x y n xs ys le = omega (arith, le)
either false x y n xs ys le = le

lost : (b : Bool) (x n : ℕ) (xs : List ℕ) → length xs ≤ n → length (if b then x ∷ xs else xs) ≤ n + 1
lost true x n xs le = omega (arith, le)
lost false x n xs le = omega (arith, le)

behind : (other : ℕ) (used : List ℕ) (from count : ℕ) → other < from
    → length (filter (is_unused used) (numbers_from from count)) ≤ length (filter (is_unused (other ∷ used)) (numbers_from from count)) + 0
behind other used from zero less = omega arith
behind other used from (suc count) less = elim (eqb_tells other from) [
  | inl same ↦ absurd (let e = same.1 in omega arith)
  | inr differ ↦ rw differ.0 (either (is_unused used from) from from 0 _ _ (behind other used (from + 1) count (omega arith)))
]

one-less : (other : ℕ) (used : List ℕ) (from count : ℕ)
    → length (filter (is_unused used) (numbers_from from count)) ≤ length (filter (is_unused (other ∷ used)) (numbers_from from count)) + 1
one-less other used from zero = omega arith
one-less other used from (suc count) = elim (eqb_tells other from) [
  | inl same ↦ rw same.0 (lost (is_unused used from) from _ _ (let rest = behind other used (from + 1) count (let e = same.1 in omega arith) in omega (arith, rest)))
  | inr differ ↦ rw differ.0 (either (is_unused used from) from from 1 _ _ (one-less other used (from + 1) count))
]

count-free : (used : List ℕ) (from count : ℕ) → count ≤ length (filter (is_unused used) (numbers_from from count)) + length used
count-free [] from count = let all = ap length (free-all [] from count (λ block low high. refl)) in let size = length-numbers from count in omega (arith, all, size)
count-free (other ∷ used) from count = omega (arith, count-free used from count, one-less other used from count)

-- so two roots leave the pages of a third one
second-used : (xs ys : List ℕ) → is_unused (xs ++ 2 ∷ ys) 2 ≡ false
second-used [] ys = refl
second-used (x ∷ xs) ys = elim (eqb_tells x 2) [
  | inl same ↦ rw same.0 refl
  | inr differ ↦ rw differ.0 (second-used xs ys)
]

pub enough-free : (blocks : ℕ) (root : RootFields) (held : Option RootFields) → HaveFewPages blocks root held
    → root_pages_of blocks ≤ length (free_between (reached root held) 3 (need_of blocks))
enough-free blocks root None few =
    let size = root_pages_of blocks in
    let all = count-free (pages_of root) 3 (3 + 3 * size - 3) in
    omega (arith, all, few)
enough-free blocks root (Some held) few =
    let size = root_pages_of blocks in
    let used = pages_of root ++ 2 ∷ pages_of held in
    let all : 3 + 3 * size - 2 ≤ length (free_between used 2 (3 + 3 * size)) + length used = count-free used 2 (3 + 3 * size - 2) in
    let skip = ap length (free-skip used 2 (3 + 3 * size) (omega arith) (second-used (pages_of root) (pages_of held))) in
    let count = length-append (pages_of root) (2 ∷ pages_of held) in
    omega (arith, all, skip, count, few.0, few.1)

-- they are places for pages
all_filter : (P : ℕ → Type 0) (test : ℕ → Bool) (xs : List ℕ) → AllByRecursion P xs → AllByRecursion P (filter test xs)
all_filter P test xs all = recursion_from_All P (filter test xs) (All-filter test P xs (All-from_recursion P xs all))

numbers-increase : (from count : ℕ) → IsStrictlyIncreasing (numbers_from from count)
numbers-increase from count = λ index lt.
    let size = length-numbers from count in
    let one = number-at from count index (omega (arith, lt, size)) in let two = number-at from count (index + 1) (omega (arith, lt, size)) in
    omega (arith, one, two)

free-different : (used : List ℕ) (from count : ℕ) → AreDifferent (filter (is_unused used) (numbers_from from count))
free-different used from count = λ first second before within same.
    let less = AllPairs-filter (λ (x y : ℕ). x < y) (is_unused used) (numbers_from from count) (AllPairs-from_increasing (numbers_from from count) (numbers-increase from count))
    first second 0 before within in
    omega (arith, less, same)

pub free-places : (blocks : ℕ) (used : List ℕ) (from end : ℕ) → 3 ≤ from → end ≤ need_of blocks → ArePlaces blocks used (free_between used from end)
free-places blocks used from end behind most = record {
  range = all_filter (λ block. (3 ≤ block) × (block < need_of blocks)) (is_unused used) (numbers_from from (end - from))
      (all-numbers (λ block. (3 ≤ block) × (block < need_of blocks)) from (end - from) (λ block low high. (omega (arith, behind, low), omega (arith, most, low, high))));
  unused = recursion_from_All (λ block. is_unused used block ≡ true) (free_between used from end) (filter_passes (is_unused used) (numbers_from from (end - from)));
  different = free-different used from (end - from);
}
