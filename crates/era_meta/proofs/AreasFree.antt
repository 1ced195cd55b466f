-- When a page area is free, and that one of three is.
use Rattle.std.proofs.Common.{◌≡◌, ◌≢◌, ℕ, ◌+◌, ◌-◌, ◌*◌, ◌<◌, ◌≤◌, inl, inr, List, ◌∷◌, Option, Some, None, length, sym, ap, ◌∙◌, subst, arith, add-mul}
use Rattle.std.specs.List.{AllByRecursion, filter}
use Rattle.std.proofs.lemmas.Bool.{cases_eq, cases_lt}
use Rattle.std.proofs.lemmas.Nat.{mul-le}
use Rattle.era_base.specs.Geometry.{need_of, root_pages_of}
use Rattle.era_layout.specs.Root.{RootFields, numbers_from, pages_of}
use Rattle.era_meta.specs.Areas.{area_start, free_between, is_unused, AreNextBlocks, ArePlaces, HaveFewPages, IsOutside, IsFreeArea, IsLeastFreeArea, HasFreeArea, IsInArea, LieInAreas}
use Rattle.era_meta.specs.Content.{blocks_of_root}
use Rattle.era_meta.specs.Meaning.{reached}
use Rattle.era_meta.proofs.AreasLists.{all_front, all_back, all_both, all_weaker, length-numbers}
use Rattle.era_meta.proofs.Unused.{enough-free, free-all, free-places, outside-unused}

-- what holds of all blocks that are reached holds of the root's own pages
pub all_own : (P : ℕ → Type 0) (root : RootFields) (held : Option RootFields) → AllByRecursion P (reached root held) → AllByRecursion P (pages_of root)
all_own P root None all = all
all_own P root (Some held) all = all_front P (pages_of root) (2 ∷ pages_of held) all

-- and of those of the held root
pub all_held : (P : ℕ → Type 0) (root held : RootFields) → AllByRecursion P (reached root (Some held)) → AllByRecursion P (pages_of held)
all_held P root held all = (all_back P (pages_of root) (2 ∷ pages_of held) all).1

pub all_reached : (P : ℕ → Type 0) (root held : RootFields) → AllByRecursion P (pages_of root) → P 2 → AllByRecursion P (pages_of held) → AllByRecursion P (reached root (Some held))
all_reached P root held own two others = all_both P (pages_of root) (2 ∷ pages_of held) own (two, others)

-- the least free area is one alone
pub one-least : (blocks : ℕ) (used : List ℕ) (one two : ℕ) → IsLeastFreeArea blocks used one → IsLeastFreeArea blocks used two → one ≡ two
one-least blocks used one two first second = elim (cases_lt one two) [
  | inl less ↦ absurd (second.least one less first.free)
  | inr most ↦ elim (cases_lt two one) [
    | inl more ↦ absurd (first.least two more second.free)
    | inr same ↦ omega arith
  ]
]

-- the blocks of the least free area, as those that aren't in use
pub area-next : (blocks from end area : ℕ) (used : List ℕ) → IsLeastFreeArea blocks used area → from ≡ area_start blocks area → end ≡ from + root_pages_of blocks
    → AreNextBlocks blocks used (free_between used from end) × (length (free_between used from end) ≡ root_pages_of blocks)
area-next blocks from end area used least starts ends =
    let size = root_pages_of blocks in let first = area_start blocks area in
    let is : free_between used from end ≡ numbers_from first size
    = ap (λ (n : ℕ). filter (is_unused used) (numbers_from from n)) (let e : end - from ≡ size = omega arith in e)
    ∙ ap (λ (n : ℕ). filter (is_unused used) (numbers_from n size)) starts
    ∙ free-all used first size (λ block low high. outside-unused first size block used low high least.free) in (
      record {
        area = λ other also. is ∙ ap (λ (n : ℕ). numbers_from (area_start blocks n) size) (one-least blocks used area other least also);
        scattered = λ none. absurd (none (area, least.three, least.free));
      },
      ap length is ∙ length-numbers first size,
    )

-- and where no area is free
pub scattered-next : (blocks end : ℕ) (used : List ℕ) → (¬ HasFreeArea blocks used) → end ≡ need_of blocks → AreNextBlocks blocks used (free_between used 3 end)
scattered-next blocks end used none ends = record {
  area = λ other also. absurd (none (other, also.three, also.free));
  scattered = λ no. ap (λ (n : ℕ). free_between used 3 n) ends;
}

-- an area lies where the pages of an image do
pub area-range : (blocks from end area : ℕ) → area < 3 → from ≡ area_start blocks area → end ≡ from + root_pages_of blocks → (3 ≤ from) × (end ≤ need_of blocks)
area-range blocks from end area three starts ends =
    let size = root_pages_of blocks in
    let more : area + 1 ≤ 3 = omega arith in
    let below : (area + 1) * size ≤ 3 * size = mul-le (area + 1) size 3 size more (let e : size ≤ size = omega arith in e) in
    let split = add-mul area 1 size in
    (omega arith, omega arith)

-- the blocks from one up to another serve as the next ones
pub record AreNext (blocks : ℕ) (used : List ℕ) (from end : ℕ) : Type 0 where
  pub next : AreNextBlocks blocks used (free_between used from end)
  pub enough : root_pages_of blocks ≤ length (free_between used from end)
  pub places : ArePlaces blocks used (free_between used from end)

pub area-serves : (blocks size area : ℕ) (used : List ℕ) (range : ℕ × ℕ) → size ≡ root_pages_of blocks → IsLeastFreeArea blocks used area
    → range ≡ (3 + area * size, 3 + area * size + size) → AreNext blocks used range.0 range.1
area-serves blocks size area used range is least are =
    let starts : range.0 ≡ area_start blocks area = ap (λ (pair : ℕ × ℕ). pair.0) are ∙ ap (λ (n : ℕ). 3 + area * n) is in
    let ends : range.1 ≡ range.0 + root_pages_of blocks
    = ap (λ (pair : ℕ × ℕ). pair.1) are ∙ ap (λ (n : ℕ). n + size) (sym (ap (λ (pair : ℕ × ℕ). pair.0) are)) ∙ ap (λ (n : ℕ). range.0 + n) is in
    let next = area-next blocks range.0 range.1 area used least starts ends in
    let within = area-range blocks range.0 range.1 area least.three starts ends in
    record { next = next.0; enough = omega (arith, next.1); places = free-places blocks used range.0 range.1 within.0 within.1 }

pub blocks-serve : (blocks size : ℕ) (root : RootFields) (held : Option RootFields) (range : ℕ × ℕ) → size ≡ root_pages_of blocks
    → (¬ HasFreeArea blocks (reached root held)) → HaveFewPages blocks root held → range ≡ (3, 3 + 3 * size) → AreNext blocks (reached root held) range.0 range.1
blocks-serve blocks size root held range is none few are =
    let used = reached root held in
    let starts : range.0 ≡ 3 = ap (λ (pair : ℕ × ℕ). pair.0) are in
    let ends : range.1 ≡ need_of blocks = ap (λ (pair : ℕ × ℕ). pair.1) are ∙ ap (λ (n : ℕ). 3 + 3 * n) is in
    let same : free_between used 3 (need_of blocks) ≡ free_between used range.0 range.1 = ap (λ (n : ℕ). free_between used 3 n) (sym ends) ∙ ap (λ (n : ℕ). free_between used n range.1) (sym starts) in
    record {
      next = subst (λ (n : ℕ). AreNextBlocks blocks used (free_between used n range.1)) (sym starts) (scattered-next blocks range.1 used none ends);
      enough = subst (λ (next : List ℕ). root_pages_of blocks ≤ length next) same (enough-free blocks root held few);
      places = free-places blocks used range.0 range.1 (omega (arith, starts)) (omega (arith, ends));
    }

-- a block in one area is outside of another one
in-other : (size one other block : ℕ) → one ≢ other → 3 + one * size ≤ block → block < 3 + one * size + size → IsOutside (3 + other * size) size block
in-other size one other block differ from below = elim (cases_lt one other) [
  | inl less ↦ inl (
      let more : one + 1 ≤ other = omega arith in
      omega (arith, mul-le (one + 1) size other size more (let e : size ≤ size = omega arith in e), add-mul one 1 size)
      )
  | inr most ↦ inr (
      let more : other + 1 ≤ one = omega arith in
      omega (arith, mul-le (other + 1) size one size more (let e : size ≤ size = omega arith in e), add-mul other 1 size)
      )
]

-- where blocks lie in one area, another one is free of them
apart-area : (blocks area other : ℕ) (pages : List ℕ) → area ≢ other → AllByRecursion (IsInArea blocks area) pages → IsFreeArea blocks pages other
apart-area blocks area other pages differ all =
    all_weaker (IsInArea blocks area) (IsOutside (area_start blocks other) (root_pages_of blocks)) pages (λ block lies. in-other (root_pages_of blocks) area other block differ lies.0 lies.1) all

-- one of three numbers is neither of two
third : (one two : ℕ) → (other : ℕ) × (other < 3) × (one ≢ other) × (two ≢ other)
third one two = elim (cases_eq one 0) [
  | inl zero ↦ elim (cases_eq two 1) [
    | inl same ↦ (2, omega arith, λ e. omega arith, λ e. omega arith)
    | inr differ ↦ (1, omega arith, λ e. omega arith, differ)
  ]
  | inr some ↦ elim (cases_eq two 0) [
    | inr other ↦ (0, omega arith, some, other)
    | inl zero ↦ elim (cases_eq one 1) [
      | inl same ↦ (2, omega arith, λ e. omega arith, λ e. omega arith)
      | inr differ ↦ (1, omega arith, differ, λ e. omega arith)
    ]
  ]
]

-- two roots leave one area free
pub leave-one : (root : RootFields) (held : Option RootFields) → LieInAreas root held → HasFreeArea (blocks_of_root root) (reached root held)
leave-one root None lie =
    let other = third lie.0 lie.0 in
    (other.0, other.1, apart-area (blocks_of_root root) lie.0 other.0 (pages_of root) other.2 lie.2)
leave-one root (Some held) lie =
    let blocks = blocks_of_root root in
    let one = lie.0 in let two = lie.1 in let other = third one.0 two.0 in (
      other.0,
      other.1,
      all_reached (IsOutside (area_start blocks other.0) (root_pages_of blocks)) root held
          (apart-area blocks one.0 other.0 (pages_of root) other.2 one.2) (inl (omega arith))
          (apart-area blocks two.0 other.0 (pages_of held) other.3 two.2),
    )
