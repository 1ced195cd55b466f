-- The next root lies in an area where the roots before it do.
use Rattle.std.proofs.Common.{◌≡◌, ℕ, ◌+◌, ◌<◌, ◌≤◌, ◌⊎◌, inl, inr, List, [], ◌∷◌, Option, length, take, sym, ap, ◌∙◌, subst, arith}
use Rattle.std.specs.List.{AllByRecursion}
use Rattle.std.proofs.lemmas.Bool.{cases_lt}
use Rattle.era_base.specs.Geometry.{blocks_of, root_pages_of}
use Rattle.era_base.specs.declared.limits.TheConstants.{MOST_SETS}
use Rattle.era_layout.specs.Root.{RootFields, numbers_from, pages_of}
use Rattle.era_meta.specs.Areas.{area_start, page_count, IsInArea, IsOutside, LieInAnArea, LieInAreas, HasFreeArea, IsFreeArea, IsLeastFreeArea}
use Rattle.era_meta.specs.Content.{blocks_of_root}
use Rattle.era_meta.specs.Meaning.{reached}
use Rattle.era_meta.specs.Placing.{IsPlaced}
use Rattle.era_meta.proofs.AreasFree.{leave-one}
use Rattle.era_meta.proofs.AreasLists.{all-numbers, first-of}
use Rattle.era_meta.proofs.AreasPrepared.{count-fits}

-- consecutive numbers lie in the area that they begin
numbers-lie : (blocks area count : ℕ) → area < 3 → count ≤ root_pages_of blocks → LieInAnArea blocks (numbers_from (area_start blocks area) count)
numbers-lie blocks area count three few =
    let within : (first size number : ℕ) → count ≤ size → number < first + count → number < first + size = λ first size number most below. omega arith in (
      area,
      three,
      all-numbers (IsInArea blocks area) (area_start blocks area) count
          (λ number from below. (from, within (area_start blocks area) (root_pages_of blocks) number few below)),
    )

-- and so do the first of the blocks of an area
lies-in : (blocks count area : ℕ) (pages next : List ℕ) → count ≤ root_pages_of blocks → area < 3 → next ≡ numbers_from (area_start blocks area) (root_pages_of blocks) → pages ≡ take count next
    → LieInAnArea blocks pages
lies-in blocks count area pages next few three is are =
    subst (LieInAnArea blocks) (sym (are ∙ ap (take count) is ∙ first-of (area_start blocks area) count (root_pages_of blocks) few)) (numbers-lie blocks area count three few)

-- the three areas, tried in their order
inside : (from count block : ℕ) → from ≤ block → block < from + count → IsOutside from count block → ⊥
inside from count block low high (inl before) = omega arith
inside from count block low high (inr past) = omega arith

at-none : (blocks : ℕ) (used : List ℕ) (other : ℕ) → other ≤ 0 → (¬ IsFreeArea blocks used 0) → ¬ IsFreeArea blocks used other
at-none blocks used other less none free = none (subst (IsFreeArea blocks used) (let e : other ≡ 0 = omega arith in e) free)

below-two : (blocks : ℕ) (used : List ℕ) (other : ℕ) → other < 2 → (¬ IsFreeArea blocks used 0) → (¬ IsFreeArea blocks used 1) → ¬ IsFreeArea blocks used other
below-two blocks used other less zero_used one_used free = elim (cases_lt other 1) [
  | inl first ↦ zero_used (subst (IsFreeArea blocks used) (let e : other ≡ 0 = omega arith in e) free)
  | inr second ↦ one_used (subst (IsFreeArea blocks used) (let e : other ≡ 1 = omega arith in e) free)
]

at-two : (blocks : ℕ) (used : List ℕ) (area : ℕ) → area < 3 → IsFreeArea blocks used area → (¬ IsFreeArea blocks used 0) → (¬ IsFreeArea blocks used 1) → IsFreeArea blocks used 2
at-two blocks used area three free zero_used one_used = elim (cases_lt area 2) [
  | inl below ↦ absurd (below-two blocks used area below zero_used one_used free)
  | inr last ↦ subst (IsFreeArea blocks used) (let e : area ≡ 2 = omega arith in e) free
]

-- where some area is free, one is the least that is
outside-or : (from count block : ℕ) → IsOutside from count block ⊎ (¬ IsOutside from count block)
outside-or from count block = elim (cases_lt block from) [
  | inl less ↦ inl (inl less)
  | inr most ↦ elim (cases_lt block (from + count)) [
    | inl within ↦ inr (λ out. inside from count block most within out)
    | inr past ↦ inl (inr past)
  ]
]

free-or : (from count : ℕ) (used : List ℕ) → AllByRecursion (IsOutside from count) used ⊎ (¬ AllByRecursion (IsOutside from count) used)
free-or from count [] = inl tt
free-or from count (block ∷ used) = elim (outside-or from count block) [
  | inr lies ↦ inr (λ all. lies all.0)
  | inl out ↦ elim (free-or from count used) [
    | inl rest ↦ inl (out, rest)
    | inr none ↦ inr (λ all. none all.1)
  ]
]

least-of : (blocks : ℕ) (used : List ℕ) → HasFreeArea blocks used → (area : ℕ) × IsLeastFreeArea blocks used area
least-of blocks used has = elim (free-or (area_start blocks 0) (root_pages_of blocks) used) [
  | inl zero_free ↦ (0, record { three = omega arith; free = zero_free; least = λ other less. absurd (omega (arith, less)) })
  | inr zero_used ↦ elim (free-or (area_start blocks 1) (root_pages_of blocks) used) [
    | inl one_free ↦ (1, record { three = omega arith; free = one_free; least = λ other less. at-none blocks used other (omega (arith, less)) zero_used })
    | inr one_used ↦ (
      2,
      record {
        three = omega arith;
        free = at-two blocks used has.0 has.1 has.2 zero_used one_used;
        least = λ other less. below-two blocks used other less zero_used one_used;
      },
    )
  ]
]

pub next-lies : (root next : RootFields) (held : Option RootFields) → LieInAreas root held → IsPlaced root next held → length next.archive ≤ MOST_SETS
    → LieInAnArea (blocks_of_root next) (pages_of next)
next-lies root next held lie placed few =
    let blocks = blocks_of_root root in
    let least = least-of blocks (reached root held) (leave-one root held lie) in
    let same : blocks_of_root root ≡ blocks_of_root next = sym (ap (λ (n : ℕ). blocks_of n next.block_sectors) placed.fresh.sectors ∙ ap (blocks_of root.sectors) placed.fresh.block_sectors) in
    let taken = placed.blocks in
    subst (λ (n : ℕ). LieInAnArea n (pages_of next)) same
    (lies-in blocks (page_count blocks (length next.archive)) least.0 (pages_of next) taken.0 (count-fits blocks (length next.archive) few) least.1.three
    (taken.1.area least.0 least.1) taken.2)
