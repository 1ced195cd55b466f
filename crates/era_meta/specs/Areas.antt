-- Where the pages of a root stand while each commit writes them all: three page areas, or single blocks where no area is free; and the numbers that pages get there.
use Rattle.std.specs.Prelude.{◌≡◌, ℕ, ◌+◌, ◌-◌, ◌*◌, ◌<◌, ◌≤◌, ◌⊎◌, Bool, true, false, List, [], ◌∷◌, length, take, drop, eqb, Option, Some, None, if◌then◌else◌}
use Rattle.std.specs.List.{AllByRecursion, filter}
use Rattle.std.specs.Option.{option_map}
use Rattle.era_base.specs.Geometry.{array_pages_of, bit_pages_of, need_of, root_pages_of}
use Rattle.era_base.specs.declared.limits.TheConstants.{MOST_SETS}
use Rattle.era_layout.specs.declared.archive.Archived.{Archived}
use Rattle.era_layout.specs.declared.root.Root.{Root}
use Rattle.era_layout.specs.Root.{RootFields, fields_of, numbers_from, pages_of, AreDifferent}
use Rattle.era_model.specs.Marks.{ArchivedSet}
use Rattle.era_meta.specs.Content.{blocks_of_root}

-- The first metadata block of a page area, counted from 0. The areas follow the slots and the held root's block, and each has as many blocks as one root may reach.
abbrev pub area_start : ℕ → ℕ → ℕ
area_start blocks area = 3 + area * root_pages_of blocks

-- A metadata block is outside of so many blocks from a first one on.
abbrev pub IsOutside : ℕ → ℕ → ℕ → Type 0
IsOutside first count block = (block < first) ⊎ (first + count ≤ block)

-- A page area is free: none of the blocks that are in use lies in it.
abbrev pub IsFreeArea : ℕ → List ℕ → ℕ → Type 0
IsFreeArea blocks used area = AllByRecursion (IsOutside (area_start blocks area) (root_pages_of blocks)) used

-- The least of the three page areas that are free.
pub record IsLeastFreeArea (blocks : ℕ) (used : List ℕ) (area : ℕ) : Type 0 where
  pub three : area < 3
  pub free : IsFreeArea blocks used area
  pub least : (other : ℕ) → other < area → ¬ IsFreeArea blocks used other

-- One of the three page areas is free.
abbrev pub HasFreeArea : ℕ → List ℕ → Type 0
HasFreeArea blocks used = (area : ℕ) × (area < 3) × IsFreeArea blocks used area

-- A metadata block lies in a page area.
abbrev pub IsInArea : ℕ → ℕ → ℕ → Type 0
IsInArea blocks area block = (area_start blocks area ≤ block) × (block < area_start blocks area + root_pages_of blocks)

-- All of these pages lie in one of the three page areas.
abbrev pub LieInAnArea : ℕ → List ℕ → Type 0
LieInAnArea blocks pages = (area : ℕ) × (area < 3) × AllByRecursion (IsInArea blocks area) pages

-- The pages of a root lie in one page area, and those of its held root, if there is one, in one.
abbrev pub LieInAreas : RootFields → Option RootFields → Type 0
LieInAreas root None = LieInAnArea (blocks_of_root root) (pages_of root)
LieInAreas root (Some held) = LieInAnArea (blocks_of_root root) (pages_of root) × LieInAnArea (blocks_of_root root) (pages_of held)

-- What a held root says, if there is one.
abbrev pub held_fields : Option Root → Option RootFields
held_fields held = option_map fields_of held

-- How many pages a root with so many archived sets has.
abbrev pub page_count : ℕ → ℕ → ℕ
page_count blocks sets = array_pages_of blocks + bit_pages_of blocks + sets * bit_pages_of blocks

-- Whether a metadata block is none of those that are in use.
abbrev pub is_unused : List ℕ → ℕ → Bool
is_unused [] block = true
is_unused (other ∷ used) block = if eqb other block then false else is_unused used block

-- The metadata blocks from one up to another that aren't in use, in ascending order.
abbrev pub free_between : List ℕ → ℕ → ℕ → List ℕ
free_between used from end = filter (is_unused used) (numbers_from from (end - from))

-- The metadata blocks that the pages of the next root may take: those of the least free page area, and where none is free all that aren't in use, behind the held root's block.
pub record AreNextBlocks (blocks : ℕ) (used next : List ℕ) : Type 0 where
  pub area : (area : ℕ) → IsLeastFreeArea blocks used area → next ≡ numbers_from (area_start blocks area) (root_pages_of blocks)
  pub scattered : (¬ HasFreeArea blocks used) → next ≡ free_between used 3 (need_of blocks)

-- Metadata blocks where pages of a next root may stand: they lie where the pages of an image do, none is in use, and none stands twice.
pub record ArePlaces (blocks : ℕ) (used places : List ℕ) : Type 0 where
  pub range : AllByRecursion (λ block. (3 ≤ block) × (block < need_of blocks)) places
  pub unused : AllByRecursion (λ block. is_unused used block ≡ true) places
  pub different : AreDifferent places

-- The root's pages take the first of these blocks, in ascending order, in the order of the root: those of the era array, of the current set, and of the archived sets, oldest first.
abbrev pub TakesNextBlocks : ℕ → List ℕ → RootFields → Type 0
TakesNextBlocks blocks used root = (next : List ℕ) × AreNextBlocks blocks used next
    × (pages_of root ≡ take (page_count blocks (length root.archive)) next)

-- A root, and its held root, if there is one, have no more pages than a page area has.
abbrev pub HaveFewPages : ℕ → RootFields → Option RootFields → Type 0
HaveFewPages blocks root None = length (pages_of root) ≤ root_pages_of blocks
HaveFewPages blocks root (Some held) = (length (pages_of root) ≤ root_pages_of blocks) × (length (pages_of held) ≤ root_pages_of blocks)

-- Archived sets of these eras, of which each has so many pages: each takes the first of the blocks that are left.
abbrev pub archived_from : List ℕ → ℕ → List ArchivedSet → List Archived
archived_from numbers width [] = []
archived_from numbers width (set ∷ sets) = record { era = set.era; pages = take width numbers } ∷ archived_from (drop width numbers) width sets

-- The pages of a root have the first of these numbers, in the order of the root, and its archived sets have these eras.
pub record IsNumbered (numbers : List ℕ) (sets : List ArchivedSet) (root : RootFields) : Type 0 where
  pub array : root.array ≡ take (array_pages_of (blocks_of_root root)) numbers
  pub current : root.current ≡ take (bit_pages_of (blocks_of_root root)) (drop (array_pages_of (blocks_of_root root)) numbers)
  pub archive : root.archive ≡ archived_from (drop (bit_pages_of (blocks_of_root root)) (drop (array_pages_of (blocks_of_root root)) numbers)) (bit_pages_of (blocks_of_root root)) sets

-- The lists of a root, and the spare lists beside it, are as long as a geometry's pages, and there are no more of the sets' than those of three roots: the committed one, the next one and the held one.
pub record HasPageLists (blocks : ℕ) (root : RootFields) (lists : List (List ℕ)) : Type 0 where
  pub array : length root.array ≡ array_pages_of blocks
  pub current : length root.current ≡ bit_pages_of blocks
  pub sets : AllByRecursion (λ set. length set.pages ≡ bit_pages_of blocks) root.archive
  pub spare : AllByRecursion (λ pages. length pages ≡ bit_pages_of blocks) lists
  pub count : length root.archive + length lists ≤ 3 * MOST_SETS
