-- A root: what it says, its bytes, and which roots there are. The offsets stand in docs/FORMAT.md, "A root".
use Rattle.std.specs.Prelude.{ℕ, ◌≡◌, ◌≢◌, ◌^◌, ◌<◌, ◌≤◌, Bool, List, [], ◌∷◌, ◌++◌, length, codes, EachIndex, slice_index, if◌then◌else◌}
use Rattle.std.specs.List.{flat_map, AllByRecursion}
use Rattle.era_base.specs.declared.limits.TheConstants.{MOST_BLOCKS, MOST_SETS}
use Rattle.era_base.specs.Flags.{tabulate}
use Rattle.era_base.specs.Geometry.{IsBlockSize, blocks_of, array_pages_of, bit_pages_of, need_of}
use Rattle.era_layout.specs.declared.archive.Archived.{Archived}
use Rattle.era_layout.specs.declared.root.Root.{Root}
use Rattle.era_layout.specs.Numbers.{u32_bytes, u64_bytes, u32s_bytes, padded}

-- What a root says: the origin's length and block size in sectors, the current era, whether a snapshot is held, the pages of the era array and of the current write set, and the archived sets, oldest first.
pub record RootFields : Type 0 where
  pub sectors : ℕ
  pub block_sectors : ℕ
  pub era : ℕ
  pub held : Bool
  pub array : List ℕ
  pub current : List ℕ
  pub archive : List Archived

-- What a root says, without where it lies in memory.
abbrev pub fields_of : Root → RootFields
fields_of root = record {
  sectors = root.geometry.sectors;
  block_sectors = root.geometry.block_sectors;
  era = root.era;
  held = root.held;
  array = root.array;
  current = root.current;
  archive = root.archive;
}

-- The eight bytes with which a root begins.
unfoldable pub magic : List ℕ
magic = codes "eradisk1"

-- The held field: 2, the block of the held root, where a snapshot is held, and else 0.
abbrev pub held_number : Bool → ℕ
held_number held = if held then 2 else 0

-- The fixed fields: magic, version, block size, length, era, held, number of archived sets, and zero.
abbrev pub head_bytes : RootFields → List ℕ
head_bytes root =
    magic ++ u32_bytes 1 ++ u32_bytes root.block_sectors ++ u64_bytes root.sectors ++ u32_bytes root.era
    ++ u32_bytes (held_number root.held) ++ u32_bytes (length root.archive) ++ u32_bytes 0

-- An archived set: its era, then its pages.
abbrev pub archived_bytes : Archived → List ℕ
archived_bytes set = u32_bytes set.era ++ u32s_bytes set.pages

-- Archived sets, one behind the other.
abbrev pub archive_bytes : List Archived → List ℕ
archive_bytes sets = flat_map archived_bytes sets

-- The lists: the pages of the era array, those of the current set, and the archived sets.
abbrev pub lists_bytes : RootFields → List ℕ
lists_bytes root = u32s_bytes root.array ++ u32s_bytes root.current ++ archive_bytes root.archive

-- The bytes of a root: the fixed fields, the lists, and zeros.
abbrev pub root_bytes : RootFields → List ℕ
root_bytes root = padded 3576 (head_bytes root ++ lists_bytes root)

-- A length and a block size in sectors are those of a geometry.
pub record IsGeometry (sectors block_sectors : ℕ) : Type 0 where
  pub some : 0 < sectors
  pub block_size : IsBlockSize block_sectors
  pub limited : blocks_of sectors block_sectors ≤ MOST_BLOCKS

-- The eras of the sets ascend strictly from above a floor, and all are below an era.
abbrev pub EraOrder : ℕ → ℕ → List Archived → Type 0
EraOrder floor era [] = Unit {0}
EraOrder floor era (set ∷ sets) = (floor < set.era) × (set.era < era) × EraOrder set.era era sets

-- The pages of the archived sets, set by set.
abbrev pub archive_pages : List Archived → List ℕ
archive_pages sets = flat_map (λ set. set.pages) sets

-- All page numbers that a root has, in their order.
abbrev pub pages_of : RootFields → List ℕ
pages_of root = root.array ++ root.current ++ archive_pages root.archive

-- Each number is that of a page of an image of so many blocks: behind the two slots and the held root's block, and below the need.
abbrev pub AreInImage : ℕ → List ℕ → Type 0
AreInImage blocks pages = EachIndex pages (λ index. (3 ≤ slice_index pages index) × (slice_index pages index < need_of blocks))

-- So many numbers, from a first one on.
abbrev pub numbers_from : ℕ → ℕ → List ℕ
numbers_from first count = tabulate first count (λ number. number)

-- No number stands twice.
abbrev pub AreDifferent : List ℕ → Type 0
AreDifferent pages =
    (first second : ℕ) → first < second → second < length pages → slice_index pages first ≢ slice_index pages second

-- A valid root of layout version 1.
pub record IsValidRoot (root : RootFields) : Type 0 where
  pub length_fits : root.sectors < 2 ^ 64
  pub geometry : IsGeometry root.sectors root.block_sectors
  pub era : 0 < root.era
  pub era_fits : root.era < 2 ^ 32
  pub array : length root.array ≡ array_pages_of (blocks_of root.sectors root.block_sectors)
  pub current : length root.current ≡ bit_pages_of (blocks_of root.sectors root.block_sectors)
  pub count : length root.archive ≤ MOST_SETS
  pub sets : AllByRecursion (λ set. length set.pages ≡ bit_pages_of (blocks_of root.sectors root.block_sectors)) root.archive
  pub order : EraOrder 0 root.era root.archive
  pub range : AreInImage (blocks_of root.sectors root.block_sectors) (pages_of root)
  pub different : AreDifferent (pages_of root)
