-- The pages of a root as bytes: which marks they say, and when no kind of damage of a page applies to them.
use Rattle.std.specs.Prelude.{ℕ, ◌-◌, ◌*◌, ◌/◌, ◌%◌, ◌<◌, min, Bool, List, [], ◌∷◌, length, map, slice_index_or}
use Rattle.std.specs.List.{AllByRecursion}
use Rattle.era_base.specs.Flags.{tabulate}
use Rattle.era_base.specs.Geometry.{blocks_of}
use Rattle.era_layout.specs.declared.archive.Archived.{Archived}
use Rattle.era_layout.specs.Root.{RootFields}
use Rattle.era_layout.specs.Pages.{entry_at, flag_at, IsArrayPage, FlagsEndAt}
use Rattle.era_model.specs.Marks.{ArchivedSet, BlockMarks}

-- An archived set: its era, and the bytes of its pages.
pub record ArchivedPages : Type 0 where
  pub era : ℕ
  pub pages : List (List ℕ)

-- The bytes of a root's pages: those of the era array, those of the current set, and the archived sets, oldest first.
pub record Content : Type 0 where
  pub array : List (List ℕ)
  pub current : List (List ℕ)
  pub archive : List ArchivedPages

-- The pages of an archived set, read by a function from metadata blocks to bytes.
abbrev pub archived_content : (ℕ → List ℕ) → Archived → ArchivedPages
archived_content page set = record { era = set.era; pages = map page set.pages }

-- The pages that a root names, read by a function from metadata blocks to bytes.
abbrev pub content_of : (ℕ → List ℕ) → RootFields → Content
content_of page root = record {
  array = map page root.array;
  current = map page root.current;
  archive = map (archived_content page) root.archive;
}

-- How many blocks the origin of a root has.
abbrev pub blocks_of_root : RootFields → ℕ
blocks_of_root root = blocks_of root.sectors root.block_sectors

-- The page at an index, without bytes past the last one.
abbrev pub page_at : List (List ℕ) → ℕ → List ℕ
page_at pages index = slice_index_or pages index []

-- The entry of a block in the pages of an era array, 1,024 entries a page.
abbrev pub entry_in : List (List ℕ) → ℕ → ℕ
entry_in pages block = entry_at (page_at pages (block / 1024)) (block % 1024)

-- Whether a block is in the set of these pages, 32,768 bits a page.
abbrev pub flag_in : List (List ℕ) → ℕ → Bool
flag_in pages block = flag_at (page_at pages (block / 32768)) (block % 32768)

-- The archived set of so many blocks that pages say.
abbrev pub set_in : ℕ → ArchivedPages → ArchivedSet
set_in blocks set = record { era = set.era; blocks = tabulate 0 blocks (flag_in set.pages) }

-- The marks that a root and the bytes of its pages say.
abbrev pub marks_in : RootFields → Content → BlockMarks
marks_in root content = record {
  sectors = root.sectors;
  block_sectors = root.block_sectors;
  era = root.era;
  array = tabulate 0 (blocks_of_root root) (entry_in content.array);
  archive = map (set_in (blocks_of_root root)) content.archive;
  current = tabulate 0 (blocks_of_root root) (flag_in content.current);
}

-- The greatest era that an entry of the era array may have: that of the oldest archived set, and without one the era before the present one.
abbrev pub root_limit : List Archived → ℕ → ℕ
root_limit [] era = era - 1
root_limit (oldest ∷ sets) era = oldest.era

-- The pages are those of an era array of so many blocks: entries past the last block are 0, and none is above the limit.
abbrev pub AreArrayPages : ℕ → ℕ → List (List ℕ) → Type 0
AreArrayPages blocks limit pages = (index : ℕ) → index < length pages
    → IsArrayPage (page_at pages index) (min 1024 (blocks - 1024 * index)) limit

-- The pages are those of a set of so many blocks: bits past the last block are clear.
abbrev pub AreBitsPages : ℕ → List (List ℕ) → Type 0
AreBitsPages blocks pages = (index : ℕ) → index < length pages
    → FlagsEndAt (page_at pages index) (min 32768 (blocks - 32768 * index))

-- No kind of damage of a page applies to the pages of a root.
pub record IsWholeContent (root : RootFields) (content : Content) : Type 0 where
  pub entries : AreArrayPages (blocks_of_root root) (root_limit root.archive root.era) content.array
  pub sets : AllByRecursion (λ set. AreBitsPages (blocks_of_root root) set.pages) content.archive
  pub current_set : AreBitsPages (blocks_of_root root) content.current
