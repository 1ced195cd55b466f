-- When the pages of a root say given marks, page by page.
use Rattle.std.specs.Prelude.{◌≡◌, ℕ, ◌<◌, Bool, List, [], ◌∷◌, length}
use Rattle.era_layout.specs.declared.archive.Archived.{Archived}
use Rattle.era_layout.specs.Root.{RootFields}
use Rattle.era_model.specs.Marks.{ArchivedSet, BlockMarks}
use Rattle.era_meta.specs.PageParts.{IsArrayPageOf, IsBitsPageOf}
use Rattle.era_meta.specs.Content.{ArchivedPages, Content, page_at}

-- Pages say an era array.
abbrev pub SayEntries : List ℕ → List (List ℕ) → Type 0
SayEntries eras pages = (index : ℕ) → index < length pages → IsArrayPageOf eras index (page_at pages index)

-- Pages say a set.
abbrev pub SayFlags : List Bool → List (List ℕ) → Type 0
SayFlags flags pages = (index : ℕ) → index < length pages → IsBitsPageOf flags index (page_at pages index)

-- Pages say archived sets, set by set, each with its era.
abbrev pub SaySets : List ArchivedSet → List ArchivedPages → Type 0
SaySets [] [] = Unit {0}
SaySets (set ∷ sets) (said ∷ others) = (said.era ≡ set.era) × SayFlags set.blocks said.pages × SaySets sets others
SaySets sets said = ⊥

-- Pages say marks.
pub record SaysMarks (m : BlockMarks) (content : Content) : Type 0 where
  pub array : SayEntries m.array content.array
  pub current : SayFlags m.current content.current
  pub archive : SaySets m.archive content.archive

-- A root has the archived sets of marks, set by set, by their eras.
abbrev pub HasSets : List ArchivedSet → List Archived → Type 0
HasSets [] [] = Unit {0}
HasSets (set ∷ sets) (archived ∷ others) = (archived.era ≡ set.era) × HasSets sets others
HasSets sets others = ⊥

-- A root is one of marks: its geometry, its era, and the eras of its archived sets are theirs.
pub record IsRootFor (root : RootFields) (m : BlockMarks) : Type 0 where
  pub sectors : root.sectors ≡ m.sectors
  pub block_sectors : root.block_sectors ≡ m.block_sectors
  pub era : root.era ≡ m.era
  pub archive : HasSets m.archive root.archive
