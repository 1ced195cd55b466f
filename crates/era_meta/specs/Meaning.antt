-- What a metadata disk stands for: marks, and a snapshot of marks or none. An image is the bytes of a disk.
use Rattle.std.specs.Prelude.{◌≡◌, ℕ, ◌*◌, ◌<◌, ◌≤◌, true, false, List, ◌∷◌, ◌++◌, length, drop, Option, Some, None}
use Rattle.std.specs.Option.{option_map}
use Rattle.era_base.specs.Geometry.{need_of}
use Rattle.era_layout.specs.Root.{RootFields, root_bytes, pages_of, IsValidRoot}
use Rattle.era_model.specs.Marks.{BlockMarks}
use Rattle.era_slots.specs.Slot.{other, SlotIsOpen, body_of, page_of, IsActive}
use Rattle.era_meta.specs.Content.{content_of, blocks_of_root, marks_in, IsWholeContent}

-- What a metadata disk stands for.
pub record Meaning : Type 0 where
  pub marks : BlockMarks
  pub held : Option BlockMarks

-- The bytes of each metadata block of a disk.
abbrev pub pages_in : List ℕ → ℕ → List ℕ
pages_in bytes block = page_of block bytes

-- A root that holds a snapshot has this held root in block 2, which is valid, holds no snapshot, is of the same geometry, and has whole pages.
pub record HoldsRoot (page : ℕ → List ℕ) (root held : RootFields) : Type 0 where
  pub flag : root.held ≡ true
  pub valid : IsValidRoot held
  pub none : held.held ≡ false
  pub spelled : drop 520 (page 2) ≡ root_bytes held
  pub length_same : held.sectors ≡ root.sectors
  pub size_same : held.block_sectors ≡ root.block_sectors
  pub whole : IsWholeContent held (content_of page held)

-- The held root of a root, or none where it holds no snapshot.
abbrev pub IsHeld : (ℕ → List ℕ) → RootFields → Option RootFields → Type 0
IsHeld page root None = root.held ≡ false
IsHeld page root (Some held) = HoldsRoot page root held

-- A valid root with whole pages, and its held root, if there is one.
pub record IsWholeRoot (page : ℕ → List ℕ) (root : RootFields) (held : Option RootFields) : Type 0 where
  pub valid : IsValidRoot root
  pub whole : IsWholeContent root (content_of page root)
  pub snapshot : IsHeld page root held

-- The marks that a root says.
abbrev pub marks_on : (ℕ → List ℕ) → RootFields → BlockMarks
marks_on page root = marks_in root (content_of page root)

-- What a root and its held root say.
abbrev pub meaning_of : (ℕ → List ℕ) → RootFields → Option RootFields → Meaning
meaning_of page root held = record { marks = marks_on page root; held = option_map (marks_on page) held }

-- The metadata blocks behind the slots that a root reaches: its pages, and where it holds a snapshot block 2 and that root's pages.
abbrev pub reached : RootFields → Option RootFields → List ℕ
reached root None = pages_of root
reached root (Some held) = pages_of root ++ 2 ∷ pages_of held

-- Bytes are the spelling of some valid root.
abbrev pub IsRootBody : List ℕ → Type 0
IsRootBody bytes = (root : RootFields) × IsValidRoot root × (bytes ≡ root_bytes root)

-- An image stands for a meaning: its active slot has a whole root that says it, the blocks that the root's geometry needs are there, and the other slot has the bytes of a valid root where it is open.
pub record IsImageOf (meaning : Meaning) (image : List ℕ) : Type 0 where
  pub slot : ℕ
  pub two : slot < 2
  pub active : IsActive slot image
  pub root : RootFields
  pub held : Option RootFields
  pub spelled : body_of slot image ≡ root_bytes root
  pub whole : IsWholeRoot (pages_in image) root held
  pub room : 4096 * need_of (blocks_of_root root) ≤ length image
  pub beside : SlotIsOpen (other slot) image → IsRootBody (body_of (other slot) image)
  pub says : meaning ≡ meaning_of (pages_in image) root held
