-- The parts in memory that are read of an opened disk, before they are one with its slots.
use Rattle.std.specs.Prelude.{◌≡◌, ◌+◌, ◌*◌, ℕ, false, List, [], length}
use Rattle.std.specs.Option.{option_map}
use Rattle.era_base.specs.Geometry.{blocks_of, array_pages_of, bit_pages_of}
use Rattle.era_base.specs.declared.limits.TheConstants.{MOST_SETS}
use Rattle.era_layout.specs.Root.{RootFields, fields_of, root_bytes, IsValidRoot}
use Rattle.era_slots.specs.Slot.{other, body_of, SlotIsOpen}
use Rattle.era_meta.specs.declared.parts.Parts.{Parts}
use Rattle.era_meta.specs.declared.snapshot.Snapshot.{Snapshot}
use Rattle.era_meta.specs.Areas.{HasPageLists}
use Rattle.era_meta.specs.Content.{blocks_of_root, content_of, IsWholeContent}
use Rattle.era_meta.specs.Damage.{root_in}
use Rattle.era_meta.specs.Held.{snapshot_root, snapshot_marks}
use Rattle.era_meta.specs.InMemory.{IsSnapshotBeside}
use Rattle.era_meta.specs.Meaning.{IsHeld, IsRootBody, marks_on, pages_in}
use Rattle.era_meta.specs.SaysMarks.{IsRootFor}
use Rattle.era_meta.specs.Stored.{HasBlocks}

-- A snapshot in memory is the one that a root holds, as its pages and its held root say.
pub record SaysSnapshot (page : ℕ → List ℕ) (root : RootFields) (snapshot : Snapshot) : Type 0 where
  pub held : IsHeld page root (snapshot_root snapshot)
  pub marks : option_map (marks_on page) (snapshot_root snapshot) ≡ snapshot_marks snapshot

-- Parts belong together with a root: the marks and the snapshot are of its geometry, and with its lists of pages there are as many as three roots may have.
pub record FitRoot (root : RootFields) (parts : Parts) : Type 0 where
  pub is : fields_of parts.root ≡ root
  pub marks : IsRootFor root parts.marks
  pub lists : HasPageLists (blocks_of_root root) (fields_of parts.next) parts.spare
  pub total : length root.archive + length parts.snapshot.root.archive + (length parts.next.archive + length parts.spare) ≡ 3 * MOST_SETS
  pub snapshot : IsSnapshotBeside root parts.snapshot

-- Parts say what the pages of a root say, and what those of its held root do.
pub record SayRoot (page : ℕ → List ℕ) (root : RootFields) (parts : Parts) : Type 0 where
  pub marks : parts.marks ≡ marks_on page root
  pub snapshot : SaysSnapshot page root parts.snapshot

-- Room for a root of a geometry: lists as long as its pages, without archived sets and without a snapshot.
pub record IsRoomOf (sectors block_sectors : ℕ) (root : RootFields) : Type 0 where
  pub sectors_same : root.sectors ≡ sectors
  pub size_same : root.block_sectors ≡ block_sectors
  pub array : length root.array ≡ array_pages_of (blocks_of sectors block_sectors)
  pub current : length root.current ≡ bit_pages_of (blocks_of sectors block_sectors)
  pub archive : root.archive ≡ []
  pub none : root.held ≡ false

-- What is read of an opened disk of so many sectors, whatever it tells: its root is valid, and the parts belong together with it.
pub record HasParts (sectors : ℕ) (parts : Parts) : Type 0 where
  pub valid : IsValidRoot (fields_of parts.root)
  pub room : HasBlocks (fields_of parts.root) sectors
  pub fit : FitRoot (fields_of parts.root) parts

-- What is read of a disk whose active slot is this one, with this root: the root is the newest one, all that it reaches is undamaged, the other slot has a root's bytes where its gate is open, and the parts say what the pages say.
pub record AreReadOf (active : ℕ) (seen : List ℕ) (root : RootFields) (parts : Parts) : Type 0 where
  pub newest : root_in seen ≡ root
  pub spelled : body_of active seen ≡ root_bytes root
  pub beside : SlotIsOpen (other active) seen → IsRootBody (body_of (other active) seen)
  pub whole : IsWholeContent root (content_of (pages_in seen) root)
  pub says : SayRoot (pages_in seen) root parts
