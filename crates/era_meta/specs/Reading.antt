-- What was read into memory of the pages of a root.
use Rattle.std.specs.Prelude.{◌≡◌, ℕ, ◌≤◌, Bool, true, false, List, [], ◌∷◌, length, slice_index, Result, IfOk}
use Rattle.std.specs.List.{AllByRecursion}
use Rattle.era_base.specs.CrashModel.{State}
use Rattle.era_layout.specs.declared.root.Root.{Root}
use Rattle.era_layout.specs.Root.{RootFields, fields_of, root_bytes, IsValidRoot}
use Rattle.era_model.specs.Marks.{ArchivedSet}
use Rattle.era_meta.specs.Content.{blocks_of_root, content_of, root_limit}
use Rattle.era_meta.specs.declared.finding.Finding.{Finding}
use Rattle.era_meta.specs.Damage.{SlotRoot, HeldRoot, HeldSize, held_body, HasSize}
use Rattle.era_meta.specs.Meaning.{pages_in}
use Rattle.era_meta.specs.SaysMarks.{SaysMarks, HasSets}
use Rattle.era_meta.specs.Walks.{IsTestedIn}

-- An era array, a current set and archived sets are those of a root: they are of its blocks, no entry is above the limit, the sets have the root's eras, and where the disk tells its pages say them.
pub record AreOfRoot (tells : Bool) (now : State) (root : RootFields) (array : List ℕ) (current : List Bool) (archive : List ArchivedSet) : Type 0 where
  pub array_size : length array ≡ blocks_of_root root
  pub current_size : length current ≡ blocks_of_root root
  pub sizes : AllByRecursion (λ set. length set.blocks ≡ blocks_of_root root) archive
  pub limited : (block : ℕ) → slice_index array block ≤ root_limit root.archive root.era
  pub eras : HasSets archive root.archive
  pub says : tells ≡ true → SaysMarks (record {
    sectors = root.sectors;
    block_sectors = root.block_sectors;
    era = root.era;
    array = array;
    archive = archive;
    current = current;
  }) (content_of (pages_in now.seen) root)

-- A valid root with these bytes.
abbrev pub IsRootOf : List ℕ → Root → Type 0
IsRootOf bytes root = IsValidRoot (fields_of root) × (root_bytes (fields_of root) ≡ bytes)

-- A valid root may be the held root of another: it holds no snapshot, and is of the same geometry.
pub record IsHeldBy (root held : RootFields) : Type 0 where
  pub valid : IsValidRoot held
  pub none : held.held ≡ false
  pub size : HasSize held root.sectors root.block_sectors

-- Both roots were tested in the order of the slots: both pass, or the first damage was found.
abbrev pub HasRoots : {T : Type 0} → List ℕ → Result T Finding → Type 0
HasRoots seen result = IsTestedIn seen (SlotRoot 0 ∷ SlotRoot 1 ∷ []) result

-- The held root of a root was tested: its place has the bytes of this one, of the same geometry, or the first damage was found.
abbrev pub HasHeldRoot : List ℕ → RootFields → Result Root Finding → Type 0
HasHeldRoot seen root result = IsTestedIn seen (HeldRoot ∷ HeldSize root.sectors root.block_sectors ∷ []) result
    × IfOk result (λ held. held_body seen ≡ root_bytes (fields_of held))
