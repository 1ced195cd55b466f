-- Each change of the marks keeps their origin, and so does each call of a keeper.
use Rattle.std.proofs.Common.{◌≡◌, ℕ, List, [], ◌∷◌, Option, Some, None, refl, ap, ◌∙◌}
use Rattle.era_base.specs.Calls.{SameDisk}
use Rattle.era_base.specs.declared.disk.Disk.{Ghosts}
use Rattle.era_meta.specs.declared.metadata.Meta.{Meta}
use Rattle.era_model.specs.Digest.{digested, digested_from}
use Rattle.era_model.specs.Marks.{ArchivedSet, BlockMarks, rolled}
use Rattle.era_keeper.specs.declared.keeper.Keeper.{Keeper}
use Rattle.era_keeper.specs.Calls.{SameKeeper}
use Rattle.era_keeper.proofs.Follows.{rolled-switches}
use Rattle.era_keeper.proofs.Stores.{over}

-- marks of as many sectors, in blocks of the same size
pub record SameOrigin (m after : BlockMarks) : Type 0 where
  pub sectors : after.sectors ≡ m.sectors
  pub block_sectors : after.block_sectors ≡ m.block_sectors

pub origin-rolled : (m : BlockMarks) → SameOrigin m (rolled m)
origin-rolled m =
    let is = rolled-switches m in
    record { sectors = is.sectors; block_sectors = is.block_sectors }

digested-origin : (m : BlockMarks) (sets : List ArchivedSet) (page : Option ℕ) → SameOrigin m (digested_from m sets page)
digested-origin m [] page = record { sectors = refl; block_sectors = refl }
digested-origin m (oldest ∷ sets) None = record { sectors = refl; block_sectors = refl }
digested-origin m (oldest ∷ sets) (Some page) = record { sectors = refl; block_sectors = refl }

pub origin-digested : (m : BlockMarks) (page : Option ℕ) → SameOrigin m (digested m page)
origin-digested m page = digested-origin m m.archive page

-- a keeper over other metadata, whose marks are these
pub same-over : {D : Type 0} (disk : Ghosts D) (keeper : Keeper D) (meta : Meta D) (m : BlockMarks) → SameDisk disk keeper.meta.slots.disk meta.slots.disk → meta.marks ≡ m → SameOrigin keeper.meta.marks m
    → SameKeeper disk keeper (over keeper meta)
same-over disk keeper meta m device is origin = record {
  table = refl;
  device = device;
  began = refl;
  sectors = ap (λ (n : BlockMarks). n.sectors) is ∙ origin.sectors;
  block_sectors = ap (λ (n : BlockMarks). n.block_sectors) is ∙ origin.block_sectors;
}
