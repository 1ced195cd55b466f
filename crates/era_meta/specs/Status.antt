-- The usage of metadata blocks that a status tells.
use Rattle.std.specs.Prelude.{◌≡◌, ℕ}
use Rattle.era_layout.specs.Root.{fields_of}
use Rattle.era_model.specs.Usage.{IsUsage}
use Rattle.era_meta.specs.declared.metadata.Meta.{Meta}
use Rattle.era_meta.specs.Held.{snapshot_marks, snapshot_root}
use Rattle.era_meta.specs.Usage.{used_by}

-- So many metadata blocks are used: exactly those that the roots use, and so a usage of the marks and of the snapshot.
pub record TellsUsage {D : Type 0} (meta : Meta D) (used : ℕ) : Type 0 where
  pub exact : used ≡ used_by (fields_of meta.root) (snapshot_root meta.snapshot)
  pub usage : IsUsage meta.marks (snapshot_marks meta.snapshot) used
