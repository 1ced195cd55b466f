-- What a digest step did, over the metadata. A definition takes the members of the disk's trait, as `D.Disk`.
use Rattle.std.specs.Prelude.{◌≡◌, ℕ, false, Option, Some, None}
use Rattle.era_base.specs.declared.disk.Disk.{Ghosts}
use Rattle.era_model.specs.Digest.{digested}
use Rattle.era_model.specs.Marks.{BlockMarks}
use Rattle.era_meta.specs.declared.metadata.Meta.{Meta}
use Rattle.era_meta.specs.MetaCalls.{CommitsMarks, FailsToCommitMarks, IsInMemory}

-- Marks were stored, and are in memory.
pub record HasMarks {D : Type 0} (disk : Ghosts D) (old : Meta D) (marks : BlockMarks) (new : Meta D) : Type 0 where
  pub stored : CommitsMarks disk old marks new
  pub memory : IsInMemory new marks false

-- Marks were not stored, and those in memory are as before.
pub record StillHasMarks {D : Type 0} (disk : Ghosts D) (old : Meta D) (marks : BlockMarks) (new : Meta D) : Type 0 where
  pub failed : FailsToCommitMarks disk old marks new
  pub memory : IsInMemory new old.marks false

-- A digest step that answered Ok: where it found nothing to do, nothing changed and no device call was made; else the marks after the step are stored, by one commit, and in memory.
abbrev pub HasDigested : {D : Type 0} → Ghosts D → Meta D → Meta D → Option (ℕ × Option ℕ) → Type 0
HasDigested disk old new None = new ≡ old
HasDigested disk old new (Some step) = HasMarks disk old (digested old.marks step.1) new
