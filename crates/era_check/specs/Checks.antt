-- What a check of a metadata image tells. A definition takes the members of the disk's trait, as `D.Disk`.
use Rattle.std.specs.Prelude.{◌≡◌, ℕ, true, List, Option, Some, None}
use Rattle.era_base.specs.declared.disk.Disk.{Ghosts}
use Rattle.era_layout.specs.Root.{RootFields}
use Rattle.era_model.specs.Usage.{IsUsage}
use Rattle.era_meta.specs.Damage.{root_in}
use Rattle.era_meta.specs.Meaning.{Meaning, IsImageOf, IsWholeRoot, pages_in}
use Rattle.era_meta.specs.Usage.{used_by}
use Rattle.era_meta.specs.declared.refusal.MetaError.{MetaError}
use Rattle.era_meta.specs.declared.refusal.MetaError.TheVariants as error
use Rattle.era_check.specs.declared.checked.Checked.{Checked}
use Rattle.era_check.specs.declared.checked.Checked.TheVariants.{Clean, Damage, Unformatted, MetaSmall, Fault, Memory}

-- What a look refuses where a check finds this, if it refuses.
abbrev pub refusal_in : Checked → Option MetaError
refusal_in (Clean era used) = None
refusal_in (Damage kind block) = Some (error.Damaged kind block)
refusal_in Unformatted = Some error.Unformatted
refusal_in (MetaSmall have need) = Some (error.MetaSmall have need)
refusal_in (Fault count) = Some (error.Fault count)
refusal_in Memory = Some error.Memory

-- What a check finds where a look refuses so. The last three are never a look's: they would be told as want of memory.
abbrev pub checked_of : MetaError → Checked
checked_of (error.MetaSmall have need) = MetaSmall have need
checked_of (error.Fault count) = Fault count
checked_of error.Unformatted = Unformatted
checked_of (error.Damaged kind block) = Damage kind block
checked_of error.Memory = Memory
checked_of (error.WrongGeometry kept asked) = Memory
checked_of error.EraEnd = Memory
checked_of (error.SequenceEnd number) = Memory

-- So many metadata blocks are used: exactly those that the newest root and its held root use.
pub record IsUsedBy (seen : List ℕ) (used : ℕ) : Type 0 where
  pub held : Option RootFields
  pub whole : IsWholeRoot (pages_in seen) (root_in seen) held
  pub exact : used ≡ used_by (root_in seen) held

-- An image stands for marks of this era, and so many metadata blocks are used.
pub record IsCleanImage (seen : List ℕ) (era used : ℕ) : Type 0 where
  pub meaning : Meaning
  pub stands : IsImageOf meaning seen
  pub present : era ≡ meaning.marks.era
  pub usage : IsUsage meaning.marks meaning.held used
  pub exact : IsUsedBy seen used

-- What is found of an image without damage is so, where its disk tells it.
abbrev pub IsCleanAs : {D : Type 0} → Ghosts D → D → Checked → Type 0
IsCleanAs disk old (Clean era used) = disk.tells ≡ true → IsCleanImage (disk.history old).now.seen era used
IsCleanAs disk old found = Unit {0}
