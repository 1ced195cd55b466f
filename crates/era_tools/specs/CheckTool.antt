-- What a check of a closed image tells. A definition takes the members of the disk's trait, as `D.Disk`.
use Rattle.std.specs.Prelude.{◌⊎◌, ℕ, List, Option}
use Rattle.era_base.specs.declared.disk.Disk.{Ghosts}
use Rattle.era_check.specs.Checks.{IsCleanAs, refusal_in}
use Rattle.era_check.specs.declared.checked.Checked.{Checked}
use Rattle.era_check.specs.declared.checked.Checked.TheVariants as found
use Rattle.era_tools.specs.declared.refusal.Refusal.{Refusal}
use Rattle.era_tools.specs.declared.status.Status.{Status}
use Rattle.era_tools.specs.declared.status.Status.TheVariants.{Done, Damage, Fault, Memory, Refused}
use Rattle.era_tools.specs.Around.{BayAround}
use Rattle.era_tools.specs.ClosedImages.{HasTried, IsNotLent}
use Rattle.era_tools.specs.Printing.{Prints}
use Rattle.era_tools.specs.Refusals.{refusal_status, refusal_text}
use Rattle.era_tools.specs.ToolLines.{clean_line, damage_line, memory_line, meta_fault_line, meta_small_line, unformatted_line}

-- The line of what a check found.
abbrev pub checked_text : Checked → List ℕ
checked_text (found.Clean era used) = clean_line era used
checked_text (found.Damage kind block) = damage_line kind block
checked_text found.Unformatted = unformatted_line
checked_text (found.MetaSmall have need) = meta_small_line have need
checked_text (found.Fault count) = meta_fault_line count
checked_text found.Memory = memory_line

-- The status that it ends with.
abbrev pub checked_status : Checked → Status
checked_status (found.Clean era used) = Done
checked_status (found.Damage kind block) = Damage
checked_status found.Unformatted = Refused
checked_status (found.MetaSmall have need) = Refused
checked_status (found.Fault count) = Fault
checked_status found.Memory = Memory

-- An image was checked: what was found is what a look at it finds, its line was given, and the device was put back.
pub record ChecksImage {D : Type 0} (disk : Ghosts D) (bay : BayAround D) (name : List ℕ) (given given' : Option (List ℕ)) (result : Status) : Type 0 where
  pub finding : Checked
  pub lent : D
  pub tried : HasTried disk bay name lent (refusal_in finding)
  pub clean : IsCleanAs disk lent finding
  pub printed : Prints given given' (checked_text finding) (checked_status finding) result

-- The metadata device wasn't lent, and that was told.
pub record TellsNotLent {D : Type 0} (bay : BayAround D) (given given' : Option (List ℕ)) (result : Status) : Type 0 where
  pub refusal : Refusal
  pub cause : IsNotLent bay refusal
  pub printed : Prints given given' (refusal_text refusal) (refusal_status refusal) result

-- A check of a closed image went so.
abbrev pub RunsCheck : {D : Type 0} → Ghosts D → BayAround D → List ℕ → Option (List ℕ) → Option (List ℕ) → Status → Type 0
RunsCheck disk bay name given given' result = ChecksImage disk bay name given given' result ⊎ TellsNotLent bay given given' result
