-- What a bay lends to an opening, and why it doesn't. A definition takes the members of the disk's trait, as `D.Disk`.
use Rattle.std.specs.Prelude.{◌≡◌, ℕ, ◌<◌, ◌≤◌, List, [], ◌∷◌, ◌++◌, true, Option, Some, slice_get, length, Result, Ok, Err}
use Rattle.era_base.specs.Bay.{ReadsAs, SameReads}
use Rattle.era_base.specs.Faults.{Rose}
use Rattle.era_base.specs.declared.disk.Disk.{Ghosts}
use Rattle.era_base.specs.declared.bay_error.BayError.{BayError}
use Rattle.era_base.specs.declared.bay_error.BayError.TheVariants.{Failed, Memory}
use Rattle.era_base.specs.declared.geometry.Geometry.{Geometry}
use Rattle.era_line.specs.declared.table_line.TableLine.{TableLine}
use Rattle.era_opening.specs.Loans.{new_loans}
use Rattle.era_opening.specs.Splits.{part_first, part_place, part_size}
use Rattle.era_opening.specs.declared.splitting.Split.{Split}
use Rattle.era_tools.specs.Around.{BayAround, LeavesBay}
use Rattle.era_tools.specs.ClosedImages.{IsMetadataLent}
use Rattle.era_tools.specs.declared.refusal.Refusal.{Refusal}
use Rattle.era_tools.specs.declared.refusal.Refusal.TheVariants.{BayFault, NoRoom, OriginSmall}

-- The refusal for which a bay with this count of faults didn't answer.
abbrev pub bay_refusal : ℕ → BayError → Refusal
bay_refusal count Failed = BayFault count
bay_refusal count Memory = NoRoom

-- The bay didn't answer: it failed, and its count rose and is told, or memory was refused there.
abbrev pub IsUnanswered : {D : Type 0} → BayAround D → Refusal → Type 0
IsUnanswered bay (BayFault count) = (count ≡ bay.faults') × Rose bay.faults bay.faults'
IsUnanswered bay NoRoom = bay.faults' ≡ bay.faults
IsUnanswered bay refusal = ⊥

-- The origin of a table line has at least as many sectors as the line says.
abbrev pub IsLargeEnough : {D : Type 0} → BayAround D → TableLine → Type 0
IsLargeEnough bay line = (size : ℕ) × (bay.sizes line.origin ≡ Some size) × (line.length ≤ size)

-- The origin of a table line is smaller than the line says, with both numbers told.
pub record IsSmall {D : Type 0} (bay : BayAround D) (line : TableLine) (have need : ℕ) : Type 0 where
  pub told : bay.sizes line.origin ≡ Some have
  pub wanted : need ≡ line.length
  pub small : have < need
  pub faults : bay.faults' ≡ bay.faults

-- Why an origin's size was found wanting.
abbrev pub IsUnsuited : {D : Type 0} → BayAround D → TableLine → Refusal → Type 0
IsUnsuited bay line (OriginSmall have need) = IsSmall bay line have need
IsUnsuited bay line refusal = IsUnanswered bay refusal

-- An origin's size was asked: it is large enough, or it is refused so. Nothing was lent, and sectors read as before.
abbrev pub AsksSize : {D : Type 0} → BayAround D → TableLine → Result Unit Refusal → Type 0
AsksSize bay line (Ok value) = IsLargeEnough bay line × LeavesBay bay × (bay.faults' ≡ bay.faults)
AsksSize bay line (Err refusal) = IsUnsuited bay line refusal × LeavesBay bay

-- A disk is the part of a number that the bay lent: it lies there, has just the part's sectors, and reads as the bay did.
pub record IsPartLent {D : Type 0} (disk : Ghosts D) (reads : List ℕ → ℕ → Option (List ℕ)) (origin : List ℕ) (geometry : Geometry) (each k : ℕ) (part : D) : Type 0 where
  pub place : disk.place part ≡ part_place origin geometry each k
  pub size : disk.sectors part ≡ part_size geometry each k
  pub content : disk.tells ≡ true → ReadsAs reads origin (part_first geometry each k) (part_size geometry each k) (disk.history part).now

-- The disks are the first parts that the bay lent, in order.
abbrev pub ArePartsLent : {D : Type 0} → Ghosts D → (List ℕ → ℕ → Option (List ℕ)) → List ℕ → Geometry → ℕ → List D → Type 0
ArePartsLent {D} disk reads origin geometry each parts = (k : ℕ) (part : D) → slice_get parts k ≡ Some part → IsPartLent disk reads origin geometry each k part

-- The bay lent these disks, in order, and sectors read as before.
pub record HasLent {D : Type 0} (bay : BayAround D) (lent : List D) : Type 0 where
  pub loans : bay.loans' ≡ bay.loans ++ new_loans lent
  pub reads : SameReads bay.reads bay.reads'

-- A part was lent, or the bay didn't answer.
abbrev pub LendsPart : {D : Type 0} → Ghosts D → BayAround D → List ℕ → Geometry → ℕ → ℕ → Result D Refusal → Type 0
LendsPart disk bay origin geometry each k (Ok part) =
    IsPartLent disk bay.reads origin geometry each k part × HasLent bay (part ∷ []) × (bay.faults' ≡ bay.faults)
LendsPart disk bay origin geometry each k (Err refusal) = IsUnanswered bay refusal × LeavesBay bay

-- The first parts were lent.
pub record HasLentParts {D : Type 0} (disk : Ghosts D) (bay : BayAround D) (origin : List ℕ) (geometry : Geometry) (each : ℕ) (parts : List D) : Type 0 where
  pub each_lent : ArePartsLent disk bay.reads origin geometry each parts
  pub lent : HasLent bay parts

-- All parts were lent, or the bay didn't answer behind the first ones.
abbrev pub LendsParts : {D : Type 0} → Ghosts D → BayAround D → List ℕ → Geometry → Split → List D → Result Unit Refusal → Type 0
LendsParts disk bay origin geometry split parts (Ok value) =
    HasLentParts disk bay origin geometry split.each parts × (length parts ≡ split.count) × (bay.faults' ≡ bay.faults)
LendsParts disk bay origin geometry split parts (Err refusal) =
    HasLentParts disk bay origin geometry split.each parts × (length parts < split.count) × IsUnanswered bay refusal

-- The whole metadata device was lent, or the bay didn't answer.
abbrev pub LendsMetadata : {D : Type 0} → Ghosts D → BayAround D → List ℕ → Result D Refusal → Type 0
LendsMetadata disk bay name (Ok metadata) = IsMetadataLent disk bay name metadata × HasLent bay (metadata ∷ []) × (bay.faults' ≡ bay.faults)
LendsMetadata disk bay name (Err refusal) = IsUnanswered bay refusal × LeavesBay bay
