-- Counts of faults that events tell: those of one disk ascend, above the disk's count at the opening and not above its count now. A disk is the metadata disk, or the part of the origin that is a stripe.
use Rattle.std.specs.Prelude.{ℕ, ◌==◌, ◌≤◌, Bool, true, false, List, [], ◌∷◌, Option, Some, None, option_map, if◌then◌else◌}
use Rattle.era_base.specs.Faults.{Rose}
use Rattle.era_model.specs.declared.event.Event.{Event}
use Rattle.era_model.specs.declared.event.Event.TheVariants.{Cut, Unsettled, Refused}
use Rattle.era_model.specs.declared.event.Why.TheVariants.{DataFault, MetaFault}
use Rattle.era_model.specs.declared.history.Happening.{Happening}
use Rattle.era_model.specs.declared.history.Happening.TheVariants.{Opened, Happened, Crashed}
use Rattle.era_model.specs.CommandEvents.{written_stripe}

-- A disk of a session: the metadata disk, or the part of a stripe.
pub data FaultyDisk : Type 0 where
  MetadataDisk : FaultyDisk
  PartOf : (stripe : ℕ) → FaultyDisk

-- Whether two disks are the same one.
abbrev pub same_disk : FaultyDisk → FaultyDisk → Bool
same_disk MetadataDisk MetadataDisk = true
same_disk (PartOf stripe) (PartOf other) = stripe == other
same_disk first second = false

-- A fault: the disk that failed, and its count.
abbrev pub Fault : Type 0
Fault = FaultyDisk × ℕ

-- The fault of a stripe's part, where the stripe is known.
abbrev pub part_fault : ℕ → Option ℕ → Option Fault
part_fault count stripe = option_map (λ known. (PartOf known, count)) stripe

-- The fault that an event tells, or none. A write that is cut, or stays cut, is one of its own stripe.
abbrev pub fault_of : List Happening → Event → Option Fault
fault_of h (Cut id faults) = part_fault faults (written_stripe h id)
fault_of h (Unsettled by cut faults) = part_fault faults (written_stripe h cut)
fault_of h (Refused id kind (DataFault stripe count)) = Some (PartOf stripe, count)
fault_of h (Refused id kind (MetaFault count)) = Some (MetadataDisk, count)
fault_of h event = None

-- The count of a fault, where it is one of the disk, else what was told before.
abbrev pub count_of_fault : FaultyDisk → Option Fault → Option ℕ → Option ℕ
count_of_fault disk None before = before
count_of_fault disk (Some fault) before = if same_disk fault.0 disk then Some fault.1 else before

-- The last count of the disk that the session told, or none.
abbrev pub last_count : List Happening → FaultyDisk → Option ℕ
last_count [] disk = None
last_count (Opened opening ∷ earlier) disk = None
last_count (Happened event ∷ earlier) disk = count_of_fault disk (fault_of earlier event) (last_count earlier disk)
last_count (Crashed images ∷ earlier) disk = None

-- The count is above an earlier one, where there is one.
abbrev pub RoseFrom : Option ℕ → ℕ → Type 0
RoseFrom None count = Unit {0}
RoseFrom (Some before) count = Rose before count

-- The count of a disk is above the last one that the session told.
abbrev pub CountAscends : List Happening → FaultyDisk → ℕ → Type 0
CountAscends h disk count = RoseFrom (last_count h disk) count

-- The count of a stripe's part, where the stripe is known, is above the last one that the session told.
abbrev pub PartCountAscends : List Happening → Option ℕ → ℕ → Type 0
PartCountAscends h None count = ⊥
PartCountAscends h (Some stripe) count = CountAscends h (PartOf stripe) count

-- A count is above that of its disk at the opening, and not above that now.
abbrev pub IsCountWithin : (FaultyDisk → ℕ) → (FaultyDisk → ℕ) → Option Fault → Type 0
IsCountWithin at_opening now None = Unit {0}
IsCountWithin at_opening now (Some fault) = Rose (at_opening fault.0) fault.1 × (fault.1 ≤ now fault.0)

-- Each count that the session told is above that of its disk at the opening, and not above that now.
abbrev pub CountsAreWithin : (FaultyDisk → ℕ) → (FaultyDisk → ℕ) → List Happening → Type 0
CountsAreWithin at_opening now [] = Unit {0}
CountsAreWithin at_opening now (Opened opening ∷ earlier) = Unit {0}
CountsAreWithin at_opening now (Happened event ∷ earlier) =
    IsCountWithin at_opening now (fault_of earlier event) × CountsAreWithin at_opening now earlier
CountsAreWithin at_opening now (Crashed images ∷ earlier) = Unit {0}
