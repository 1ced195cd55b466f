-- The devices of a session, and how they follow its journal: at each place each device holds what a crash there may leave.
use Rattle.std.specs.Prelude.{◌≡◌, ℕ, ◌/◌, ◌<◌, ◌≤◌, Bool, false, List, [], ◌∷◌, length, slice_get, Option, Some, None, option_map, if◌then◌else◌}
use Rattle.era_base.specs.CrashModel.{IsCrashImage, Leaves, clock}
use Rattle.era_model.specs.declared.entry.Entry.{Entry}
use Rattle.era_model.specs.declared.event.Event.{Event}
use Rattle.era_model.specs.declared.event.Event.TheVariants.{Go, Done, Cut, Settle, Unsettled, Read, Refused}
use Rattle.era_model.specs.declared.event.Why.TheVariants.{DataFault}
use Rattle.era_model.specs.declared.history.Happening.{Happening}
use Rattle.era_model.specs.declared.history.Happening.TheVariants.{Opened, Happened, Crashed}
use Rattle.era_model.specs.declared.journal.Journal.{Journal}
use Rattle.era_model.specs.Changed.{IsCrashContent}
use Rattle.era_model.specs.CommandEvents.{written_stripe}
use Rattle.era_model.specs.Counts.{FaultyDisk, MetadataDisk, PartOf, same_disk}
use Rattle.era_model.specs.History.{at_opening, blocks_at, next_place, stripe_now}
use Rattle.era_model.specs.Journal.{history_at}
use Rattle.era_model.specs.Legal.{IsLegalJournal}
use Rattle.era_model.specs.Marks.{BlockMarks}
use Rattle.era_model.specs.Recovered.{IsDurableFrom, IsRecoveredFrom}
use Rattle.era_notes.specs.Logs.{noted_entries}
use Rattle.era_notes.specs.Parts.{Part, IsIn, bytes_in}
use Rattle.era_notes.specs.Windows.{AreOrdered, IsLeftAt, NotedDevice}

-- A range of the origin's blocks in a session, with its device.
pub record PartDevice : Type 0 where
  pub part : Part
  pub device : NotedDevice

-- The devices of a session: the parts of the origin in the order of their stripes, and the metadata disk.
pub record SessionDevices : Type 0 where
  pub parts : List PartDevice
  pub metadata : NotedDevice

-- The history of a journal's session at a place: the opening, and the entries below the place.
abbrev pub history_below : Journal → ℕ → List Happening
history_below journal place = history_at journal.opening journal.entries place

-- The history of a journal's session with all its entries.
abbrev pub whole_history : Journal → List Happening
whole_history journal = history_below journal (length journal.entries)

-- The disk at which an event is drawn after a history: of a write, of what becomes of it, of a read and of a refusal by a fault of a part, that part; of all others the metadata disk. None where the event names a write that the session didn't issue.
abbrev pub disk_of_event : List Happening → Event → Option FaultyDisk
disk_of_event h (Go id block era first bytes) = Some (PartOf (stripe_now h block))
disk_of_event h (Done id) = option_map PartOf (written_stripe h id)
disk_of_event h (Cut id faults) = option_map PartOf (written_stripe h id)
disk_of_event h (Settle by cut bytes) = option_map PartOf (written_stripe h cut)
disk_of_event h (Unsettled by cut faults) = option_map PartOf (written_stripe h cut)
disk_of_event h (Read id sector bytes) = Some (PartOf (stripe_now h (at_opening 0 (λ o. sector / o.geometry.block_sectors) h)))
disk_of_event h (Refused id kind (DataFault stripe count)) = Some (PartOf stripe)
disk_of_event h event = Some MetadataDisk

-- Whether a disk, if there is one, is this one.
abbrev pub is_disk : FaultyDisk → Option FaultyDisk → Bool
is_disk disk None = false
is_disk disk (Some other) = same_disk other disk

-- The entries of the present session that are drawn at a disk, the latest first.
abbrev pub entries_at : FaultyDisk → List Happening → List Entry
entries_at disk [] = []
entries_at disk (Opened opening ∷ earlier) = []
entries_at disk (Happened event ∷ earlier) =
    if is_disk disk (disk_of_event earlier event)
    then record { place = next_place earlier; event = event } ∷ entries_at disk earlier
    else entries_at disk earlier
entries_at disk (Crashed images ∷ earlier) = []

-- A device's notes are of the journal: they have the entries that are drawn at the disk and no others, with moments in order from the session's beginning on the device to its last one. So each window has a moment, and each moment is in a window.
pub record NotesAreOf (journal : Journal) (disk : FaultyDisk) (device : NotedDevice) : Type 0 where
  pub entries : noted_entries device.notes ≡ entries_at disk (whole_history journal)
  pub ordered : AreOrdered device.begun (clock device.history) (length journal.entries) device.notes

-- At a place each image that a crash leaves of the part is, block by block, something that a crash may leave of the journal's content there.
abbrev pub PartFollows : Journal → PartDevice → ℕ → Type 0
PartFollows journal one place =
    (image : List ℕ) → IsLeftAt one.device place image
    → (block : ℕ) → IsIn one.part block → IsCrashContent (history_below journal place) block (bytes_in one.part image block)

-- At a place each image that a crash leaves of the metadata disk stands for marks and a snapshot, and those that it stands for may be recovered from the journal there. What an image stands for is any relation.
pub record MetadataFollows (StandsFor : List ℕ → BlockMarks → Option BlockMarks → Type 0) (journal : Journal) (metadata : NotedDevice) (place : ℕ) : Type 0 where
  pub stands : (image : List ℕ) → IsLeftAt metadata place image → (m : BlockMarks) × (found : Option BlockMarks) × StandsFor image m found
  pub recovered : (image : List ℕ) (m : BlockMarks) (found : Option BlockMarks) → IsLeftAt metadata place image → StandsFor image m found
      → IsRecoveredFrom (history_below journal place) m found

-- The part is that of a stripe in a session.
abbrev pub IsPartAt : SessionDevices → ℕ → PartDevice → Type 0
IsPartAt devices stripe one = slice_get devices.parts stripe ≡ Some one

-- Each block of the origin lies in the part of its stripe.
abbrev pub PartsCover : Journal → SessionDevices → Type 0
PartsCover journal devices =
    (block : ℕ) → block < blocks_at journal.opening
    → (one : PartDevice) × IsPartAt devices (stripe_now (whole_history journal) block) one × IsIn one.part block

-- The devices of a session follow its journal, at each place of it: the journal is legal, the devices' notes are of it, and at each place each device holds what a crash there may leave.
pub record DevicesFollow (StandsFor : List ℕ → BlockMarks → Option BlockMarks → Type 0) (journal : Journal) (devices : SessionDevices) : Type 0 where
  pub legal : IsLegalJournal journal
  pub cover : PartsCover journal devices
  pub part_notes : (stripe : ℕ) (one : PartDevice) → IsPartAt devices stripe one → NotesAreOf journal (PartOf stripe) one.device
  pub metadata_notes : NotesAreOf journal MetadataDisk devices.metadata
  pub parts : (place stripe : ℕ) (one : PartDevice) → place ≤ length journal.entries → IsPartAt devices stripe one → PartFollows journal one place
  pub metadata : (place : ℕ) → place ≤ length journal.entries → MetadataFollows StandsFor journal devices.metadata place

-- As the metadata disk was put back, each image that a crash leaves of it stands for marks and a snapshot, and those that it stands for are durable by the whole journal.
pub record EndsDurable (StandsFor : List ℕ → BlockMarks → Option BlockMarks → Type 0) (journal : Journal) (metadata : NotedDevice) : Type 0 where
  pub stands : Leaves (λ image. (m : BlockMarks) × (found : Option BlockMarks) × StandsFor image m found) metadata.history.now
  pub durable : (image : List ℕ) (m : BlockMarks) (found : Option BlockMarks) → IsCrashImage metadata.history.now image → StandsFor image m found
      → IsDurableFrom (whole_history journal) m found
