-- What the owners of a session's devices have kept: each its own draws of one log, and what its device holds by them.
use Rattle.std.specs.Prelude.{◌≡◌, ℕ, ◌/◌, ◌<◌, ◌==◌, Bool, true, false, List, [], ◌∷◌, ◌++◌, length, Option, Some, if◌then◌else◌}
use Rattle.era_base.specs.CrashModel.{State, Leaves, clock}
use Rattle.era_model.specs.declared.entry.Entry.{Entry}
use Rattle.era_model.specs.declared.event.Event.{Event}
use Rattle.era_model.specs.declared.event.Event.TheVariants.{Tried, Read, Snap, Dropped, Digest, List as ListEvent, Refused, Status, Unsettled}
use Rattle.era_model.specs.declared.event.Why.TheVariants.{DataFault}
use Rattle.era_model.specs.declared.history.Happening.{Happening}
use Rattle.era_model.specs.declared.history.Happening.TheVariants.{Opened}
use Rattle.era_model.specs.declared.journal.Journal.{Journal}
use Rattle.era_model.specs.declared.opening.Opening.{Opening}
use Rattle.era_model.specs.Counts.{FaultyDisk, MetadataDisk, PartOf}
use Rattle.era_model.specs.History.{in_flight, stripe_now}
use Rattle.era_model.specs.Legal.{IsLegalJournal}
use Rattle.era_model.specs.Marks.{BlockMarks}
use Rattle.era_model.specs.Recovered.{IsRecoveredFrom}
use Rattle.era_model.specs.Writes.{is_cut}
use Rattle.era_notes.specs.Logs.{Draw, drawer_history, logged_history, noted_entries, own_entries}
use Rattle.era_notes.specs.Notes.{own_history}
use Rattle.era_notes.specs.OwnDraws.{AreOwnDraws, is_of_stripes}
use Rattle.era_notes.specs.Parts.{HoldsContent, IsIn}
use Rattle.era_notes.specs.Windows.{HoldsThrough, NotedDevice}
use Rattle.era_promise.specs.Sessions.{IsPartAt, PartDevice, PartsCover, SessionDevices, disk_of_event}

-- The entries of a log, the first of them first.
abbrev pub logged_entries : List Draw → List Entry
logged_entries [] = []
logged_entries (draw ∷ earlier) = logged_entries earlier ++ record { place = length earlier; event = draw.event } ∷ []

-- The stripe of a block in a session that opened so.
abbrev pub stripe_at : Opening → ℕ → ℕ
stripe_at opening block = stripe_now (Opened opening ∷ []) block

-- The disk of a drawer: of the keeper's number the metadata disk, of a stripe's number its part.
abbrev pub disk_of : ℕ → ℕ → FaultyDisk
disk_of keeper drawer = if drawer == keeper then MetadataDisk else PartOf drawer

-- Each draw is made by the owner of the disk at which its event is drawn.
abbrev pub AreDrawnByOwners : ℕ → Opening → List Draw → Type 0
AreDrawnByOwners keeper opening [] = Unit {0}
AreDrawnByOwners keeper opening (draw ∷ earlier) =
    (disk_of_event (logged_history opening earlier) draw.event ≡ Some (disk_of keeper draw.drawer)) × AreDrawnByOwners keeper opening earlier

-- What a stripe may draw: a read of one of its blocks, that a write of its own stays cut, a refusal by a fault of its own part, and that a write is issued, ends or is resolved.
abbrev pub IsStripesDraw : Opening → ℕ → List Happening → Event → Type 0
IsStripesDraw opening stripe own (Read id sector bytes) = stripe_at opening (sector / opening.geometry.block_sectors) ≡ stripe
IsStripesDraw opening stripe own (Unsettled by cut faults) = is_cut (in_flight own) cut ≡ true
IsStripesDraw opening stripe own (Refused id kind (DataFault other count)) = other ≡ stripe
IsStripesDraw opening stripe own event = is_of_stripes event ≡ true

-- The keeper's draw is no event of a stripe, and any other drawer's is one that its stripe may draw.
pub record IsOwnersDraw (keeper : ℕ) (opening : Opening) (drawer : ℕ) (own : List Happening) (event : Event) : Type 0 where
  pub keepers : (drawer == keeper) ≡ true → is_of_stripes event ≡ false
  pub stripes : (drawer == keeper) ≡ false → IsStripesDraw opening drawer own event

-- Each draw of a log is so.
abbrev pub AreOwnersDraws : ℕ → Opening → List Draw → Type 0
AreOwnersDraws keeper opening [] = Unit {0}
AreOwnersDraws keeper opening (draw ∷ earlier) =
    IsOwnersDraw keeper opening draw.drawer (drawer_history opening draw.drawer earlier) draw.event × AreOwnersDraws keeper opening earlier

-- A stripe has kept its part: it is of the stripe's blocks, has its notes, and at each moment between two entries holds the content by the entries that were drawn by then.
pub record KeepsPart (opening : Opening) (log : List Draw) (stripe : ℕ) (one : PartDevice) : Type 0 where
  pub of_stripe : (block : ℕ) → IsIn one.part block → stripe_at opening block ≡ stripe
  pub own : noted_entries one.device.notes ≡ own_entries stripe log
  pub through : HoldsThrough (λ notes. HoldsContent one.part (own_history opening notes)) one.device.history one.device.begun (clock one.device.history) one.device.notes

-- Whether all that the model asks of an event of the keeper is told by the keeper's own draws. Of a mark, a switch and an era that is kept something is told by the stripes' draws, or by the order of the command's own.
abbrev pub is_told_by_keeper : Event → Bool
is_told_by_keeper (Tried id block era) = true
is_told_by_keeper (Snap id block) = true
is_told_by_keeper (Dropped id) = true
is_told_by_keeper (Digest id era page) = true
is_told_by_keeper (ListEvent id since snap blocks) = true
is_told_by_keeper (Status id used total era held) = true
is_told_by_keeper (Refused id kind (DataFault stripe count)) = false
is_told_by_keeper (Refused id kind why) = true
is_told_by_keeper event = false

-- Each crash image stands for marks and a snapshot that may be recovered by a history.
abbrev pub LeavesMarks : (List ℕ → BlockMarks → Option BlockMarks → Type 0) → List Happening → State → Type 0
LeavesMarks StandsFor h state =
    Leaves (λ image. (m : BlockMarks) × (found : Option BlockMarks) × StandsFor image m found × IsRecoveredFrom h m found) state

-- The keeper has kept the metadata disk: it has its notes, and at each moment between two entries each image stands for marks that may be recovered by the entries that were drawn by then.
pub record KeepsMetadata (StandsFor : List ℕ → BlockMarks → Option BlockMarks → Type 0) (opening : Opening) (log : List Draw) (keeper : ℕ) (device : NotedDevice) : Type 0 where
  pub own : noted_entries device.notes ≡ own_entries keeper log
  pub through : HoldsThrough (λ notes. LeavesMarks StandsFor (own_history opening notes)) device.history device.begun (clock device.history) device.notes

-- The owners of a session's devices have kept them: the journal is that of the log and legal, each draw is its owner's, and each owner has kept its device.
pub record OwnersKeep (StandsFor : List ℕ → BlockMarks → Option BlockMarks → Type 0) (journal : Journal) (devices : SessionDevices) (keeper : ℕ) (log : List Draw) : Type 0 where
  pub legal : IsLegalJournal journal
  pub entries : journal.entries ≡ logged_entries log
  pub owns : AreOwnDraws journal.opening (stripe_at journal.opening) log
  pub draws : AreOwnersDraws keeper journal.opening log
  pub cover : PartsCover journal devices
  pub parts : (stripe : ℕ) (one : PartDevice) → IsPartAt devices stripe one → (stripe < keeper) × KeepsPart journal.opening log stripe one
  pub metadata : KeepsMetadata StandsFor journal.opening log keeper devices.metadata
