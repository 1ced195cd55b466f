-- Calls in a row on the same devices, each with its crash or its end: sessions that were served up to a place, and openings that were refused or cut off.
use Rattle.std.specs.Prelude.{◌≡◌, ◌≢◌, ◌⊎◌, ℕ, ◌≤◌, List, [], ◌∷◌, length, take, Option}
use Rattle.era_base.specs.CrashModel.{State, IsCrashImage, Leaves}
use Rattle.era_base.specs.declared.geometry.Geometry.{Geometry}
use Rattle.era_model.specs.declared.history.Happening.{Happening}
use Rattle.era_model.specs.declared.history.Happening.TheVariants.{Opened, Crashed}
use Rattle.era_model.specs.declared.history.Images.{Images}
use Rattle.era_model.specs.declared.journal.Journal.{Journal}
use Rattle.era_model.specs.declared.opening.Opening.{Opening}
use Rattle.era_model.specs.Journal.{history_after}
use Rattle.era_model.specs.Legal.{IsLegal}
use Rattle.era_model.specs.Marks.{BlockMarks}
use Rattle.era_model.specs.Writes.{block_bytes}
use Rattle.era_notes.specs.Windows.{IsLeftAt}
use Rattle.era_promise.specs.Openings.{IsImageOfOpening, IsOpenedOn}
use Rattle.era_promise.specs.Sessions.{DevicesFollow, IsPartAt, PartDevice, SessionDevices}
use Rattle.era_promise.specs.Survival.{LeavesBlocks, ListsRight}

-- The disks between two calls: the whole origin, and the metadata disk. After a crash nothing is pending; after an end without a crash some sectors may be.
pub record Disks : Type 0 where
  pub origin : State
  pub metadata : State

-- What a call came to: its opening was refused or cut off by a crash, or a session was served up to a place of its journal, at which it crashed or ended.
pub data Outcome : Type 0 where
  not_opened : Outcome
  served : Journal → SessionDevices → ℕ → Outcome

-- A call, and how it left the disks.
pub record EndedCall : Type 0 where
  pub outcome : Outcome
  pub disks : Disks

-- The bytes of a block in an image of the origin.
abbrev pub blocks_in : Geometry → List ℕ → ℕ → List ℕ
blocks_in g image block = block_bytes g.block_sectors image block

-- An opening that wasn't finished has written nothing of the origin, and the metadata disk is as it was, or as an opening may leave it.
pub record EndsUnopened (StandsFor : List ℕ → BlockMarks → Option BlockMarks → Type 0) (IsBlank : List ℕ → Type 0) (g : Geometry) (before after : Disks) : Type 0 where
  pub origin : Leaves (IsCrashImage before.origin) after.origin
  pub metadata : Leaves (λ image. IsCrashImage before.metadata image ⊎ IsImageOfOpening StandsFor IsBlank g before.metadata.seen image) after.metadata

-- A session opened on the disks as they read, its devices followed its journal, and each image of the disks that it left is one of its devices at the place: of the origin one of each part, and one of the metadata disk.
pub record EndsSession (StandsFor : List ℕ → BlockMarks → Option BlockMarks → Type 0) (IsBlank : List ℕ → Type 0) (g : Geometry) (total : ℕ) (before : Disks) (journal : Journal) (devices : SessionDevices) (place : ℕ) (after : Disks) : Type 0 where
  pub opened : IsOpenedOn StandsFor IsBlank g before.metadata.seen before.origin.seen total journal.opening.stripes journal.opening
  pub follow : DevicesFollow StandsFor journal devices
  pub within : place ≤ length journal.entries
  pub size : length after.origin.seen ≡ length before.origin.seen
  pub origin : Leaves (λ image. (stripe : ℕ) (one : PartDevice) → IsPartAt devices stripe one → LeavesBlocks one place (blocks_in g image)) after.origin
  pub metadata : Leaves (IsLeftAt devices.metadata place) after.metadata

-- How a call on the disks left them, by what it came to.
abbrev pub LeavesBy : (List ℕ → BlockMarks → Option BlockMarks → Type 0) → (List ℕ → Type 0) → Geometry → ℕ → Disks → Outcome → Disks → Type 0
LeavesBy StandsFor IsBlank g total before not_opened after = EndsUnopened StandsFor IsBlank g before after
LeavesBy StandsFor IsBlank g total before (served journal devices place) after = EndsSession StandsFor IsBlank g total before journal devices place after

-- The disks after calls, the latest first, that began on others.
abbrev pub disks_after : Disks → List EndedCall → Disks
disks_after first [] = first
disks_after first (call ∷ earlier) = call.disks

-- Calls in a row, the latest first: each left the disks by what it came to, from how the one before left them.
abbrev pub AreCalls : (List ℕ → BlockMarks → Option BlockMarks → Type 0) → (List ℕ → Type 0) → Geometry → ℕ → Disks → List EndedCall → Type 0
AreCalls StandsFor IsBlank g total first [] = Unit {0}
AreCalls StandsFor IsBlank g total first (call ∷ earlier) =
    LeavesBy StandsFor IsBlank g total (disks_after first earlier) call.outcome call.disks × AreCalls StandsFor IsBlank g total first earlier

-- A history goes on behind a crash, if anything happened.
abbrev pub IsClosed : List Happening → List Happening → Type 0
IsClosed [] closed = closed ≡ []
IsClosed (happening ∷ earlier) closed = (images : Images) × (closed ≡ Crashed images ∷ happening ∷ earlier)

-- A session that has no entry, behind sessions before it.
abbrev pub IsOpenedBehind : List Happening → List Happening → Type 0
IsOpenedBehind before h = (before ≢ []) × (images : Images) × (opening : Opening) × (h ≡ Opened opening ∷ Crashed images ∷ before)

-- A history goes on from the one before by what a call came to.
abbrev pub GoesOn : Outcome → List Happening → List Happening → Type 0
GoesOn not_opened before h = (h ≡ before) ⊎ IsOpenedBehind before h
GoesOn (served journal devices place) before h =
    (closed : List Happening) × IsClosed before closed × (h ≡ history_after (Opened journal.opening ∷ closed) (take place journal.entries))

-- The history of calls: of the sessions that were served, each up to its place; an opening that wasn't finished is a session without entries where the next one finds its era switch, and else it is passed over. Before the first session nothing has happened.
abbrev pub IsHistoryOf : List EndedCall → List Happening → Type 0
IsHistoryOf [] h = h ≡ []
IsHistoryOf (call ∷ earlier) h = (before : List Happening) × IsHistoryOf earlier before × GoesOn call.outcome before h

-- Since an era, the marks that are found after calls, with an image of the origin, list right by a legal history of these calls; and where no session was served, the origin is as it was before them.
pub record ListsCalls (g : Geometry) (first : Disks) (calls : List EndedCall) (origin : List ℕ) (m : BlockMarks) (era : ℕ) : Type 0 where
  pub history : List Happening
  pub of : IsHistoryOf calls history
  pub legal : IsLegal history
  pub lists : history ≢ [] → ListsRight history (blocks_in g origin) m era
  pub unserved : history ≡ [] → IsCrashImage first.origin origin

-- After calls in a row, the marks that are found on the disks list right since each era.
abbrev pub SurvivesCalls : (List ℕ → BlockMarks → Option BlockMarks → Type 0) → Geometry → Disks → List EndedCall → Type 0
SurvivesCalls StandsFor g first calls =
    (origin metadata : List ℕ) (m : BlockMarks) (found : Option BlockMarks) (era : ℕ)
    → IsCrashImage (disks_after first calls).origin origin → IsCrashImage (disks_after first calls).metadata metadata → StandsFor metadata m found
    → ListsCalls g first calls origin m era
