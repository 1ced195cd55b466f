-- What the opening of a durable session comes to: the session over what the bay lent, or the exact cause of a refusal, with what was done to each device until it was put back. A definition takes the members of the disk's trait, as `D.Disk`.
use Rattle.std.specs.Prelude.{◌≡◌, ◌≢◌, ◌⊎◌, ℕ, ◌<◌, ◌≤◌, List, [], ◌∷◌, ◌++◌, true, length, slice_get, Option, Some, None, Result, Ok, Err}
use Rattle.era_base.specs.Bay.{Loan, new_loan}
use Rattle.era_base.specs.Calls.{EachMoment}
use Rattle.era_base.specs.CrashModel.{SameBut}
use Rattle.era_base.specs.declared.disk.Disk.{Ghosts}
use Rattle.era_base.specs.declared.geometry.Geometry.{Geometry}
use Rattle.era_line.specs.declared.table_line.TableLine.{TableLine}
use Rattle.era_meta.specs.Starting.{Started, StartsSafely}
use Rattle.era_meta.specs.Trials.{start_trials}
use Rattle.era_meta.specs.declared.refusal.MetaError.{MetaError}
use Rattle.era_meta.specs.declared.refusal.MetaError.TheVariants.{Fault}
use Rattle.era_opening.specs.Lending.{ArePartsLent, HasLent, IsLargeEnough, IsSmall, IsUnanswered}
use Rattle.era_opening.specs.Loans.{ArePutBack, LieInOrder, LieWhereLent, ReadAsDisks, SameReadsBeside, loans_of, taken_of}
use Rattle.era_opening.specs.Splits.{IsSplit}
use Rattle.era_opening.specs.declared.splitting.Split.{Split}
use Rattle.era_session.specs.Openings.{AreSynced, FailsAtPart, IsPrepared, opening_of, stripe_disks}
use Rattle.era_session.specs.Sessions.{SessionFits, SessionStands}
use Rattle.era_session.specs.declared.preparing.PrepareError.{PrepareError}
use Rattle.era_session.specs.declared.preparing.PrepareError.TheVariants.{Data, Meta, Memory}
use Rattle.era_session.specs.declared.session.Session.{Session}
use Rattle.era_tools.specs.Around.{BayAround, LeavesBay}
use Rattle.era_tools.specs.BackupTool.{OnlyReads}
use Rattle.era_tools.specs.ClosedImages.{IsMetadataLent}
use Rattle.era_tools.specs.Needs.{AreGeometry, IsNoGeometry}
use Rattle.era_tools.specs.declared.refusal.Refusal.{Refusal}
use Rattle.era_tools.specs.declared.refusal.Refusal.TheVariants.{DataFault, Metadata, NoGeometry, NoRoom, OriginSmall, SameDevice}

-- The numbers of a table line are this geometry.
pub record HasGeometry (line : TableLine) (geometry : Geometry) : Type 0 where
  pub sectors : geometry.sectors ≡ line.length
  pub block_sectors : geometry.block_sectors ≡ line.block_sectors

-- What is found of a table line's numbers: the geometry that they are, or why they are none.
abbrev pub FindsGeometry : TableLine → Result Geometry Refusal → Type 0
FindsGeometry line (Ok geometry) = HasGeometry line geometry × AreGeometry line.length line.block_sectors
FindsGeometry line (Err (NoGeometry error size)) = (size ≡ line.block_sectors) × IsNoGeometry error line.length line.block_sectors
FindsGeometry line (Err refusal) = ⊥

-- The refusal for which a session isn't prepared.
abbrev pub prepare_refusal : PrepareError → Refusal
prepare_refusal (Data part count) = DataFault count
prepare_refusal (Meta error) = Metadata error
prepare_refusal Memory = NoRoom

-- The devices of a table line may be asked for: its numbers are a geometry, and they have two names.
pub record MayAsk (line : TableLine) : Type 0 where
  pub geometry : AreGeometry line.length line.block_sectors
  pub two : line.meta ≢ line.origin

-- The devices of a session, in the order in which they are lent and put back: the metadata disk, and the parts of its stripes.
abbrev pub session_disks : {D : Type 0} → Session D → List D
session_disks session = session.keeper.meta.slots.disk ∷ stripe_disks session

-- A session was opened over devices that were lent: it is prepared over them as they were lent, fits together, and stands in the opening of what its parts read as and of what its metadata stands for one era later. At each moment a crash leaves an image of an opening.
pub record IsReady {D : Type 0} (disk : Ghosts D) (geometry : Geometry) (metadata : D) (parts : List D) (session : Session D) : Type 0 where
  pub prepared : IsPrepared disk geometry metadata parts session
  pub safely : StartsSafely disk geometry metadata session.keeper.meta.slots.disk
  pub fits : SessionFits disk session
  pub stands : SessionStands disk (opening_of disk parts session) session

-- The refusal may come behind a write of the metadata: it is a fault of the metadata, or want of memory.
abbrev pub MayHaveWritten : Refusal → Type 0
MayHaveWritten (Metadata (Fault count)) = Unit {0}
MayHaveWritten NoRoom = Unit {0}
MayHaveWritten refusal = ⊥

-- Each part was at most synced and read: it reads as before at each moment, and has its place and size.
abbrev pub AreOnlyRead : {D : Type 0} → Ghosts D → List D → List D → Type 0
AreOnlyRead {D} disk parts parts' = (k : ℕ) (old new : D) → slice_get parts k ≡ Some old → slice_get parts' k ≡ Some new → OnlyReads disk old new

-- What a refused opening did to the devices that were lent: each part was at most synced and read, of the metadata disk a crash leaves an image of an opening at each moment, and nothing of it has changed unless the refusal may come behind a write.
pub record AreLeftSafe {D : Type 0} (disk : Ghosts D) (geometry : Geometry) (metadata : D) (parts : List D) (metadata' : D) (parts' : List D) (refusal : Refusal) : Type 0 where
  pub lie : LieWhereLent disk (metadata ∷ parts) (metadata' ∷ parts')
  pub only_read : AreOnlyRead disk parts parts'
  pub safely : StartsSafely disk geometry metadata metadata'
  pub unwritten : ¬ MayHaveWritten refusal → EachMoment disk (SameBut 0 0) metadata metadata'

-- All parts were synced, and the metadata disk was opened for serving, up to this end.
pub record AreOpenedBehind {D : Type 0} (disk : Ghosts D) (geometry : Geometry) (metadata : D) (parts : List D) (metadata' : D) (parts' : List D) (ended : Option MetaError) : Type 0 where
  pub synced : AreSynced disk parts parts'
  pub started : Started disk (start_trials geometry) metadata metadata' ended

-- Nothing was done to the devices.
pub record AreAsLent {D : Type 0} (metadata : D) (parts : List D) (metadata' : D) (parts' : List D) : Type 0 where
  pub first : metadata' ≡ metadata
  pub others : parts' ≡ parts

-- The sync of a part failed, with this count, which rose; the metadata disk is as it was lent.
pub record IsPartFault {D : Type 0} (disk : Ghosts D) (count : ℕ) (metadata : D) (parts : List D) (metadata' : D) (parts' : List D) : Type 0 where
  pub part : ℕ
  pub failed : FailsAtPart disk part count parts parts'
  pub untouched : metadata' ≡ metadata

-- The exact cause for which no session is prepared over all its devices: a part's sync failed; the metadata disk is refused behind the syncs of all parts; or memory was refused, before any call or behind the metadata's opening.
abbrev pub IsUnready : {D : Type 0} → Ghosts D → Geometry → D → List D → D → List D → Refusal → Type 0
IsUnready disk geometry metadata parts metadata' parts' (DataFault count) = IsPartFault disk count metadata parts metadata' parts'
IsUnready disk geometry metadata parts metadata' parts' (Metadata error) = AreOpenedBehind disk geometry metadata parts metadata' parts' (Some error)
IsUnready disk geometry metadata parts metadata' parts' NoRoom =
    AreAsLent metadata parts metadata' parts' ⊎ AreOpenedBehind disk geometry metadata parts metadata' parts' None
IsUnready disk geometry metadata parts metadata' parts' refusal = ⊥

-- A session over devices that were lent isn't prepared: what was done to them, and why.
pub record IsUnprepared {D : Type 0} (disk : Ghosts D) (geometry : Geometry) (metadata : D) (parts : List D) (metadata' : D) (parts' : List D) (refusal : Refusal) : Type 0 where
  pub safe : AreLeftSafe disk geometry metadata parts metadata' parts' refusal
  pub cause : IsUnready disk geometry metadata parts metadata' parts' refusal

-- A session was prepared over devices that were lent, and the bay is as before; or it isn't, and they were put back.
abbrev pub PreparesSession : {D : Type 0} → Ghosts D → BayAround D → Geometry → D → List D → Result (Session D) Refusal → Type 0
PreparesSession disk bay geometry metadata parts (Ok session) = IsReady disk geometry metadata parts session × LeavesBay bay × (bay.faults' ≡ bay.faults)
PreparesSession {D} disk bay geometry metadata parts (Err refusal) =
    (metadata' : D) × (parts' : List D) × IsUnprepared disk geometry metadata parts metadata' parts' refusal × ArePutBack disk bay (metadata' ∷ parts')

-- The bay didn't answer behind the first parts, or all parts were lent and no session is prepared over them.
abbrev pub IsUnfinished : {D : Type 0} → Ghosts D → BayAround D → Geometry → ℕ → D → List D → D → List D → Refusal → Type 0
IsUnfinished disk bay geometry count metadata parts metadata' parts' refusal =
    ((length parts < count) × IsUnanswered bay refusal × AreAsLent metadata parts metadata' parts')
    ⊎ ((length parts ≡ count) × (bay.faults' ≡ bay.faults) × IsUnready disk geometry metadata parts metadata' parts' refusal)

-- The metadata device was lent, and then these parts of the origin, each as it reads in the bay. They lie apart.
pub record AreLent {D : Type 0} (disk : Ghosts D) (bay : BayAround D) (line : TableLine) (geometry : Geometry) (split : Split) (metadata : D) (parts : List D) : Type 0 where
  pub first : IsMetadataLent disk bay line.meta metadata
  pub others : ArePartsLent disk bay.reads line.origin geometry split.each parts
  pub apart : LieInOrder disk (metadata ∷ parts)

-- There is room for all parts, and none is there.
pub record IsRoomFor {D : Type 0} (split : Split) (parts : List D) (capacity : ℕ) : Type 0 where
  pub none : parts ≡ []
  pub room : split.count ≤ capacity

-- A session was opened over the metadata device and all parts of the origin, which were lent for it: it is ready over them, and its disks lie where they were lent.
pub record IsOpenedOver {D : Type 0} (disk : Ghosts D) (geometry : Geometry) (split : Split) (metadata : D) (parts : List D) (session : Session D) : Type 0 where
  pub all : length parts ≡ split.count
  pub ready : IsReady disk geometry metadata parts session
  pub lie : LieWhereLent disk (metadata ∷ parts) (session_disks session)

-- No session was opened over the metadata device and the first parts of the origin, which were lent for it: why, and what was done to them. The bay reads as they do, and elsewhere as before.
pub record IsRefusedOver {D : Type 0} (disk : Ghosts D) (bay : BayAround D) (geometry : Geometry) (split : Split) (metadata : D) (parts : List D) (metadata' : D) (parts' : List D) (refusal : Refusal) : Type 0 where
  pub cause : IsUnfinished disk bay geometry split.count metadata parts metadata' parts' refusal
  pub safe : AreLeftSafe disk geometry metadata parts metadata' parts' refusal
  pub content : disk.tells ≡ true → ReadAsDisks disk (metadata' ∷ parts') bay.reads'
  pub others : SameReadsBeside disk (metadata' ∷ parts') bay.reads bay.reads'

-- The parts of the origin were lent behind the metadata device, and a session was opened.
pub record HasOpenedParts {D : Type 0} (disk : Ghosts D) (bay : BayAround D) (line : TableLine) (geometry : Geometry) (split : Split) (metadata : D) (session : Session D) : Type 0 where
  pub parts : List D
  pub are : ArePartsLent disk bay.reads line.origin geometry split.each parts
  pub apart : LieInOrder disk (metadata ∷ parts)
  pub lent : HasLent bay parts
  pub over : IsOpenedOver disk geometry split metadata parts session
  pub faults : bay.faults' ≡ bay.faults

-- The first parts of the origin were lent behind the metadata device, no session was opened, and all were put back.
pub record HasReturnedParts {D : Type 0} (disk : Ghosts D) (bay : BayAround D) (line : TableLine) (geometry : Geometry) (split : Split) (metadata : D) (refusal : Refusal) : Type 0 where
  pub parts : List D
  pub metadata' : D
  pub parts' : List D
  pub are : ArePartsLent disk bay.reads line.origin geometry split.each parts
  pub apart : LieInOrder disk (metadata ∷ parts)
  pub over : IsRefusedOver disk bay geometry split metadata parts metadata' parts' refusal
  pub loans : (before : List (Loan D)) → bay.loans ≡ before ++ new_loan metadata ∷ []
      → bay.loans' ≡ before ++ loans_of (taken_of (metadata ∷ parts) (metadata' ∷ parts'))

-- What the lending of parts behind the metadata device came to.
abbrev pub OpensParts : {D : Type 0} → Ghosts D → BayAround D → TableLine → Geometry → Split → D → Result (Session D) Refusal → Type 0
OpensParts disk bay line geometry split metadata (Ok session) = HasOpenedParts disk bay line geometry split metadata session
OpensParts disk bay line geometry split metadata (Err refusal) = HasReturnedParts disk bay line geometry split metadata refusal

-- The metadata device and all parts of the origin were lent, and nothing else, and a session was opened. Sectors read as before, and the bay didn't fail.
pub record HasOpenedLent {D : Type 0} (disk : Ghosts D) (bay : BayAround D) (line : TableLine) (geometry : Geometry) (split : Split) (session : Session D) : Type 0 where
  pub metadata : D
  pub parts : List D
  pub are : AreLent disk bay line geometry split metadata parts
  pub lent : HasLent bay (metadata ∷ parts)
  pub over : IsOpenedOver disk geometry split metadata parts session
  pub faults : bay.faults' ≡ bay.faults

-- The metadata device and the first parts of the origin were lent, and nothing else, and each was put back, in the order in which they were lent.
pub record HasReturnedLent {D : Type 0} (disk : Ghosts D) (bay : BayAround D) (line : TableLine) (geometry : Geometry) (split : Split) (refusal : Refusal) : Type 0 where
  pub metadata : D
  pub parts : List D
  pub metadata' : D
  pub parts' : List D
  pub are : AreLent disk bay line geometry split metadata parts
  pub over : IsRefusedOver disk bay geometry split metadata parts metadata' parts' refusal
  pub loans : bay.loans' ≡ bay.loans ++ loans_of (taken_of (metadata ∷ parts) (metadata' ∷ parts'))

-- What the lending of devices came to: a session was opened; or it isn't, and the bay didn't answer before any was lent, or all that were lent were put back.
abbrev pub OpensLent : {D : Type 0} → Ghosts D → BayAround D → TableLine → Geometry → Split → Result (Session D) Refusal → Type 0
OpensLent disk bay line geometry split (Ok session) = HasOpenedLent disk bay line geometry split session
OpensLent disk bay line geometry split (Err refusal) = (IsUnanswered bay refusal × LeavesBay bay) ⊎ HasReturnedLent disk bay line geometry split refusal

-- What an opening begins with: the line's numbers are this geometry, its names are two, the origin is as large as the line says, and this is how it is split.
pub record IsAsked {D : Type 0} (bay : BayAround D) (line : TableLine) (stripes : ℕ) (geometry : Geometry) (split : Split) : Type 0 where
  pub may : MayAsk line
  pub has : HasGeometry line geometry
  pub large : IsLargeEnough bay line
  pub is_split : IsSplit geometry stripes split

-- A session was opened over the devices of a table line.
pub record HasOpenedSession {D : Type 0} (disk : Ghosts D) (bay : BayAround D) (line : TableLine) (stripes : ℕ) (session : Session D) : Type 0 where
  pub geometry : Geometry
  pub split : Split
  pub asked : IsAsked bay line stripes geometry split
  pub opened : HasOpenedLent disk bay line geometry split session

-- An opening was refused behind the lending of devices of a table line, and they were put back.
pub record HasReturned {D : Type 0} (disk : Ghosts D) (bay : BayAround D) (line : TableLine) (stripes : ℕ) (refusal : Refusal) : Type 0 where
  pub geometry : Geometry
  pub split : Split
  pub asked : IsAsked bay line stripes geometry split
  pub returned : HasReturnedLent disk bay line geometry split refusal

-- The exact cause for which an opening was refused before any device was lent: the line's numbers are no geometry; its two names are one; the origin is smaller than the line says; the bay failed; or memory was refused.
abbrev pub IsUnlent : {D : Type 0} → BayAround D → TableLine → Refusal → Type 0
IsUnlent bay line (NoGeometry error size) = (size ≡ line.block_sectors) × IsNoGeometry error line.length line.block_sectors × (bay.faults' ≡ bay.faults)
IsUnlent bay line SameDevice = AreGeometry line.length line.block_sectors × (line.meta ≡ line.origin) × (bay.faults' ≡ bay.faults)
IsUnlent bay line (OriginSmall have need) = MayAsk line × IsSmall bay line have need
IsUnlent bay line refusal = MayAsk line × IsUnanswered bay refusal

-- An opening was refused: nothing was lent and the bay is as before, or what was lent was put back.
abbrev pub IsUnopened : {D : Type 0} → Ghosts D → BayAround D → TableLine → ℕ → Refusal → Type 0
IsUnopened disk bay line stripes refusal = (IsUnlent bay line refusal × LeavesBay bay) ⊎ HasReturned disk bay line stripes refusal

-- A session was opened over the devices of a table line, in at most so many stripes, or was refused.
abbrev pub OpensSession : {D : Type 0} → Ghosts D → BayAround D → TableLine → ℕ → Result (Session D) Refusal → Type 0
OpensSession disk bay line stripes (Ok session) = HasOpenedSession disk bay line stripes session
OpensSession disk bay line stripes (Err refusal) = IsUnopened disk bay line stripes refusal
