-- Legal histories: each happening meets its conditions at its own place.
use Rattle.std.specs.Prelude.{◌≡◌, ℕ, ◌≤◌, true, false, List, [], ◌∷◌, length, is_some, None}
use Rattle.era_base.specs.declared.ids.CmdId.{CmdId}
use Rattle.era_base.specs.declared.limits.TheConstants.{LAST_ERA, MOST_STRIPES}
use Rattle.era_model.specs.declared.event.Event.{Event}
use Rattle.era_model.specs.declared.event.Event.TheVariants.{Tried, Mark, Go, Done, Cut, Settle, Unsettled, Read, Roll, Kept, Snap, Dropped, Digest, List as ListEvent, Status, Refused}
use Rattle.era_model.specs.declared.event.Kind.{Kind}
use Rattle.era_model.specs.declared.event.Kind.TheVariants.{Write as WriteKind, Read as ReadKind, Checkpoint as CheckpointKind, TakeSnap as TakeSnapKind, DropSnap as DropSnapKind, Digest as DigestKind, Status as StatusKind, List as ListKind}
use Rattle.era_model.specs.declared.event.Why.{Why}
use Rattle.era_model.specs.declared.event.Why.TheVariants.{DataFault, MetaFault, End, Held, NoSnap, Idle, Memory}
use Rattle.era_model.specs.declared.history.Happening.{Happening}
use Rattle.era_model.specs.declared.history.Happening.TheVariants.{Opened, Happened, Crashed}
use Rattle.era_model.specs.declared.journal.Journal.{Journal}
use Rattle.era_model.specs.declared.opening.Opening.{Opening}
use Rattle.era_model.specs.Counts.{CountAscends, MetadataDisk, PartOf}
use Rattle.era_model.specs.Crashes.{MayCrash, IsReopening}
use Rattle.era_model.specs.Events.{is_switch_of, is_request_of}
use Rattle.era_model.specs.History.{era_of, is_open}
use Rattle.era_model.specs.Journal.{AreNumberedFrom, history_at}
use Rattle.era_model.specs.Conditions.{MayTry, MayMark, MayGo, MayFinish, MayBeCut, MaySettle, MayStayCut, MayRead, MaySwitch, MayKeep, MaySnap, MayDrop, MayDigest, MayList, MayTell}
use Rattle.era_model.specs.Marking.{marks_of, held_of, some_event, era_is_volatile}
use Rattle.era_model.specs.Validity.{AreValidMarks, IsValidSnapshot}

-- A fault of the metadata disk that comes only where the present era stands in memory alone: that of a list, of a status, of a checkpoint that has not switched the era, and of a write that has not asked for a mark.
abbrev pub NeedsVolatileEra : List Happening → CmdId → Kind → Type 0
NeedsVolatileEra h id WriteKind = some_event h (is_request_of id) ≡ false → era_is_volatile h ≡ true
NeedsVolatileEra h id ReadKind = Unit {0}
NeedsVolatileEra h id CheckpointKind = some_event h (is_switch_of id) ≡ false → era_is_volatile h ≡ true
NeedsVolatileEra h id TakeSnapKind = Unit {0}
NeedsVolatileEra h id DropSnapKind = Unit {0}
NeedsVolatileEra h id DigestKind = Unit {0}
NeedsVolatileEra h id StatusKind = era_is_volatile h ≡ true
NeedsVolatileEra h id ListKind = era_is_volatile h ≡ true

-- A command may be told that the metadata disk failed: the disk's count rose, and some commands are told so only where the present era stands in memory alone.
pub record MayFailAtMetadata (h : List Happening) (id : CmdId) (kind : Kind) (count : ℕ) : Type 0 where
  pub rose : CountAscends h MetadataDisk count
  pub cause : NeedsVolatileEra h id kind

-- A taking may be refused where a snapshot is held, at metadata block 2.
pub record MayRefuseHeld (h : List Happening) (block : ℕ) : Type 0 where
  pub block_two : block ≡ 2
  pub held : is_some (held_of h) ≡ true

-- A command may be refused for the reason.
abbrev pub MayRefuse : List Happening → CmdId → Kind → Why → Type 0
MayRefuse h id kind (DataFault stripe count) = CountAscends h (PartOf stripe) count
MayRefuse h id kind (MetaFault count) = MayFailAtMetadata h id kind count
MayRefuse h id kind End = era_of h ≡ LAST_ERA
MayRefuse h id kind (Held block) = MayRefuseHeld h block
MayRefuse h id kind NoSnap = held_of h ≡ None
MayRefuse h id kind Idle = (marks_of h).archive ≡ []
MayRefuse h id kind Memory = kind ≡ ListKind

-- The event may happen next.
abbrev pub MayHappen : List Happening → Event → Type 0
MayHappen h (Tried id block era) = MayTry h block era
MayHappen h (Mark id block era) = MayMark h id block era
MayHappen h (Go id block era first bytes) = MayGo h id block era first bytes
MayHappen h (Done id) = MayFinish h id
MayHappen h (Cut id faults) = MayBeCut h id faults
MayHappen h (Settle by cut bytes) = MaySettle h cut bytes
MayHappen h (Unsettled by cut faults) = MayStayCut h cut faults
MayHappen h (Read id sector bytes) = MayRead h sector bytes
MayHappen h (Roll id era) = MaySwitch h era
MayHappen h (Kept id inside) = MayKeep h inside
MayHappen h (Snap id block) = MaySnap h block
MayHappen h (Dropped id) = MayDrop h
MayHappen h (Digest id era page) = MayDigest h era page
MayHappen h (ListEvent id since snap blocks) = MayList h since snap blocks
MayHappen h (Status id used total era held) = MayTell h used total era held
MayHappen h (Refused id kind why) = MayRefuse h id kind why

-- A first session may open so: valid marks of the opening's geometry and era, a valid snapshot or none, and from 1 to 16 stripes.
pub record IsOpening (opening : Opening) : Type 0 where
  pub valid : AreValidMarks opening.marks
  pub sectors : opening.marks.sectors ≡ opening.geometry.sectors
  pub block_sectors : opening.marks.block_sectors ≡ opening.geometry.block_sectors
  pub era : opening.era ≡ opening.marks.era
  pub held : IsValidSnapshot opening.held
  pub some_stripe : 1 ≤ opening.stripes
  pub few_stripes : opening.stripes ≤ MOST_STRIPES

-- A session may open after what happened before: as the first one, or on the images that a crash left.
abbrev pub MayOpen : List Happening → Opening → Type 0
MayOpen [] opening = IsOpening opening
MayOpen (Opened before ∷ earlier) opening = ⊥
MayOpen (Happened event ∷ earlier) opening = ⊥
MayOpen (Crashed images ∷ earlier) opening = IsReopening earlier images opening

-- Each happening may happen after what stands before it.
abbrev pub IsLegal : List Happening → Type 0
IsLegal [] = Unit {0}
IsLegal (Opened opening ∷ earlier) = MayOpen earlier opening × IsLegal earlier
IsLegal (Happened event ∷ earlier) = (is_open earlier ≡ true) × MayHappen earlier event × IsLegal earlier
IsLegal (Crashed images ∷ earlier) = (is_open earlier ≡ true) × MayCrash earlier images × IsLegal earlier

-- A journal is legal: its entries are numbered from 0, and its history is legal.
pub record IsLegalJournal (journal : Journal) : Type 0 where
  pub numbered : AreNumberedFrom 0 journal.entries
  pub legal : IsLegal (history_at journal.opening journal.entries (length journal.entries))
