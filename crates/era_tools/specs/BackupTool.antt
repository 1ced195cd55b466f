-- What a backup of an origin does and tells. A definition takes the members of the disk's trait, as `D.Disk`.
use Rattle.std.specs.Prelude.{◌≡◌, ◌⊎◌, ◌<◌, ◌*◌, ℕ, List, [], ◌∷◌, ◌++◌, true, Option, Some, None, Result, Ok, Err, IsErrOf}
use Rattle.era_base.specs.Bay.{ended_loan, new_loan, ReadsAs, SameReads, SameReadsBut}
use Rattle.era_base.specs.Bytes.{part}
use Rattle.era_base.specs.Calls.{EachMoment, Now, SameDisk}
use Rattle.era_base.specs.CrashModel.{IsClean, SameBut}
use Rattle.era_base.specs.Faults.{Rose}
use Rattle.era_base.specs.Streams.{GivesFront}
use Rattle.era_base.specs.declared.disk.Disk.{Ghosts}
use Rattle.era_line.specs.TextBuffer.{Adds, Gathers}
use Rattle.era_line.specs.declared.text_buffer.TextBuffer.{TextBuffer}
use Rattle.era_meta.specs.Meaning.{Meaning, IsImageOf}
use Rattle.era_tools.specs.declared.copy_error.CopyError.{CopyError}
use Rattle.era_tools.specs.declared.copy_error.CopyError.TheVariants.{Origin, Output}
use Rattle.era_tools.specs.declared.listing.Listing.{Listing}
use Rattle.era_tools.specs.declared.refusal.Refusal.{Refusal}
use Rattle.era_tools.specs.declared.refusal.Refusal.TheVariants.{SameDevice, OriginSmall, BayFault, DataFault, NoRoom}
use Rattle.era_tools.specs.declared.status.Status.{Status}
use Rattle.era_tools.specs.declared.status.Status.TheVariants.{Sink}
use Rattle.era_tools.specs.Around.{BayAround, Between, KeepsReads, LeavesBay, behind, lending}
use Rattle.era_tools.specs.BackupText.{BlockCopy, HaveBytes, IsListing, ReachesIn, backup_status, backup_text, blocks_of_copies, copy_line, copy_lines}
use Rattle.era_tools.specs.ClosedImages.{HasTried, IsUnopened}
use Rattle.era_tools.specs.Printing.{Prints}
use Rattle.era_tools.specs.Refusals.{refusal_status, refusal_text}

-- An image was lent, looked at and put back, and this is what it stands for.
pub record HasLooked {D : Type 0} (disk : Ghosts D) (bay : BayAround D) (name : List ℕ) (meaning : Meaning) : Type 0 where
  pub lent : D
  pub tried : HasTried disk bay name lent None
  pub stands : disk.tells ≡ true → IsImageOf meaning (disk.history lent).now.seen

-- The exact cause for which an image isn't listed: its device isn't opened; or memory for the list was refused once it was.
abbrev pub IsUnlisted : {D : Type 0} → Ghosts D → BayAround D → List ℕ → Refusal → Type 0
IsUnlisted disk bay name refusal = IsUnopened disk bay name refusal ⊎ ((refusal ≡ NoRoom) × (meaning : Meaning) × HasLooked disk bay name meaning)

-- An image was listed, or isn't for this cause.
abbrev pub ListsImage : {D : Type 0} → Ghosts D → BayAround D → List ℕ → ℕ → Result Listing Refusal → Type 0
ListsImage disk bay name since (Ok listing) = (meaning : Meaning) × HasLooked disk bay name meaning × IsListing meaning.marks since listing
ListsImage disk bay name since (Err refusal) = IsUnlisted disk bay name refusal

-- The sectors of an origin were lent from its first one on, as they read.
pub record IsOriginLent {D : Type 0} (disk : Ghosts D) (bay : BayAround D) (name : List ℕ) (sectors : ℕ) (lent : D) : Type 0 where
  pub place : disk.place lent ≡ record { device = name; first = 0 }
  pub size : disk.sectors lent ≡ sectors
  pub content : disk.tells ≡ true → ReadsAs bay.reads name 0 sectors (disk.history lent).now

-- An origin was lent, and its loan is the last one.
pub record HasLentOrigin {D : Type 0} (disk : Ghosts D) (bay : BayAround D) (name : List ℕ) (sectors : ℕ) (lent : D) : Type 0 where
  pub taken : IsOriginLent disk bay name sectors lent
  pub loans : bay.loans' ≡ bay.loans ++ new_loan lent ∷ []
  pub reads : SameReads bay.reads bay.reads'
  pub faults : bay.faults' ≡ bay.faults

-- The exact cause for which an origin of so many sectors isn't lent: the bay failed, memory was refused there, or it has fewer sectors.
abbrev pub IsOriginCause : {D : Type 0} → BayAround D → List ℕ → ℕ → Refusal → Type 0
IsOriginCause bay name sectors (BayFault count) = (count ≡ bay.faults') × Rose bay.faults bay.faults'
IsOriginCause bay name sectors NoRoom = bay.faults' ≡ bay.faults
IsOriginCause bay name sectors (OriginSmall have need) = (bay.sizes name ≡ Some have) × (need ≡ sectors) × (have < sectors) × (bay.faults' ≡ bay.faults)
IsOriginCause bay name sectors refusal = ⊥

-- An origin was lent, or wasn't for this cause, and the bay is as before.
abbrev pub LendsOrigin : {D : Type 0} → Ghosts D → BayAround D → List ℕ → ℕ → Result D Refusal → Type 0
LendsOrigin disk bay name sectors (Ok lent) = HasLentOrigin disk bay name sectors lent
LendsOrigin disk bay name sectors (Err refusal) = LeavesBay bay × IsOriginCause bay name sectors refusal

-- The origin's count of faults rose and is told, or is as before.
abbrev pub HasCopyCause : {T : Type 0} → ℕ → ℕ → Result T CopyError → Type 0
HasCopyCause before now (Err (Origin count)) = (count ≡ now) × Rose before now
HasCopyCause before now ended = now ≡ before

-- A text went on by these bytes; or the sink failed, and was given a front of the text and of these bytes.
abbrev pub AddsUntil : {T : Type 0} → Result T CopyError → Option (List ℕ) → TextBuffer → Option (List ℕ) → TextBuffer → List ℕ → Type 0
AddsUntil (Err Output) given text given' text' bytes = Adds {T = Unit {0}} {E = CopyError} given text given' text' bytes (Err Output)
AddsUntil ended given text given' text' bytes = Adds {T = Unit {0}} {E = CopyError} given text given' text' bytes (Ok tt)

-- The bytes that were read from a sector on, where they were.
abbrev pub IsReadAt : {T D : Type 0} → Ghosts D → ℕ → ℕ → D → Result T CopyError → List ℕ → Type 0
IsReadAt disk first count old (Err (Origin faults)) bytes = Unit {0}
IsReadAt disk first count old ended bytes = disk.tells ≡ true → bytes ≡ part (first * 512) count (disk.history old).now.seen

-- The line of a block, where it was read.
abbrev pub lines_until : {T : Type 0} → Result T CopyError → BlockCopy → List ℕ
lines_until (Err (Origin faults)) copy = []
lines_until ended copy = copy_line copy

-- Listed blocks were read of a disk, up to this end, and their lines were added to a text. Nothing else was done to the disk.
pub record CopiesBlocks {T D : Type 0} (disk : Ghosts D) (sectors block_sectors : ℕ) (listed : List ℕ) (old new : D) (given given' : Option (List ℕ)) (text text' : TextBuffer) (ended : Result T CopyError) : Type 0 where
  pub copies : List BlockCopy
  pub reached : ReachesIn listed ended (blocks_of_copies copies)
  pub bytes : disk.tells ≡ true → HaveBytes sectors block_sectors (disk.history old).now.seen copies
  pub added : AddsUntil ended given text given' text' (copy_lines copies)
  pub moments : EachMoment disk (SameBut 0 0) old new
  pub same : SameDisk disk old new
  pub cause : HasCopyCause (disk.faults old) (disk.faults new) ended

-- The bytes of one block from this sector on were read of a disk, and its line was added to a text; or this ended so.
pub record CopiesSectors {T D : Type 0} (disk : Ghosts D) (block first count : ℕ) (old new : D) (given given' : Option (List ℕ)) (text text' : TextBuffer) (ended : Result T CopyError) : Type 0 where
  pub bytes : List ℕ
  pub read : IsReadAt disk first count old ended bytes
  pub added : AddsUntil ended given text given' text' (lines_until ended (record { block = block; bytes = bytes }))
  pub moments : EachMoment disk (SameBut 0 0) old new
  pub same : SameDisk disk old new
  pub cause : HasCopyCause (disk.faults old) (disk.faults new) ended

-- The sink's count of faults rose exactly where a copying ended by its failure.
pub record HasOutputCause {T : Type 0} (before now : ℕ) (ended : Result T CopyError) : Type 0 where
  pub rose : IsErrOf ended Output → Rose before now
  pub kept : (IsErrOf ended Output → ⊥) → now ≡ before

-- A text went on by a line, and what is held was given: it ends so. Or the sink failed, and was given a front of it.
abbrev pub EndsText : Option (List ℕ) → TextBuffer → Option (List ℕ) → List ℕ → Status → Status → Type 0
EndsText given text given' line ended result =
    ((result ≡ ended) × ((before all : List ℕ) → Gathers before all given text → given' ≡ Some (before ++ (all ++ line))))
    ⊎ ((result ≡ Sink) × ((before all : List ℕ) → Gathers before all given text → GivesFront before (all ++ line) given'))

-- The text of a backup was given, up to this end: the listed blocks, with the bytes that the disk reads as.
pub record PrintsCopies {D : Type 0} (disk : Ghosts D) (listing : Listing) (since : ℕ) (old new : D) (given given' : Option (List ℕ)) (result : Status) : Type 0 where
  pub copies : List BlockCopy
  pub ended : Result (Unit {0}) CopyError
  pub reached : ReachesIn listing.blocks.items ended (blocks_of_copies copies)
  pub bytes : disk.tells ≡ true → HaveBytes listing.geometry.sectors listing.geometry.block_sectors (disk.history old).now.seen copies
  pub cause : HasCopyCause (disk.faults old) (disk.faults new) ended
  pub printed : Prints given given' (backup_text listing since copies ended) (backup_status ended) result

-- The exact cause for which nothing of an origin was read: its sync failed, or memory for a block was refused before.
abbrev pub IsUncopied : {D : Type 0} → Ghosts D → D → D → Refusal → Type 0
IsUncopied disk old new (DataFault count) = (count ≡ disk.faults new) × Rose (disk.faults old) (disk.faults new)
IsUncopied disk old new NoRoom = new ≡ old
IsUncopied disk old new refusal = ⊥

-- It was told why nothing of an origin was read.
pub record TellsUncopied {D : Type 0} (disk : Ghosts D) (old new : D) (given given' : Option (List ℕ)) (result : Status) : Type 0 where
  pub refusal : Refusal
  pub cause : IsUncopied disk old new refusal
  pub printed : Prints given given' (refusal_text refusal) (refusal_status refusal) result

-- An origin was synced, and its listed blocks were read: what was read lasts over a crash. Or nothing was read.
abbrev pub TellsCopies : {D : Type 0} → Ghosts D → Listing → ℕ → D → D → Option (List ℕ) → Option (List ℕ) → Status → Type 0
TellsCopies disk listing since old new given given' result =
    (Now disk IsClean new × PrintsCopies disk listing since old new given given' result) ⊎ TellsUncopied disk old new given given' result

-- What is read of a disk is as before at each moment, and it has its place and size.
pub record OnlyReads {D : Type 0} (disk : Ghosts D) (old new : D) : Type 0 where
  pub moments : EachMoment disk (SameBut 0 0) old new
  pub same : SameDisk disk old new

-- An origin was lent, only synced and read, and put back; it reads as before.
pub record HasReadOrigin {D : Type 0} (disk : Ghosts D) (bay : BayAround D) (name : List ℕ) (sectors : ℕ) (lent back : D) : Type 0 where
  pub taken : IsOriginLent disk bay name sectors lent
  pub loans : bay.loans' ≡ bay.loans ++ ended_loan (new_loan lent) back ∷ []
  pub only : OnlyReads disk lent back
  pub reads : disk.tells ≡ true → KeepsReads bay.reads bay.reads'
  pub others : SameReadsBut name 0 sectors bay.reads bay.reads'
  pub faults : bay.faults' ≡ bay.faults

-- The listed blocks of an origin were told.
pub record TellsOrigin {D : Type 0} (disk : Ghosts D) (bay : BayAround D) (name : List ℕ) (listing : Listing) (since : ℕ) (given given' : Option (List ℕ)) (result : Status) : Type 0 where
  pub lent : D
  pub back : D
  pub read : HasReadOrigin disk bay name listing.geometry.sectors lent back
  pub told : TellsCopies disk listing since lent back given given' result

-- It was told why an origin wasn't lent.
pub record TellsNoOrigin {D : Type 0} (bay : BayAround D) (name : List ℕ) (sectors : ℕ) (given given' : Option (List ℕ)) (result : Status) : Type 0 where
  pub refusal : Refusal
  pub left : LeavesBay bay
  pub cause : IsOriginCause bay name sectors refusal
  pub printed : Prints given given' (refusal_text refusal) (refusal_status refusal) result

-- The listed blocks of an origin were told, or why it wasn't lent.
abbrev pub RunsCopy : {D : Type 0} → Ghosts D → BayAround D → List ℕ → Listing → ℕ → Option (List ℕ) → Option (List ℕ) → Status → Type 0
RunsCopy disk bay name listing since given given' result =
    TellsOrigin disk bay name listing since given given' result ⊎ TellsNoOrigin bay name listing.geometry.sectors given given' result

-- The image was listed and its device put back; then the origin was lent and copied.
pub record TellsBackup {D : Type 0} (disk : Ghosts D) (bay : BayAround D) (meta origin : List ℕ) (since : ℕ) (given given' : Option (List ℕ)) (result : Status) : Type 0 where
  pub listing : Listing
  pub between : Between D
  pub meaning : Meaning
  pub looked : HasLooked disk (lending bay between) meta meaning
  pub listed : IsListing meaning.marks since listing
  pub copied : RunsCopy disk (behind bay between) origin listing since given given' result

-- It was told why the image isn't listed.
pub record TellsUnlisted {D : Type 0} (disk : Ghosts D) (bay : BayAround D) (meta : List ℕ) (given given' : Option (List ℕ)) (result : Status) : Type 0 where
  pub refusal : Refusal
  pub cause : IsUnlisted disk bay meta refusal
  pub printed : Prints given given' (refusal_text refusal) (refusal_status refusal) result

-- The two names are one, and that was told. The bay is as before.
pub record TellsSameDevice {D : Type 0} (bay : BayAround D) (given given' : Option (List ℕ)) (result : Status) : Type 0 where
  pub left : LeavesBay bay
  pub faults : bay.faults' ≡ bay.faults
  pub printed : Prints given given' (refusal_text SameDevice) (refusal_status SameDevice) result

-- A backup of two devices went so.
abbrev pub RunsBackup : {D : Type 0} → Ghosts D → BayAround D → List ℕ → List ℕ → ℕ → Option (List ℕ) → Option (List ℕ) → Status → Type 0
RunsBackup disk bay meta origin since given given' result =
    ((meta ≡ origin) × TellsSameDevice bay given given' result)
    ⊎ ((meta ≡ origin → ⊥) × (TellsBackup disk bay meta origin since given given' result ⊎ TellsUnlisted disk bay meta given given' result))
