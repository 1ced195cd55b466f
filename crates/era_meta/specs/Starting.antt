-- What an opening for serving did and gave, and what it may leave of its disk at each moment. A definition takes the members of the disk's trait, as `D.Disk`.
use Rattle.std.specs.Prelude.{◌≡◌, ℕ, ◌+◌, ◌<◌, ◌≤◌, ◌^◌, ◌⊎◌, true, false, List, Option, MatchOption}
use Rattle.era_base.specs.Calls.{Now, SameDisk}
use Rattle.era_base.specs.CrashModel.{State, History, Went, Leaves, SameBut, Continues, AllBetween, clock, state_at}
use Rattle.era_base.specs.declared.disk.Disk.{Ghosts}
use Rattle.era_base.specs.declared.geometry.Geometry.{Geometry}
use Rattle.era_base.specs.declared.limits.TheConstants.{LAST_ERA}
use Rattle.era_layout.specs.Root.{fields_of}
use Rattle.era_model.specs.Marks.{marks_last_era, no_marks, rolled}
use Rattle.era_slots.specs.Slot.{commit_number, IsBlank}
use Rattle.era_meta.specs.declared.metadata.Meta.{Meta}
use Rattle.era_meta.specs.declared.refusal.MetaError.{MetaError}
use Rattle.era_meta.specs.declared.refusal.MetaError.TheVariants.{MetaSmall, Fault, Unformatted, Damaged, WrongGeometry, EraEnd, SequenceEnd, Memory}
use Rattle.era_meta.specs.Damage.{HasSize, newest_slot}
use Rattle.era_meta.specs.Formatting.{marks_alone}
use Rattle.era_meta.specs.InMemory.{meaning_in}
use Rattle.era_meta.specs.Meaning.{Meaning, IsImageOf}
use Rattle.era_meta.specs.MetaCalls.{IsStanding}
use Rattle.era_meta.specs.Openings.{HasOpeningCause}
use Rattle.era_meta.specs.Stored.{HasNoneLeft}
use Rattle.era_meta.specs.StoredMarks.{with_marks}
use Rattle.era_meta.specs.Trials.{Trial, HoldAll, EndsOpening, all_calls, metadata_blocks}

-- What a disk stands for that was formatted: no mark in era 1, and no snapshot.
abbrev pub formatted : Geometry → Meaning
formatted asked = marks_alone (no_marks asked.sectors asked.block_sectors 1)

-- What a disk stands for one era switch later.
abbrev pub next_era : Meaning → Meaning
next_era before = with_marks before (rolled before.marks)

-- An image of a metadata disk that read so when it was lent, while it is opened for an origin: one that stands for a meaning stands for that or for the one in the next era, a blank one is blank or formatted, and any other is as it was.
pub record IsImageWhileOpening (asked : Geometry) (seen image : List ℕ) : Type 0 where
  pub marks : (before : Meaning) → IsImageOf before seen → IsImageOf before image ⊎ IsImageOf (next_era before) image
  pub blank : IsBlank seen → IsBlank image ⊎ IsImageOf (formatted asked) image
  pub other : ((before : Meaning) → ¬ IsImageOf before seen) → ¬ IsBlank seen → image ≡ seen

-- Each crash image is one of an opening of a disk that read so before.
abbrev pub LeavesOpening : Geometry → State → State → Type 0
LeavesOpening asked before now = Leaves (IsImageWhileOpening asked before.seen) now

-- A metadata disk opens safely between two moments: up to some moment nothing has changed since the first one and no sector has become pending, and from then on each image is one of an opening.
pub record OpensSafely (asked : Geometry) (history : History) (lent begun : ℕ) : Type 0 where
  pub synced : ℕ
  pub first : lent ≤ synced
  pub then_begun : synced ≤ begun
  pub until : AllBetween history lent synced (SameBut 0 0 (state_at history lent))
  pub since : synced < begun → AllBetween history synced begun (LeavesOpening asked (state_at history lent))

-- The calls of an opening led from one state of a disk to another, safely.
pub record StartsSafely {D : Type 0} (disk : Ghosts D) (asked : Geometry) (old new : D) : Type 0 where
  pub continues : disk.tells ≡ true → Continues (disk.history old) (disk.history new)
  pub safely : disk.tells ≡ true → OpensSafely asked (disk.history new) (clock (disk.history old)) (clock (disk.history new))

-- The refusal is a fault.
abbrev pub IsFault : MetaError → Type 0
IsFault (Fault count) = Unit {0}
IsFault (MetaSmall have need) = ⊥
IsFault Unformatted = ⊥
IsFault (Damaged kind block) = ⊥
IsFault (WrongGeometry kept asked) = ⊥
IsFault EraEnd = ⊥
IsFault (SequenceEnd number) = ⊥
IsFault Memory = ⊥

-- All trials hold, and after their device calls those of a commit were begun.
abbrev pub HoldsBefore : ℕ → List ℕ → List Trial → ℕ → Type 0
HoldsBefore have seen trials calls = HoldAll have seen trials × (all_calls trials ≤ calls)

-- An opening that begins an era, between two moments: where nothing is refused all trials hold. What is refused ended the trials, and nothing has changed, or it is a fault of the commit behind them.
pub record StartedIn (have : ℕ) (trials : List Trial) (old new : History) (refused : Option MetaError) : Type 0 where
  pub calls : ℕ
  pub time : clock new ≡ clock old + calls
  pub found : MatchOption refused (HoldsBefore have old.now.seen trials calls)
      (λ error. (EndsOpening have old.now.seen trials calls error × Went (SameBut 0 0) old new) ⊎ (IsFault error × HoldsBefore have old.now.seen trials calls))

-- A disk was opened for serving: by the trials that its bytes ask for, and one commit behind them.
pub record Started {D : Type 0} (disk : Ghosts D) (trials : List ℕ → List Trial) (old new : D) (refused : Option MetaError) : Type 0 where
  pub told : disk.tells ≡ true → StartedIn (metadata_blocks (disk.sectors old)) (trials (disk.history old).now.seen) (disk.history old) (disk.history new) refused
  pub same : SameDisk disk old new
  pub cause : HasOpeningCause (disk.faults old) (disk.faults new) refused

-- The metadata stores a meaning under a commit number: what is stored is that, and each crash image stands for it.
pub record StoresNow {D : Type 0} (meta : Meta D) (meaning : Meaning) (number : ℕ) (now : State) : Type 0 where
  pub is : meaning_in now meta ≡ meaning
  pub images : Leaves (IsImageOf meaning) now
  pub numbered : meta.slots.number ≡ number

-- A disk that read so has begun an era: it stood for a meaning, and stores the one in the next era by one commit, or it was blank and is formatted.
pub record HasBegun {D : Type 0} (asked : Geometry) (seen : List ℕ) (meta : Meta D) (now : State) : Type 0 where
  pub some : ((before : Meaning) × IsImageOf before seen) ⊎ IsBlank seen
  pub marks : (before : Meaning) → IsImageOf before seen → (before.marks.era < LAST_ERA)
      × StoresNow meta (next_era before) (commit_number (newest_slot seen) seen + 1) now
  pub blank : IsBlank seen → StoresNow meta (formatted asked) 1 now

-- What a start gives: the metadata stands, nothing is unstored, no block has a mark of its era, numbers are left, it is of the geometry that was asked for, and where the disk tells it has begun an era, and no failed commit has left anything.
pub record IsBegun {D : Type 0} (disk : Ghosts D) (asked : Geometry) (old : D) (meta : Meta D) : Type 0 where
  pub standing : IsStanding disk meta
  pub stored : meta.unstored ≡ false
  pub fresh : (block : ℕ) → marks_last_era meta.marks block < meta.marks.era
  pub numbered : (0 < meta.slots.number) × (meta.slots.number ≤ 2 ^ 62)
  pub geometry : HasSize (fields_of meta.root) asked.sectors asked.block_sectors
  pub told : disk.tells ≡ true → HasBegun asked (disk.history old).now.seen meta (disk.history meta.slots.disk).now
  pub alone : Now disk (HasNoneLeft meta.slots) meta.slots.disk
