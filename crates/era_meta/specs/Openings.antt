-- What an opening of a metadata disk did and gave. A definition takes the members of the disk's trait, as `D.Disk`.
use Rattle.std.specs.Prelude.{◌≡◌, ℕ, ◌+◌, ◌⊎◌, true, false, List, Option, Some, None, Result, Ok, Err, MatchOption}
use Rattle.era_base.specs.Calls.{SameDisk}
use Rattle.era_base.specs.CrashModel.{State, History, Went, SameBut, IsClean, clock}
use Rattle.era_base.specs.Faults.{Rose}
use Rattle.era_base.specs.declared.geometry.Geometry.{Geometry}
use Rattle.era_base.specs.declared.disk.Disk.{Ghosts}
use Rattle.era_layout.specs.Root.{fields_of}
use Rattle.era_slots.specs.declared.slots.Slots.{Slots}
use Rattle.era_slots.specs.Opening.{IsOther}
use Rattle.era_slots.specs.Slot.{other, commit_number, body_of, IsCommitNumber, IsActive}
use Rattle.era_meta.specs.declared.metadata.Meta.{Meta}
use Rattle.era_meta.specs.declared.parts.Parts.{Parts}
use Rattle.era_meta.specs.declared.refusal.MetaError.{MetaError}
use Rattle.era_meta.specs.declared.refusal.MetaError.TheVariants.{MetaSmall, Fault, Unformatted, Damaged, WrongGeometry, EraEnd, SequenceEnd, Memory}
use Rattle.era_meta.specs.declared.refusal.MetaRefusal.{MetaRefusal}
use Rattle.era_meta.specs.Damage.{newest_slot, root_in}
use Rattle.era_meta.specs.InMemory.{meaning_in}
use Rattle.era_meta.specs.Keeping.{IsLeft}
use Rattle.era_meta.specs.Meaning.{Meaning, IsImageOf}
use Rattle.era_meta.specs.MetaCalls.{IsStanding}
use Rattle.era_meta.specs.Trials.{Trial, HoldAll, EndsOpening, all_calls, metadata_blocks}

-- The disk of an opening, in the metadata or in the refusal.
abbrev pub opened_disk : {D : Type 0} → Result (Meta D) (MetaRefusal D) → D
opened_disk (Ok meta) = meta.slots.disk
opened_disk (Err refusal) = refusal.disk

-- The metadata of slots and of parts in memory, with nothing unstored.
abbrev pub meta_of : {D : Type 0} → Slots D → Parts → Meta D
meta_of slots parts = record {
  slots = slots;
  marks = parts.marks;
  root = parts.root;
  next = parts.next;
  snapshot = parts.snapshot;
  spare = parts.spare;
  unstored = false;
}

-- Why an opening was refused, if it was.
abbrev pub refusal_of : {D : Type 0} → Result (Meta D) (MetaRefusal D) → Option MetaError
refusal_of (Ok meta) = None
refusal_of (Err refusal) = Some refusal.error

-- Why an opening ends, if it does.
abbrev pub refused_by : {T : Type 0} → Result T MetaError → Option MetaError
refused_by (Ok value) = None
refused_by (Err error) = Some error

-- A slot is the active one, these are its body and the one beside it that is open, if there is one, and nothing is pending.
pub record IsOpenedAs (active : ℕ) (body : List ℕ) (beside : Option (List ℕ)) (now : State) : Type 0 where
  pub clean : IsClean now
  pub stands : IsActive active now.seen
  pub own : body ≡ body_of active now.seen
  pub other_one : IsOther (other active) now.seen beside

-- Two refusals are one, but that the kept geometry may be told by two values of the same length and block size.
abbrev pub AreOneRefusal : MetaError → MetaError → Type 0
AreOneRefusal one two = (one ≡ two)
    ⊎ ((kept : Geometry) × (other : Geometry) × (asked : Geometry) × (one ≡ WrongGeometry kept asked) × (two ≡ WrongGeometry other asked)
    × (kept.sectors ≡ other.sectors) × (kept.block_sectors ≡ other.block_sectors))

-- The trials of an opening between two moments: nothing has changed at any of them. Where nothing is refused all trials hold, each with its device calls, and else the opening was ended so.
pub record TriedIn (have : ℕ) (trials : List Trial) (old new : History) (refused : Option MetaError) : Type 0 where
  pub went : Went (SameBut 0 0) old new
  pub calls : ℕ
  pub time : clock new ≡ clock old + calls
  pub found : MatchOption refused (HoldAll have old.now.seen trials × (calls ≡ all_calls trials)) (EndsOpening have old.now.seen trials calls)

-- A fault is the disk's count, which rose; behind any other refusal none came.
abbrev pub HasErrorCause : ℕ → ℕ → MetaError → Type 0
HasErrorCause before now (Fault count) = (count ≡ now) × Rose before now
HasErrorCause before now (MetaSmall have need) = now ≡ before
HasErrorCause before now Unformatted = now ≡ before
HasErrorCause before now (Damaged kind block) = now ≡ before
HasErrorCause before now (WrongGeometry kept asked) = now ≡ before
HasErrorCause before now EraEnd = now ≡ before
HasErrorCause before now (SequenceEnd number) = now ≡ before
HasErrorCause before now Memory = now ≡ before

-- Without a refusal no fault came; a fault that is refused is the disk's count, which rose.
abbrev pub HasOpeningCause : ℕ → ℕ → Option MetaError → Type 0
HasOpeningCause before now refused = MatchOption refused (now ≡ before) (HasErrorCause before now)

-- A disk was tried: by the trials that its bytes ask for, and by nothing but syncs and reads.
pub record Tried {D : Type 0} (disk : Ghosts D) (trials : List ℕ → List Trial) (old new : D) (refused : Option MetaError) : Type 0 where
  pub told : disk.tells ≡ true → TriedIn (metadata_blocks (disk.sectors old)) (trials (disk.history old).now.seen) (disk.history old) (disk.history new) refused
  pub same : SameDisk disk old new
  pub cause : HasOpeningCause (disk.faults old) (disk.faults new) refused

-- The metadata is that of a disk that read so: its root is the newest one, with the number of that root's commit, what is stored is what the disk stands for, nothing is pending, and no commit that failed has left anything.
pub record IsReadOf {D : Type 0} (meta : Meta D) (seen : List ℕ) (now : State) : Type 0 where
  pub clean : IsClean now
  pub root : root_in seen ≡ fields_of meta.root
  pub number : commit_number (newest_slot seen) seen ≡ meta.slots.number
  pub stored : IsImageOf (meaning_in now meta) seen
  pub none_left : meta.slots.may_be_open ≡ true → (left : Meaning) → ¬ IsLeft meta.slots.target meta.slots.number left now

-- What a look gives: the metadata stands, nothing is unstored, the number is one that a commit may have, and where the disk tells it is that of the disk.
pub record IsLooked {D : Type 0} (disk : Ghosts D) (old : D) (meta : Meta D) : Type 0 where
  pub standing : IsStanding disk meta
  pub stored : meta.unstored ≡ false
  pub numbered : IsCommitNumber meta.slots.number
  pub told : disk.tells ≡ true → IsReadOf meta (disk.history old).now.seen (disk.history meta.slots.disk).now
