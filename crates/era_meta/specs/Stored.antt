-- What the calls that put pages and commit roots did, over the slots. A definition takes the members of the disk's trait, as `D.Disk`.
use Rattle.std.specs.Prelude.{◌≡◌, ℕ, ◌+◌, ◌*◌, ◌<◌, ◌≤◌, true, false, List, length, Option, nat_lt, slice_index}
use Rattle.era_base.specs.CrashModel.{State, Went, Leaves}
use Rattle.era_base.specs.declared.disk.Disk.{Ghosts}
use Rattle.era_base.specs.Calls.{Now, SameDisk}
use Rattle.era_base.specs.Geometry.{need_of}
use Rattle.era_layout.specs.Root.{RootFields}
use Rattle.era_slots.specs.declared.slots.Slots.{Slots}
use Rattle.era_slots.specs.Slot.{other, page_of}
use Rattle.era_slots.specs.Calls.{StandFor, SameSlots}
use Rattle.era_meta.specs.Content.{blocks_of_root}
use Rattle.era_meta.specs.Meaning.{Meaning, IsImageOf}
use Rattle.era_meta.specs.Keeping.{stored_in, Keeps, IsLeft, LeavesEither}
use Rattle.era_meta.specs.Putting.{MayCommit}

-- A page may be put into a metadata block of a disk of so many sectors: it lies behind the slots and on the disk.
pub record CanHold (sectors block : ℕ) : Type 0 where
  pub behind : 2 ≤ block
  pub within : block * 8 + 8 ≤ sectors

-- Pages may be put, and a root committed behind them: the slots stand on their disk, and the gate of the next commit is known to be closed.
pub record HasClosedGate {D : Type 0} (disk : Ghosts D) (slots : Slots D) : Type 0 where
  pub stands : Now disk (StandFor slots) slots.disk
  pub begun : slots.may_be_open ≡ false

-- The slots stand on their disk as before, with the same next commit.
pub record KeepsSlots {D : Type 0} (disk : Ghosts D) (old new : Slots D) : Type 0 where
  pub stands : Now disk (StandFor new) new.disk
  pub same : SameSlots old new
  pub device : SameDisk disk old.disk new.disk

-- The slots stand on their disk, which has its place and its size.
pub record StillStand {D : Type 0} (disk : Ghosts D) (old new : Slots D) : Type 0 where
  pub stands : Now disk (StandFor new) new.disk
  pub device : SameDisk disk old.disk new.disk

-- Each of these blocks has, as the disk is read, the page of a source with its index.
abbrev pub HavePages : {P : Type 0} → (P → ℕ → List ℕ → Type 0) → P → List ℕ → State → Type 0
HavePages says source blocks now = (index : ℕ) → index < length blocks → says source index (page_of (slice_index blocks index) now.seen)

-- The disk keeps this root with its held root, beside these slots.
abbrev pub KeepsFor : {D : Type 0} → Slots D → RootFields → Option RootFields → State → Type 0
KeepsFor slots root held now = Keeps slots.target slots.number slots.may_be_open root held now

-- A root may be committed to these slots.
abbrev pub MayCommitTo : {D : Type 0} → Slots D → RootFields → RootFields → Option RootFields → Option RootFields → State → Type 0
MayCommitTo slots root next held held_next now = MayCommit slots.target slots.number root next held held_next now

-- The next commit goes to the other slot, after the next number.
pub record TakesNextSlot {D : Type 0} (old new : Slots D) : Type 0 where
  pub target : new.target ≡ other old.target
  pub number : new.number ≡ old.number + 1
  pub may_be_open : new.may_be_open ≡ nat_lt 0 old.number

-- No commit that failed in opening its gate has left anything that a crash may bring back.
abbrev pub HasNoneLeft : {D : Type 0} → Slots D → State → Type 0
HasNoneLeft slots now = slots.may_be_open ≡ true → (left : Meaning) → ¬ IsLeft slots.target slots.number left now

-- A root is the committed one, it says this meaning, each crash image stands for that, and no failed commit left another.
pub record IsStoredRoot {D : Type 0} (slots : Slots D) (root : RootFields) (held : Option RootFields) (meaning : Meaning) (now : State) : Type 0 where
  pub keeps : KeepsFor slots root held now
  pub says : stored_in now root held ≡ meaning
  pub images : Leaves (IsImageOf meaning) now
  pub alone : slots.may_be_open ≡ true → (left : Meaning) → ¬ IsLeft slots.target slots.number left now

-- A root is still the committed one, it says what it said, and what a failed commit left is what was to be stored.
pub record IsStillStored {D : Type 0} (slots : Slots D) (root : RootFields) (held : Option RootFields) (old new : Meaning) (now : State) : Type 0 where
  pub keeps : KeepsFor slots root held now
  pub says : stored_in now root held ≡ old
  pub left : slots.may_be_open ≡ true → (left : Meaning) → IsLeft slots.target slots.number left now → left ≡ new

-- At each moment of a commit of a root, each crash image stands for what the committed root says or for what the next one says.
abbrev pub CommitsRoot : {D : Type 0} → Ghosts D → RootFields → Slots D → Slots D → Type 0
CommitsRoot disk next old new = disk.tells ≡ true → (root : RootFields) (held held_next : Option RootFields)
    → MayCommitTo old root next held held_next (disk.history old.disk).now
    → Went (λ before now. LeavesEither (stored_in before root held) (stored_in before next held_next) now)
    (disk.history old.disk) (disk.history new.disk)

-- A commit of a root that answered Ok: the next root is the committed one.
abbrev pub HasCommittedRoot : {D : Type 0} → Ghosts D → RootFields → Slots D → Slots D → Type 0
HasCommittedRoot disk next old new = disk.tells ≡ true → (root : RootFields) (held held_next : Option RootFields)
    → MayCommitTo old root next held held_next (disk.history old.disk).now
    → IsStoredRoot new next held_next (stored_in (disk.history old.disk).now next held_next) (disk.history new.disk).now

-- A commit of a root that failed: the committed root is as before.
abbrev pub FailsToCommit : {D : Type 0} → Ghosts D → RootFields → Slots D → Slots D → Type 0
FailsToCommit disk next old new = disk.tells ≡ true → (root : RootFields) (held held_next : Option RootFields)
    → MayCommitTo old root next held held_next (disk.history old.disk).now
    → IsStillStored new root held (stored_in (disk.history old.disk).now root held) (stored_in (disk.history old.disk).now next held_next)
    (disk.history new.disk).now

-- A disk of so many sectors has the metadata blocks that a root's geometry needs.
abbrev pub HasBlocks : RootFields → ℕ → Type 0
HasBlocks root sectors = need_of (blocks_of_root root) * 8 ≤ sectors
