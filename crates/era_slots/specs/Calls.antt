-- What the calls on the slots ask, and what each of them did, over the struct. A definition takes the members of the disk's trait, as `D.Disk`.
use Rattle.std.specs.Prelude.{◌≡◌, ℕ, ◌+◌, ◌-◌, ◌*◌, ◌^◌, ◌<◌, ◌≤◌, ◌%◌, true, false, List, length, nat_lt, Result, IsOk, OnOk, OnErr}
use Rattle.era_base.specs.Bytes.{part}
use Rattle.era_base.specs.CrashModel.{State, Stepped, IsClean, clock}
use Rattle.era_base.specs.declared.disk.Disk.{Ghosts}
use Rattle.era_base.specs.Calls.{Now, MakesCalls}
use Rattle.era_base.specs.Faults.{Rose}
use Rattle.era_slots.specs.declared.slots.Slots.{Slots}
use Rattle.era_slots.specs.Slot.{other, gate_of, commit_number, body_of, closed_gate}
use Rattle.era_slots.specs.Standing.{Stands}
use Rattle.era_slots.specs.Promise.{IsStored, IsFailed}

-- The slots stand where their disk is in this state.
abbrev pub StandFor : {D : Type 0} → Slots D → State → Type 0
StandFor slots now = Stands slots.target slots.number slots.may_be_open now

-- At the end of the calls the state is related so to the state before them.
abbrev pub AtEnd : {D : Type 0} → Ghosts D → (State → State → Type 0) → D → D → Type 0
AtEnd disk Relates old new = disk.tells ≡ true → Relates (disk.history old).now (disk.history new).now

-- The next commit goes to the slot that it went to, after the number that it came after.
pub record KeepsTarget {D : Type 0} (old new : Slots D) : Type 0 where
  pub target : new.target ≡ old.target
  pub number : new.number ≡ old.number

-- The next commit is as before, and its gate is known to be closed exactly where it was.
pub record SameSlots {D : Type 0} (old new : Slots D) : Type 0 where
  pub target : new.target ≡ old.target
  pub number : new.number ≡ old.number
  pub may_be_open : new.may_be_open ≡ old.may_be_open

-- A page may be put into a block: the gate of the next commit is known to be closed, and the block is one behind the slots.
pub record CanPut {D : Type 0} (disk : Ghosts D) (slots : Slots D) (block : ℕ) (page : List ℕ) : Type 0 where
  pub begun : slots.may_be_open ≡ false
  pub behind : 2 ≤ block
  pub within : block * 8 + 8 ≤ disk.sectors slots.disk
  pub size : length page ≡ 4096

-- A body may be committed: the gate of the next commit is known to be closed, and a number is left for it.
pub record CanCommit {D : Type 0} (disk : Ghosts D) (slots : Slots D) (body : List ℕ) : Type 0 where
  pub room : 24 ≤ disk.sectors slots.disk
  pub begun : slots.may_be_open ≡ false
  pub size : length body ≡ 3576
  pub below : slots.number < 2 ^ 63 - 1

-- A buffer for the first bytes of a slot: some whole sectors, at most 4,096 bytes.
pub record IsFront (buffer : List ℕ) : Type 0 where
  pub some : 0 < length buffer
  pub whole : length buffer % 512 ≡ 0
  pub within : length buffer ≤ 4096

-- Two buffers have the first bytes of slot 0 and of slot 1, and nothing is pending.
pub record HasFronts (zero one : List ℕ) (now : State) : Type 0 where
  pub clean : IsClean now
  pub first : zero ≡ part 0 (length zero) now.seen
  pub second : one ≡ part 4096 (length one) now.seen

-- A slot's gate sector has these bytes, and nothing is pending.
pub record HasGate (slot : ℕ) (sector : List ℕ) (now : State) : Type 0 where
  pub written : gate_of slot now.seen ≡ sector
  pub clean : IsClean now

-- A slot has this number and this body, and nothing is pending.
pub record HasBody (slot number : ℕ) (content : List ℕ) (now : State) : Type 0 where
  pub numbered : commit_number slot now.seen ≡ number
  pub holds : body_of slot now.seen ≡ content
  pub clean : IsClean now

-- A `begin`: where the gate is known to be closed it answers Ok and nothing has changed; the gate is known to be closed after an Ok, and not after a failure.
pub record HasBegun {D T E : Type 0} (result : Result T E) (old new : Slots D) : Type 0 where
  pub quiet : old.may_be_open ≡ false → IsOk result × (new ≡ old)
  pub begun : OnOk result (new.may_be_open ≡ false)
  pub failed : OnErr result (new.may_be_open ≡ true)

-- A closing of a gate that answered Ok: its sector is zeros, nothing is pending, and two device calls were made.
pub record ClosesGate {D : Type 0} (disk : Ghosts D) (slot : ℕ) (old new : D) : Type 0 where
  pub closed : Now disk (HasGate slot closed_gate) new
  pub calls : MakesCalls disk 2 old new

-- A `commit` that answered Ok: the body is stored, the other slot is that of the next commit, and four device calls were made.
pub record StoresBody {D : Type 0} (disk : Ghosts D) (content : List ℕ) (old new : Slots D) : Type 0 where
  pub stored : Now disk (IsStored old.target old.number content) new.disk
  pub target : new.target ≡ other old.target
  pub number : new.number ≡ old.number + 1
  pub may_be_open : new.may_be_open ≡ nat_lt 0 old.number
  pub calls : MakesCalls disk 4 old.disk new.disk

-- A `commit` that failed: the next one goes to the same slot, after the same number.
pub record FailsToStore {D : Type 0} (disk : Ghosts D) (content : List ℕ) (old new : Slots D) : Type 0 where
  pub failed : AtEnd disk (IsFailed old.target old.number new.may_be_open content) old.disk new.disk
  pub next : KeepsTarget old new

-- Calls on a disk ended at a fault: so many were made, at least one and this many at most. The last of them is the first that failed: up to it the disk's count of faults was as at the beginning, and with it it rose.
pub record FailedCall {D : Type 0} (disk : Ghosts D) (greatest : ℕ) (old new : D) : Type 0 where
  pub calls : ℕ
  pub some : 0 < calls
  pub most : calls ≤ greatest
  pub time : clock (disk.history new) ≡ clock (disk.history old) + calls
  pub last : D
  pub failed : Stepped (disk.history last) (disk.history new)
  pub quiet : disk.faults last ≡ disk.faults old
  pub rose : Rose (disk.faults last) (disk.faults new)

-- A sync and the two reads behind it ended at a fault of one of the three. If that isn't the sync, nothing is pending.
pub record FailedReading {D : Type 0} (disk : Ghosts D) (old new : D) : Type 0 where
  pub place : FailedCall disk 3 old new
  pub synced : 1 < place.calls → IsClean (disk.history new).now

-- A sync and two reads failed at the place of one of them.
abbrev pub FailsToRead : {D : Type 0} → Ghosts D → D → D → Type 0
FailsToRead disk old new = disk.tells ≡ true → FailedReading disk old new

-- One device call was made at least, and so many at most.
abbrev pub MakesSomeCalls : {D : Type 0} → Ghosts D → ℕ → D → D → Type 0
MakesSomeCalls disk most old new = disk.tells ≡ true → (clock (disk.history old) < clock (disk.history new))
    × (clock (disk.history new) ≤ clock (disk.history old) + most)
