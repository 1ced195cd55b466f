-- What a disk in memory is.
use Rattle.std.specs.Prelude.{◌≡◌, ◌⊎◌, ℕ, ◌+◌, ◌*◌, ◌<◌, ◌≤◌, Bool, true, false, List, [], ◌∷◌, ◌++◌, length, replicate, Result, IsErr, OnErr, MatchResult}
use Rattle.era_base.specs.CrashModel.{State, History, is_pending}
use Rattle.era_base.specs.Disk.{Place}
use Rattle.era_disks.specs.Calls.{Calls, NextFails, one_more, CountsFailure}
use Rattle.era_disks.specs.Fuses.{IsBurnt}
use Rattle.era_disks.specs.Rows.{bytes_of}
use Rattle.era_disks.specs.Tears.{synced_rows}
use Rattle.era_disks.specs.declared.made_call.MadeCall.{MadeCall}
use Rattle.era_disks.specs.declared.mem_state.MemState.{MemState}
use Rattle.era_disks.specs.declared.past.Past.{Past}
use Rattle.era_disks.specs.declared.past.Past.TheVariants.{Start, After'}
use Rattle.era_disks.specs.declared.mem_disk.MemDisk.{MemDisk}

-- The state of sectors in memory.
abbrev pub state_of : MemState → State
state_of now = record { seen = bytes_of now.rows.items; pending = now.pending.items }

-- What sectors in memory read as at the last sync that answered Ok, or at their beginning where there was none.
abbrev pub synced_of : MemState → List ℕ
synced_of now = bytes_of (synced_rows now.pending.items now.kept.items now.rows.items)

-- The past states, the first one first.
abbrev pub past_of : Past → List State
past_of Start = []
past_of (After' now marker before) = past_of before ++ state_of now.value ∷ []

-- The states of a disk in memory.
abbrev pub history_of : MemDisk → History
history_of disk = record { past = past_of disk.past; now = state_of disk.state }

-- What a disk in memory read as at the last sync that answered Ok, or at its beginning where there was none.
abbrev pub synced_in : MemDisk → List ℕ
synced_in disk = synced_of disk.state

-- Where a disk in memory lies.
abbrev pub place_of : MemDisk → Place
place_of disk = record { device = disk.device; first = disk.first }

-- How many sectors a disk in memory has.
abbrev pub sectors_of : MemDisk → ℕ
sectors_of disk = length disk.state.rows.items

-- How often a disk in memory has failed.
abbrev pub faults_of : MemDisk → ℕ
faults_of disk = disk.counts.faults

-- How often a disk in memory was refused memory.
abbrev pub starved_of : MemDisk → ℕ
starved_of disk = disk.counts.starved

-- The sectors of so many bytes from a sector on are pending.
abbrev pub IsMarked : ℕ → ℕ → State → Type 0
IsMarked first count state = (offset : ℕ) → first * 512 ≤ offset → offset < first * 512 + count → is_pending state offset ≡ true

-- The state in which all is zero and nothing is pending.
abbrev pub blank_state : ℕ → State
blank_state sectors = record { seen = replicate (sectors * 512) 0; pending = replicate sectors false }

-- The sectors of so many bytes from a sector on are pending, and nothing else has changed.
pub record OnlyMarks (first count : ℕ) (before after : State) : Type 0 where
  pub seen : after.seen ≡ before.seen
  pub marked : IsMarked first count after
  pub others : (offset : ℕ) → (first * 512 ≤ offset → first * 512 + count ≤ offset) → is_pending after offset ≡ is_pending before offset

-- Memory was not refused.
abbrev pub IsFed : MemDisk → MemDisk → Type 0
IsFed old new = starved_of new ≡ starved_of old

-- Memory was refused once.
abbrev pub IsStarved : MemDisk → MemDisk → Type 0
IsStarved old new = starved_of new ≡ one_more (starved_of old)

-- A call fails where it is listed or the fuse has burnt, and otherwise only where memory was refused; each failure is counted.
pub record Fails {T E : Type 0} (calls : Calls) (old new : MemDisk) (result : Result T E) : Type 0 where
  pub listed : NextFails calls → IsErr result
  pub burnt : IsBurnt new.fuse → IsErr result
  pub only : OnErr result (NextFails calls ⊎ (IsBurnt new.fuse ⊎ IsStarved old new))
  pub counted : CountsFailure (faults_of old) (faults_of new) result
  pub fed : MatchResult result (λ _. IsFed old new) (λ _. IsFed old new ⊎ IsStarved old new)

-- Memory for the record was refused, and the sectors are as they were.
pub record IsUnnoted (old new : MemDisk) : Type 0 where
  pub same : new.made.calls.items ≡ old.made.calls.items
  pub state : state_of new.state ≡ state_of old.state
  pub starved : IsStarved old new

-- The record is one call longer, which tells whether it answered; or memory for that was refused, and the call failed and has left the sectors as they were.
pub record Notes {T E : Type 0} (call : Bool → MadeCall) (old new : MemDisk) (result : Result T E) : Type 0 where
  pub made : MatchResult result (λ _. new.made.calls.items ≡ old.made.calls.items ++ call true ∷ [])
      (λ _. (new.made.calls.items ≡ old.made.calls.items ++ call false ∷ []) ⊎ IsUnnoted old new)
  pub began : new.began.value ≡ old.began.value

-- The record begins with the present state.
pub record HasNewRecord (disk : MemDisk) : Type 0 where
  pub none : disk.made.calls.items ≡ []
  pub began : disk.began.value ≡ disk.state.pending
