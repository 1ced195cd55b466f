-- What a disk is, and what a crash may leave of it. A disk is a list of sectors of 512 bytes.
use Rattle.std.specs.Prelude.{◌≡◌, ℕ, ◌+◌, ◌*◌, ◌/◌, ◌%◌, ◌<◌, ◌≤◌, Bool, true, false, List, [], ◌∷◌, ◌++◌, length, slice_index, slice_index_or}
use Rattle.era_base.specs.Bytes.{splice}

-- The state of a disk at one moment: what a read gives, and for each sector whether it is pending.
pub record State : Type 0 where
  pub seen : List ℕ
  pub pending : List Bool

-- The states of the past moments of a disk, the first one first, and the present state.
pub record History : Type 0 where
  pub past : List State
  pub now : State

-- The clock: the number of the present moment.
abbrev pub clock : History → ℕ
clock history = length history.past

-- The state at a moment, where a moment that hasn't come yet is the present one.
abbrev pub state_at : History → ℕ → State
state_at history moment = slice_index_or history.past moment history.now

-- One call later: what was the present state is the last of the past ones.
pub record Stepped (old new : History) : Type 0 where
  pub past : new.past ≡ old.past ++ old.now ∷ []

-- A state of so many sectors.
pub record IsWhole (sectors : ℕ) (state : State) : Type 0 where
  pub bytes : length state.seen ≡ sectors * 512
  pub flags : length state.pending ≡ sectors

-- Whether the sector of a byte is pending; past the end it counts as pending.
abbrev pub is_pending : State → ℕ → Bool
is_pending state offset = slice_index_or state.pending (offset / 512) true

-- What a crash may leave in this state: any bytes in pending sectors, and elsewhere what a read gives.
pub record IsCrashImage (state : State) (image : List ℕ) : Type 0 where
  pub size : length image ≡ length state.seen
  pub kept : (offset : ℕ) → is_pending state offset ≡ false → slice_index image offset ≡ slice_index state.seen offset

-- Each crash image of a state has the property.
abbrev pub Leaves : (List ℕ → Type 0) → State → Type 0
Leaves Holds state = (image : List ℕ) → IsCrashImage state image → Holds image

-- The states of all moments from one to another have the property.
abbrev pub AllBetween : History → ℕ → ℕ → (State → Type 0) → Type 0
AllBetween history first last Holds = (moment : ℕ) → first ≤ moment → moment ≤ last → Holds (state_at history moment)

-- So many bytes, from a sector on, are some whole sectors of a disk.
pub record LiesOn (sectors first count : ℕ) : Type 0 where
  pub some : 0 < count
  pub whole : count % 512 ≡ 0
  pub within : first * 512 + count ≤ sectors * 512

-- No sector is pending.
abbrev pub IsClean : State → Type 0
IsClean state = (offset : ℕ) → offset < length state.seen → is_pending state offset ≡ false

-- Nothing has changed outside the bytes from one offset up to another, and no sector outside has become pending; of the bytes inside nothing is said.
pub record SameBut (from to : ℕ) (before after : State) : Type 0 where
  pub bytes : length after.seen ≡ length before.seen
  pub flags : length after.pending ≡ length before.pending
  pub seen : (offset : ℕ) → (from ≤ offset → to ≤ offset) → slice_index after.seen offset ≡ slice_index before.seen offset
  pub clean : (offset : ℕ) → (from ≤ offset → to ≤ offset) → is_pending before offset ≡ false → is_pending after offset ≡ false

-- A write that answered Ok.
pub record Wrote (first : ℕ) (bytes : List ℕ) (before after : State) : Type 0 where
  pub seen : after.seen ≡ splice before.seen (first * 512) bytes
  pub same : SameBut (first * 512) (first * 512 + length bytes) before after

-- A sync that answered Ok: what a read gives is as it was, and nothing is pending.
pub record Synced (before after : State) : Type 0 where
  pub seen : after.seen ≡ before.seen
  pub flags : length after.pending ≡ length before.pending
  pub clean : IsClean after

-- A history goes on from another one: no past moment has changed.
pub record Continues (old new : History) : Type 0 where
  pub later : clock old ≤ clock new
  pub past : (moment : ℕ) → moment ≤ clock old → state_at new moment ≡ state_at old moment

-- Calls led from one history to another, and the state at each moment, the first and the last one included, is related to the state before them.
pub record Went (Relates : State → State → Type 0) (old new : History) : Type 0 where
  pub continues : Continues old new
  pub moments : AllBetween new (clock old) (clock new) (Relates old.now)
