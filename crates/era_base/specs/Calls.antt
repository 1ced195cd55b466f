-- What calls on a disk did, where disks of the type tell it, and what stays of a disk. A definition takes the members of the trait, as `D.Disk`.
use Rattle.std.specs.Prelude.{◌≡◌, ℕ, ◌+◌, ◌*◌, ◌⊎◌, true, List, length, Result, Ok, Err}
use Rattle.era_base.specs.Bytes.{part}
use Rattle.era_base.specs.CrashModel.{State, History, Went, Stepped, Wrote, SameBut, IsClean, clock}
use Rattle.era_base.specs.Disk.{Syncs}
use Rattle.era_base.specs.declared.disk.Disk.{Ghosts}

-- At each moment of the calls, the first and the last one included, the state is related so to the state before them.
abbrev pub EachMoment : {D : Type 0} → Ghosts D → (State → State → Type 0) → D → D → Type 0
EachMoment disk Relates old new = disk.tells ≡ true → Went Relates (disk.history old) (disk.history new)

-- The present state has the property.
abbrev pub Now : {D : Type 0} → Ghosts D → (State → Type 0) → D → Type 0
Now disk Holds at = disk.tells ≡ true → Holds (disk.history at).now

-- So many device calls were made.
abbrev pub MakesCalls : {D : Type 0} → Ghosts D → ℕ → D → D → Type 0
MakesCalls disk count old new = disk.tells ≡ true → clock (disk.history new) ≡ clock (disk.history old) + count

-- A disk has its place and its size.
pub record SameDisk {D : Type 0} (disk : Ghosts D) (old new : D) : Type 0 where
  pub place : disk.place new ≡ disk.place old
  pub size : disk.sectors new ≡ disk.sectors old

-- The bytes stand at an offset, and nothing is pending.
pub record IsOnDisk (at : ℕ) (bytes : List ℕ) (now : State) : Type 0 where
  pub holds : part at (length bytes) now.seen ≡ bytes
  pub clean : IsClean now

-- A write that answered Ok, and behind it a sync with this result, are the only calls.
pub record WroteAndSynced {T E : Type 0} (first : ℕ) (bytes : List ℕ) (result : Result T E) (old new : History) : Type 0 where
  pub between : History
  pub time : Stepped old between
  pub wrote : Wrote first bytes old.now between.now
  pub synced : Syncs result between new

-- A write that failed is the only call.
pub record FailedToWrite (first : ℕ) (bytes : List ℕ) (old new : History) : Type 0 where
  pub time : Stepped old new
  pub outcome : SameBut (first * 512) (first * 512 + length bytes) old.now new.now

-- One write, and behind it one sync exactly where the write answered Ok: at Ok both answered so, otherwise the last one failed.
abbrev pub WritesThenSyncs : {T E : Type 0} → ℕ → List ℕ → Result T E → History → History → Type 0
WritesThenSyncs {T} {E} first bytes (Ok value) old new = WroteAndSynced {T = T} {E = E} first bytes (Ok value) old new
WritesThenSyncs {T} {E} first bytes (Err error) old new =
    FailedToWrite first bytes old new ⊎ WroteAndSynced {T = T} {E = E} first bytes (Err error) old new
