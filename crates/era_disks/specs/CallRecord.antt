-- The record of the calls of a disk in memory, and which sectors it says are pending.
use Rattle.std.specs.Prelude.{◌≡◌, ℕ, ◌+◌, ◌<◌, Bool, true, false, ◌&&◌, ◌||◌, nat_le, nat_lt, List, [], ◌∷◌, length, slice_index_or}
use Rattle.era_disks.specs.declared.made_call.MadeCall.{MadeCall}
use Rattle.era_disks.specs.declared.made_call.MadeCall.TheVariants.{Read, Write, Sync}

-- Whether a sector is pending after a call, where it is told whether it was before: a write of it makes it pending, whether it answered or failed, and a sync that answered ends that.
abbrev pub pending_at : MadeCall → ℕ → Bool → Bool
pending_at (Read first sectors answered) sector was = was
pending_at (Write first sectors answered) sector was = was || (nat_le first sector && nat_lt sector (first + sectors))
pending_at (Sync true) sector was = false
pending_at (Sync false) sector was = was

-- Whether a sector is pending after these calls, the first one first.
abbrev pub pending_after : List MadeCall → ℕ → Bool → Bool
pending_after [] sector was = was
pending_after (call ∷ later) sector was = pending_after later sector (pending_at call sector was)

-- The pending sectors are exactly those that the record says, from the flags that they had as it began.
abbrev pub IsReplayed : List Bool → List MadeCall → List Bool → Type 0
IsReplayed began made pending = (sector : ℕ) → sector < length pending
    → slice_index_or pending sector true ≡ pending_after made sector (slice_index_or began sector true)
