-- Where a disk lies, and what each of its calls does.
use Rattle.std.specs.Prelude.{◌≡◌, ℕ, ◌+◌, ◌*◌, List, length, Result, OnOk, MatchResult}
use Rattle.era_base.specs.Bytes.{part}
use Rattle.era_base.specs.CrashModel.{History, Stepped, Wrote, SameBut, Synced}

-- The place of a disk: the name of the device, and the first sector of the device that is the disk's.
pub record Place : Type 0 where
  pub device : List ℕ
  pub first : ℕ

-- A read: the state stays, and at Ok the buffer holds what the disk reads as from that sector on.
pub record Reads {T E : Type 0} (first : ℕ) (buffer : List ℕ) (result : Result T E) (old new : History) : Type 0 where
  pub time : Stepped old new
  pub same : new.now ≡ old.now
  pub bytes : OnOk result (buffer ≡ part (first * 512) (length buffer) old.now.seen)

-- A write: at Ok the bytes stand there; after a failure a read of their sectors may give anything; either way they may be pending.
pub record Writes {T E : Type 0} (first : ℕ) (bytes : List ℕ) (result : Result T E) (old new : History) : Type 0 where
  pub time : Stepped old new
  pub outcome : MatchResult result (λ _. Wrote first bytes old.now new.now) (λ _. SameBut (first * 512) (first * 512 + length bytes) old.now new.now)

-- A sync: at Ok nothing is pending; after a failure the state is as before.
pub record Syncs {T E : Type 0} (result : Result T E) (old new : History) : Type 0 where
  pub time : Stepped old new
  pub outcome : MatchResult result (λ _. Synced old.now new.now) (λ _. new.now ≡ old.now)
