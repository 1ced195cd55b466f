-- Sectors in memory after a crash.
use Rattle.std.specs.Prelude.{◌≡◌, ℕ, Result, OnOk, OnErr}
use Rattle.era_base.specs.CrashModel.{IsClean, IsCrashImage}
use Rattle.era_disks.specs.MemDisk.{state_of, synced_of}
use Rattle.era_disks.specs.Tears.{IsFilled, TakesMemory}
use Rattle.era_disks.specs.declared.mem_state.MemState.{MemState}
use Rattle.era_disks.specs.declared.tear.Tear.{Tear}
use Rattle.era_disks.specs.declared.tear.Tear.TheVariants.{Keep, Old, Fill}

-- The sectors have become one of their crash images: at Ok that of the tear, and then nothing is pending.
pub record Crashes {T E : Type 0} (tear : Tear) (before after : MemState) (result : Result T E) : Type 0 where
  pub image : IsCrashImage (state_of before) (state_of after).seen
  pub clean : OnOk result (IsClean (state_of after) × (synced_of after ≡ (state_of after).seen))
  pub keep : tear ≡ Keep → OnOk result ((state_of after).seen ≡ (state_of before).seen)
  pub old : tear ≡ Old → OnOk result ((state_of after).seen ≡ synced_of before)
  pub fill : (byte : ℕ) → tear ≡ Fill byte → OnOk result (IsFilled byte (state_of before) (state_of after).seen)
  pub full : OnErr result (TakesMemory tear)
