use Rattle.std.proofs.Common.{◌≡◌}
use Rattle.era_disks.specs.MemDisk.{history_of, sectors_of}
use Rattle.era_stripe_scripts.specs.Benches.{IsBlank}
use Rattle.era_stripe_scripts.proofs.scripts.unsynced.Given as goal

abbrev pub invariant-loop-number : goal.invariant-loop-number
invariant-loop-number l = IsBlank (history_of l.disk).now × (sectors_of l.disk ≡ 20)
