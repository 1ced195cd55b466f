use Rattle.std.proofs.Common.{ap}
use Rattle.era_base.specs.CrashModel.{History}
use Rattle.era_stripe_scripts.proofs.scripts.unsynced.Goals as goal

pub loop-number-init : goal.loop-number-init
loop-number-init c = (ap (λ (h : History). h.now) c.in_ok-disk.ensures.zeros, c.in_ok-disk.ensures.size)
