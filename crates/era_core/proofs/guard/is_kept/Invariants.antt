use Rattle.std.proofs.Common.{◌≡◌, drop}
use Rattle.era_core.specs.Machine.{was_kept}
use Rattle.era_core.proofs.guard.is_kept.Given as goal

abbrev pub invariant-loop-other : goal.invariant-loop-other
invariant-loop-other l = was_kept l.kept l.number ≡ was_kept (drop l.other-index l.kept) l.number
