use Rattle.std.proofs.Common.{◌≡◌, take}
use Rattle.era_disks.proofs.rows.copy_kept.Given as goal

abbrev pub invariant-loop-old : goal.invariant-loop-old
invariant-loop-old l = l.copy.items ≡ take l.old-index l.kept
