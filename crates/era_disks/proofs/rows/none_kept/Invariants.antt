use Rattle.std.proofs.Common.{◌≡◌, length}
use Rattle.era_disks.proofs.rows.none_kept.Given as goal

abbrev pub invariant-loop-sector : goal.invariant-loop-sector
invariant-loop-sector l = length l.kept.items ≡ l._sector
