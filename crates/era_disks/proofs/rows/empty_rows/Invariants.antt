use Rattle.std.proofs.Common.{◌≡◌, [], replicate}
use Rattle.era_disks.proofs.rows.empty_rows.Given as goal

abbrev pub invariant-loop-sector : goal.invariant-loop-sector
invariant-loop-sector l = l.rows.items ≡ replicate l._sector []
