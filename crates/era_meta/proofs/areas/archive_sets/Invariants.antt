use Rattle.std.proofs.Common.{◌≡◌, ◌+◌, ◌*◌, ◌≤◌, ◌++◌, drop, length}
use Rattle.era_meta.specs.Areas.{archived_from}
use Rattle.era_meta.proofs.areas.archive_sets.Given as goal

-- the sets so far, and those that are left behind them, are all sets
abbrev pub invariant-loop-set : goal.invariant-loop-set
invariant-loop-set l = record {
  sets : l.archive ++ archived_from l.free l.width (drop l.set-index l.sets) ≡ archived_from l.fn.free l.width l.sets;
  count : length l.archive ≡ l.set-index;
  spare : l.spare ≡ drop l.set-index l.fn.spare;
  blocks : length l.sets * l.width ≤ length l.free + l.set-index * l.width;
}
