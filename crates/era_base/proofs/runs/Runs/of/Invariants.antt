use Rattle.std.proofs.Common.{◌-◌}
use Rattle.era_base.proofs.ListedRuns.{ListBelow}
use Rattle.era_base.proofs.runs.Runs.of.Given as goal

-- the blocks before the next one are listed
abbrev pub invariant-loop-first : goal.invariant-loop-first
invariant-loop-first g l = ListBelow (g.S.RunSource.has l.source) l.runs l.from

abbrev pub decreases-loop-first : goal.decreases-loop-first
decreases-loop-first g l = 4294967296 - l.from
