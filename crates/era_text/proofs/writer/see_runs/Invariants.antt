use Rattle.std.proofs.Common.{take}
use Rattle.era_text.specs.Dumps.{AreSetRuns}
use Rattle.era_text.proofs.writer.see_runs.Given as goal

-- the runs of the sets so far are maximal
abbrev pub invariant-loop-set : goal.invariant-loop-set
invariant-loop-set l = AreSetRuns (take l.set-index l.sets)
