use Rattle.std.proofs.Common.{◌≡◌, take}
use Rattle.era_keeper.proofs.lists.copy_runs.Given as goal

abbrev pub invariant-loop-run : goal.invariant-loop-run
invariant-loop-run l = l.copy ≡ take l.run-index l.runs
