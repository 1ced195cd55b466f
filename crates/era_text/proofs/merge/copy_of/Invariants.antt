use Rattle.std.proofs.Common.{◌≡◌, take}
use Rattle.era_text.proofs.merge.copy_of.Given as goal

-- the runs so far were copied
abbrev pub invariant-loop-run : goal.invariant-loop-run
invariant-loop-run l = l.copy ≡ take l.run-index l.runs
