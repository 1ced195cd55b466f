use Rattle.std.proofs.Common.{◌≡◌, take}
use Rattle.era_text.specs.FirstLine.{greatest_era}
use Rattle.era_text.proofs.runs_taken.greatest_of.Given as goal

-- the greatest era of the runs so far
abbrev pub invariant-loop-run : goal.invariant-loop-run
invariant-loop-run l = l.greatest ≡ greatest_era (take l.run-index l.runs)
