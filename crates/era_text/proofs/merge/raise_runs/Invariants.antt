use Rattle.std.proofs.Common.{take}
use Rattle.era_text.specs.Folding.{RaisedBy, set_value}
use Rattle.era_text.proofs.merge.raise_runs.Given as goal

-- the entries were raised to those so far
abbrev pub invariant-loop-run : goal.invariant-loop-run
invariant-loop-run l = RaisedBy (set_value l.era (take l.run-index l.runs)) l.initial.entries l.entries
