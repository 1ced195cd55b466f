use Rattle.std.proofs.Common.{take}
use Rattle.era_text.specs.Folding.{RaisedBy, sets_value}
use Rattle.era_text.proofs.merge.raise_sets.Given as goal

-- the entries were raised to those so far
abbrev pub invariant-loop-set : goal.invariant-loop-set
invariant-loop-set l = RaisedBy (sets_value (take l.set-index l.sets)) l.initial.entries l.entries
