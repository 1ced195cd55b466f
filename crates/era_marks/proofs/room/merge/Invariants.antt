use Rattle.era_marks.proofs.SetLists.{IsMerging}
use Rattle.era_marks.proofs.room.merge.Given as goal

-- the entries before the present block are merged
abbrev pub invariant-loop-block : goal.invariant-loop-block
invariant-loop-block l = IsMerging l.set l.initial.array.items l.array.items l.block
