use Rattle.era_meta.proofs.CopiedSets.{IsCopied}
use Rattle.era_meta.proofs.copies.copy_sets.Given as goal

-- the sets so far are copied
abbrev pub invariant-loop-set : goal.invariant-loop-set
invariant-loop-set l = IsCopied l.sets l.fn.spare l.set-index l.archive l.spare
