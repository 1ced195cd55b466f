use Rattle.era_meta.proofs.Merged.{IsMergedUpTo}
use Rattle.era_meta.proofs.merging.merge.Given as goal

abbrev pub invariant-loop-page : goal.invariant-loop-page
invariant-loop-page l = IsMergedUpTo l.set l.fn.array l.array l.page
