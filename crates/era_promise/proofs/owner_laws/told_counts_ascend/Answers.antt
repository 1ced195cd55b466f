use Rattle.era_promise.proofs.ToldCounts.{counts-ascend}
use Rattle.era_promise.proofs.owner_laws.told_counts_ascend.Goals as goal

pub returns : goal.returns
returns c = counts-ascend
