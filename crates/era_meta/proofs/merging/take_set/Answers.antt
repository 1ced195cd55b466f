use Rattle.std.proofs.Common.{length, ap, ◌∙◌}
use Rattle.era_meta.proofs.Merged.{length-transcribed}
use Rattle.era_meta.proofs.merging.take_set.Goals as goal

pub returns-clause-len : goal.returns-clause-len
returns-clause-len c = ap length c.merge.ensures ∙ length-transcribed c.take_first-oldest.result 0 c.args.array.now
