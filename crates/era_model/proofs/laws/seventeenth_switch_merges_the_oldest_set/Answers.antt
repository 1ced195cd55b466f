use Rattle.std.proofs.Common.{refl}
use Rattle.std.specs.Fmt.{digits}
use Rattle.era_model.proofs.laws.seventeenth_switch_merges_the_oldest_set.Goals as goal

pub returns-clause-transcript : goal.returns-clause-transcript
unfolding digits
returns-clause-transcript c = refl
