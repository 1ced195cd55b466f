use Rattle.std.proofs.Common.{refl}
use Rattle.std.specs.Fmt.{digits}
use Rattle.era_model.proofs.laws.cut_write_keeps_the_era_until_resolved.Goals as goal

pub returns-clause-transcript : goal.returns-clause-transcript
unfolding digits
returns-clause-transcript c = refl
