use Rattle.std.proofs.Common.{refl}
use Rattle.std.specs.Fmt.{digits}
use Rattle.era_model.proofs.laws.digests_keep_last_eras.Goals as goal

pub returns-clause-transcript : goal.returns-clause-transcript
unfolding digits
returns-clause-transcript c = refl
