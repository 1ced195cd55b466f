use Rattle.std.proofs.Common.{refl}
use Rattle.std.specs.Fmt.{digits}
use Rattle.era_model.proofs.laws.failed_mark_is_a_metadata_fault.Goals as goal

pub returns-clause-transcript : goal.returns-clause-transcript
unfolding digits
returns-clause-transcript c = refl
