use Rattle.std.proofs.Common.{refl}
use Rattle.std.specs.Fmt.{digits}
use Rattle.era_model.proofs.laws.cut_write_is_a_data_fault.Goals as goal

pub returns-clause-transcript : goal.returns-clause-transcript
unfolding digits
returns-clause-transcript c = refl
