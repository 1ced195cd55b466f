use Rattle.std.proofs.Common.{refl}
use Rattle.std.specs.Fmt.{digits}
use Rattle.hex.specs.Hex.{encode_with}
use Rattle.era_model.proofs.laws.one_mark_serves_two_writes.Goals as goal

pub returns-clause-transcript : goal.returns-clause-transcript
unfolding digits encode_with
returns-clause-transcript c = refl
