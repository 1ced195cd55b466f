use Rattle.std.proofs.Common.{refl}
use Rattle.std.specs.Fmt.{digits}
use Rattle.era_model.proofs.laws.write_under_way_keeps_the_era.Goals as goal

pub returns : goal.returns
unfolding digits
returns c = record { transcript = refl }
