use Rattle.std.proofs.Common.{refl}
use Rattle.std.specs.Fmt.{digits}
use Rattle.hex.proofs.OnLiterals.{hex_on_literals}
use Rattle.era_plan.proofs.example_laws.line_is_refused_by_its_first_kind.Goals as goal

pub returns-clause-hex : goal.returns-clause-hex
unfolding digits hex_on_literals
returns-clause-hex c = refl

pub returns-clause-odd : goal.returns-clause-odd
unfolding digits hex_on_literals
returns-clause-odd c = refl

pub returns-clause-lane : goal.returns-clause-lane
unfolding digits
returns-clause-lane c = refl

pub returns-clause-zeros : goal.returns-clause-zeros
unfolding digits
returns-clause-zeros c = refl

pub returns-clause-era : goal.returns-clause-era
unfolding digits
returns-clause-era c = refl

pub returns-clause-count : goal.returns-clause-count
unfolding digits
returns-clause-count c = refl

pub returns-clause-none : goal.returns-clause-none
unfolding digits
returns-clause-none c = refl

pub returns-clause-sector : goal.returns-clause-sector
unfolding digits
returns-clause-sector c = refl
