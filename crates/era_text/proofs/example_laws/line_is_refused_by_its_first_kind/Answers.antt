use Rattle.std.proofs.Common.{refl}
use Rattle.std.specs.Fmt.{digits}
use Rattle.era_text.proofs.example_laws.line_is_refused_by_its_first_kind.Goals as goal

pub returns-clause-truncated : goal.returns-clause-truncated
unfolding digits
returns-clause-truncated c = refl

pub returns-clause-unknown : goal.returns-clause-unknown
unfolding digits
returns-clause-unknown c = refl

pub returns-clause-number : goal.returns-clause-number
unfolding digits
returns-clause-number c = refl

pub returns-clause-geometry : goal.returns-clause-geometry
unfolding digits
returns-clause-geometry c = refl

pub returns-clause-era : goal.returns-clause-era
unfolding digits
returns-clause-era c = refl

pub returns-clause-set_number : goal.returns-clause-set_number
unfolding digits
returns-clause-set_number c = refl

pub returns-clause-current_set : goal.returns-clause-current_set
unfolding digits
returns-clause-current_set c = refl

pub returns-clause-trailing : goal.returns-clause-trailing
unfolding digits
returns-clause-trailing c = refl
