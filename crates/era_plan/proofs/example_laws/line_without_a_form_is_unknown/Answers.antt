use Rattle.std.proofs.Common.{refl}
use Rattle.std.specs.Fmt.{digits}
use Rattle.era_plan.proofs.example_laws.line_without_a_form_is_unknown.Goals as goal

pub returns-clause-empty : goal.returns-clause-empty
unfolding digits
returns-clause-empty c = refl

pub returns-clause-spaces : goal.returns-clause-spaces
unfolding digits
returns-clause-spaces c = refl

pub returns-clause-further : goal.returns-clause-further
unfolding digits
returns-clause-further c = refl

pub returns-clause-name : goal.returns-clause-name
unfolding digits
returns-clause-name c = refl

pub returns-clause-lane : goal.returns-clause-lane
unfolding digits
returns-clause-lane c = refl

pub returns-clause-long : goal.returns-clause-long
unfolding digits
returns-clause-long c = refl

pub returns-clause-short : goal.returns-clause-short
unfolding digits
returns-clause-short c = refl
