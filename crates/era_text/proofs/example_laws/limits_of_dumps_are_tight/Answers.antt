use Rattle.std.proofs.Common.{refl}
use Rattle.std.specs.Fmt.{digits}
use Rattle.era_text.proofs.example_laws.limits_of_dumps_are_tight.Goals as goal

pub returns-clause-bare : goal.returns-clause-bare
unfolding digits
returns-clause-bare c = refl

pub returns-clause-touching : goal.returns-clause-touching
unfolding digits
returns-clause-touching c = tt

pub returns-clause-sixteen : goal.returns-clause-sixteen
unfolding digits
returns-clause-sixteen c = tt

pub returns-clause-seventeen : goal.returns-clause-seventeen
unfolding digits
returns-clause-seventeen c = refl

pub returns-clause-long : goal.returns-clause-long
unfolding digits
returns-clause-long c = refl

pub returns-clause-short : goal.returns-clause-short
unfolding digits
returns-clause-short c = refl
