use Rattle.std.proofs.Common.{refl}
use Rattle.std.specs.Fmt.{digits}
use Rattle.era_text.proofs.example_laws.run_is_refused_where_it_stands.Goals as goal

pub returns-clause-touching : goal.returns-clause-touching
unfolding digits
returns-clause-touching c = refl

pub returns-clause-past_end : goal.returns-clause-past_end
unfolding digits
returns-clause-past_end c = refl

pub returns-clause-present : goal.returns-clause-present
unfolding digits
returns-clause-present c = refl

pub returns-clause-set : goal.returns-clause-set
unfolding digits
returns-clause-set c = refl
