use Rattle.std.proofs.Common.{refl}
use Rattle.std.specs.Fmt.{digits}
use Rattle.era_text.proofs.example_laws.dump_has_a_line_for_each_run.Goals as goal

pub returns-clause-whole : goal.returns-clause-whole
unfolding digits
returns-clause-whole c = refl

pub returns-clause-logical : goal.returns-clause-logical
unfolding digits
returns-clause-logical c = refl

pub returns-clause-merged : goal.returns-clause-merged
unfolding digits
returns-clause-merged c = refl
