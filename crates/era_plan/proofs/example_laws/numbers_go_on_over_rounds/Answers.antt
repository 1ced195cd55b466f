use Rattle.std.proofs.Common.{refl}
use Rattle.std.specs.Fmt.{digits}
use Rattle.era_plan.proofs.example_laws.numbers_go_on_over_rounds.Goals as goal

pub returns-clause-rounds : goal.returns-clause-rounds
unfolding digits
returns-clause-rounds c = refl

pub returns-clause-ended : goal.returns-clause-ended
unfolding digits
returns-clause-ended c = refl
