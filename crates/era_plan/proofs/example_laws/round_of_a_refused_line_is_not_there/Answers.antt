use Rattle.std.proofs.Common.{refl}
use Rattle.std.specs.Fmt.{digits}
use Rattle.hex.proofs.OnLiterals.{hex_on_literals}
use Rattle.era_plan.proofs.example_laws.round_of_a_refused_line_is_not_there.Goals as goal

pub returns-clause-behind : goal.returns-clause-behind
unfolding digits hex_on_literals
returns-clause-behind c = refl

pub returns-clause-first : goal.returns-clause-first
unfolding digits
returns-clause-first c = refl
