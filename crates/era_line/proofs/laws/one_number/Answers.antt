use Rattle.std.proofs.lemmas.Fmt.{decimal_injective}
use Rattle.era_line.proofs.CutSteps.{HasNo-decimal}
use Rattle.era_line.proofs.laws.one_number.Goals as goal

pub returns-clause-same : goal.returns-clause-same
returns-clause-same c = decimal_injective

pub returns-clause-digits : goal.returns-clause-digits
returns-clause-digits c = HasNo-decimal
