use Rattle.std.proofs.Common.{◌^◌, ap, sym, ◌∙◌, arith}
use Rattle.era_plan.specs.Numbers.{number_of}
use Rattle.era_plan.proofs.WordNumbers.{number-decimal}
use Rattle.era_plan.proofs.numbers.read_era.Goals as goal

pub returns : goal.returns
returns c =
    sym (ap (number_of (2 ^ 32)) c.in_ok-era.ensures.some ∙ number-decimal (2 ^ 32) c.in_ok-era.era (omega arith) (omega arith))
