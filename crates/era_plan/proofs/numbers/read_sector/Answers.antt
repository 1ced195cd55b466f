use Rattle.std.proofs.Common.{◌^◌, ap, sym, ◌∙◌, arith}
use Rattle.era_plan.specs.Numbers.{number_of}
use Rattle.era_plan.proofs.WordNumbers.{number-decimal}
use Rattle.era_plan.proofs.numbers.read_sector.Goals as goal

pub returns : goal.returns
returns c =
    sym (ap (number_of (2 ^ 64)) c.in_ok-sector.ensures.some ∙ number-decimal (2 ^ 64) c.in_ok-sector.sector (omega arith) (omega arith))
