use Rattle.std.proofs.Common.{ap, sym, ◌∙◌, arith}
use Rattle.era_plan.specs.Numbers.{number_of}
use Rattle.era_plan.proofs.WordNumbers.{number-decimal, number-past}
use Rattle.era_plan.proofs.numbers.read_lane.Goals as goal

pub returns-then-lane-lt-LANES : goal.returns-then-lane-lt-LANES
returns-then-lane-lt-LANES c =
    sym (ap (number_of 64) c.in_ok-lane.ensures.some ∙ number-decimal 64 c.in_ok-lane.lane (omega arith) (omega (arith, c.if-lane-lt-LANES.true)))

pub returns-else-lane-lt-LANES : goal.returns-else-lane-lt-LANES
returns-else-lane-lt-LANES c =
    sym (ap (number_of 64) c.in_ok-lane.ensures.some ∙ number-past 64 c.in_ok-lane.lane (omega arith) (omega (arith, c.if-lane-lt-LANES.false)))
