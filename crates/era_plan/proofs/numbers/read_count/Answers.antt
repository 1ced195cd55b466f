use Rattle.std.proofs.Common.{ap, sym, ◌∙◌, arith}
use Rattle.era_plan.proofs.WordNumbers.{count-decimal, count-none, count-past}
use Rattle.era_plan.proofs.numbers.read_count.Goals.{else-count-gt0-via-then-count-gt0+else-count-le-MOST_SECTORS, else-count-gt0-via-else-count-gt0}
use Rattle.era_plan.specs.Numbers.{count_of}
use Rattle.era_plan.proofs.numbers.read_count.Goals as goal

pub returns-then-count-le-MOST_SECTORS : goal.returns-then-count-le-MOST_SECTORS
returns-then-count-le-MOST_SECTORS c =
    sym (ap count_of c.in_ok-count.ensures.some
    ∙ count-decimal c.in_ok-count.count (omega (arith, c.if-count-gt0.true)) (omega (arith, c.if-count-le-MOST_SECTORS.true)))

pub returns-else-count-gt0 : goal.returns-else-count-gt0
returns-else-count-gt0 c = sym (ap count_of c.in_ok-count.ensures.some ∙ elim c.else-count-gt0.branch [
  | else-count-gt0-via-then-count-gt0+else-count-le-MOST_SECTORS w ↦ count-past c.in_ok-count.count (omega arith) (omega (arith, w.if-count-le-MOST_SECTORS.false))
  | else-count-gt0-via-else-count-gt0 w ↦ count-none c.in_ok-count.count (omega (arith, w.if-count-gt0.false))
])
