use Rattle.std.proofs.Common.{arith}
use Rattle.era_meta.proofs.taken_runs.mark_run.Goals as goal

pub returns-clause-others : goal.returns-clause-others
returns-clause-others c = λ block out. c.loop-block.invariant.others block (λ low. let late = out low in omega (arith, late, low, c.loop-block.invariant.end))
