use Rattle.std.proofs.Common.{◌-◌, length, arith}
use Rattle.era_meta.proofs.TakenRuns.{set-ends-at}
use Rattle.era_meta.proofs.taken_runs.take_set_runs.Goals as goal

pub mark_run-requires : goal.mark_run-requires
mark_run-requires c = (
  omega (arith, set-ends-at (length c.args.set.now) c.args.runs.now (length c.args.runs.now - 1 - c.loop-back.back) (0, 0) c.requires.0 (omega arith), c.loop-back.invariant.size),
  omega (arith, c.requires.1, c.loop-back.invariant.size),
)
