use Rattle.std.proofs.Common.{◌-◌, length, arith}
use Rattle.era_meta.proofs.TakenRuns.{era-ends-at}
use Rattle.era_meta.proofs.taken_runs.take_era_runs.Goals as goal

pub fill_run-requires : goal.fill_run-requires
fill_run-requires c = (
  omega (arith, era-ends-at (length c.args.array.now) c.args.runs.now (length c.args.runs.now - 1 - c.loop-back.back) (0, 0, 0) c.requires.within.0 (omega arith), c.loop-back.invariant.size),
  omega (arith, c.requires.within.1, c.loop-back.invariant.size),
)
