use Rattle.std.proofs.Common.{◌<◌, length, get_or, refl, ap, arith}
use Rattle.era_keeper.proofs.CopiedRuns.{ends-before, some-block}
use Rattle.era_keeper.proofs.lists.copy_runs.Goals as goal

-- the run has a block
pub push-requires-clause-some : goal.push-requires-clause-some
push-requires-clause-some c =
    let i = c.loop-run.run-index in
    let lt : i < length c.args.runs.now = omega (arith, ap length c.as_slice-run-items.ensures.value) in
    rw c.as_slice-run-items.ensures.value (some-block c.args.runs.now i (get_or c.args.runs.now i (0, 0)) (0, 0) c.as_slice-run-items.ensures.runs lt refl)

-- it stands behind those before it
pub push-requires-clause-behind : goal.push-requires-clause-behind
push-requires-clause-behind c =
    let i = c.loop-run.run-index in
    let lt : i < length c.args.runs.now = omega (arith, ap length c.as_slice-run-items.ensures.value) in
    rw (c.loop-run.invariant, c.as_slice-run-items.ensures.value) (ends-before c.args.runs.now i (get_or c.args.runs.now i (0, 0)) (0, 0) c.as_slice-run-items.ensures.runs lt refl)
