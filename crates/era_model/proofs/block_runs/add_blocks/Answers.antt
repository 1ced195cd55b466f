use Rattle.std.proofs.Common.{◌-◌, arith}
use Rattle.era_model.proofs.FlagsOfRuns.{ends_before-later, ends_before-push}
use Rattle.era_model.proofs.RunsOfFlags.{cover-add}
use Rattle.era_model.proofs.block_runs.add_blocks.Goals as goal

-- the run has the blocks
pub returns-in_ok-push-clause-added : goal.returns-in_ok-push-clause-added
returns-in_ok-push-clause-added c = λ block.
    rw c.in_ok-push.ensures.ok (cover-add c.args.runs.now c.args.first c.args.end block c.if-first-end.true)

-- it ends before them all
pub returns-in_ok-push-clause-ends : goal.returns-in_ok-push-clause-ends
returns-in_ok-push-clause-ends c = λ next behind beyond.
    rw c.in_ok-push.ensures.ok
    (ends_before-push c.args.runs.now (c.args.first, c.args.end - 1) next (ends_before-later c.args.runs.now c.args.first next c.requires.behind (omega arith)) (omega arith))

-- nothing was added
pub returns-else-first-end-clause-ends : goal.returns-else-first-end-clause-ends
returns-else-first-end-clause-ends c = λ next behind beyond. ends_before-later c.args.runs.now c.args.first next c.requires.behind (omega arith)
