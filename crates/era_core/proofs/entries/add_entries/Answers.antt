use Rattle.std.proofs.Common.{◌-◌, arith}
use Rattle.era_core.proofs.EntryRuns.{adds-none, adds-run, behind-any, behind-later, behind-pushed}
use Rattle.era_core.proofs.entries.add_entries.Goals as goal
use Rattle.era_core.proofs.entries.add_entries.Goals.{else-first-end-via-then-first-end+else-era-ne0, else-first-end-via-else-first-end}

-- the run stands behind the others
pub push-requires-clause-behind : goal.push-requires-clause-behind
push-requires-clause-behind c = behind-any c.args.runs.now c.args.first c.args.first (c.args.end - 1) c.args.era c.requires.behind

-- a run was added
pub returns-in_ok-push-clause-added : goal.returns-in_ok-push-clause-added
returns-in_ok-push-clause-added c =
    rw c.in_ok-push.ensures.ok (adds-run c.args.runs.now c.args.first c.args.end c.args.era c.requires.behind c.if-first-end.true)

-- another one may follow
pub returns-in_ok-push-clause-behind : goal.returns-in_ok-push-clause-behind
returns-in_ok-push-clause-behind c = λ last next lt apart.
    rw c.in_ok-push.ensures.ok (behind-pushed c.args.runs.now c.args.first c.args.end c.args.era last next c.requires.behind lt apart)

-- there was nothing to add
pub returns-else-first-end-clause-added : goal.returns-else-first-end-clause-added
returns-else-first-end-clause-added c =
    adds-none c.args.runs.now c.args.first c.args.end c.args.era c.requires.behind c.requires.order (λ lt. elim c.else-first-end.branch [
      | else-first-end-via-then-first-end+else-era-ne0 w ↦ w.if-era-ne0.false
      | else-first-end-via-else-first-end w ↦ absurd (omega (arith, lt, w.if-first-end.false))
    ])

-- what follows stands behind the others
pub returns-else-first-end-clause-behind : goal.returns-else-first-end-clause-behind
returns-else-first-end-clause-behind c = λ last next lt apart.
    behind-later c.args.runs.now c.args.first c.args.first c.args.end last c.args.era next c.requires.behind lt
