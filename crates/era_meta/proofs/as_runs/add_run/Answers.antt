use Rattle.std.proofs.Common.{◌-◌, arith}
use Rattle.era_meta.proofs.EntryRuns.{listed-none, listed-push, next-stands, none-stands, stands-longer}
use Rattle.era_meta.proofs.as_runs.add_run.Goals as goal

pub push-requires-clause-behind : goal.push-requires-clause-behind
push-requires-clause-behind c = stands-longer c.args.runs.now c.args.first (c.args.end - 1) c.args.era c.requires.behind

-- the run stands behind the others
pub returns-in_ok-push-clause-added : goal.returns-in_ok-push-clause-added
returns-in_ok-push-clause-added c = λ entries listed same.
    rw c.in_ok-push.ensures.ok (listed-push c.args.runs.now c.args.first c.args.end c.args.era entries c.requires.some listed same)

pub returns-in_ok-push-clause-next : goal.returns-in_ok-push-clause-next
returns-in_ok-push-clause-next c = λ other differ.
    rw c.in_ok-push.ensures.ok (next-stands c.args.runs.now c.args.first c.args.end c.args.era other c.requires.within c.requires.some differ)

-- without an era there is none
pub returns-else-era-gt0-clause-added : goal.returns-else-era-gt0-clause-added
returns-else-era-gt0-clause-added c = λ entries listed same.
    listed-none c.args.runs.now c.args.first c.args.end c.args.era entries c.requires.some (omega arith) listed same

pub returns-else-era-gt0-clause-next : goal.returns-else-era-gt0-clause-next
returns-else-era-gt0-clause-next c = λ other differ.
    none-stands c.args.runs.now c.args.first c.args.end other c.requires.within c.requires.some
