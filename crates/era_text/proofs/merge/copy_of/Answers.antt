use Rattle.era_text.proofs.Raises.{ends-take, some-at}
use Rattle.era_text.proofs.merge.copy_of.Goals as goal

pub push-requires-clause-some : goal.push-requires-clause-some
push-requires-clause-some c = some-at c.args.runs.now c.loop-run.run-index _ c.requires c.loop-run-test.true

pub push-requires-clause-behind : goal.push-requires-clause-behind
push-requires-clause-behind c = rw c.loop-run.invariant (ends-take c.args.runs.now c.loop-run.run-index _ c.requires c.loop-run-test.true)
