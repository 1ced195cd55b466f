use Rattle.std.proofs.Common.{arith}
use Rattle.era_text.proofs.Raises.{raised-run}
use Rattle.era_text.proofs.merge.raise_run.Goals as goal

-- all entries of the run were raised
pub returns : goal.returns
returns c =
    raised-run c.args.entries.now c.loop-index.entries c.args.first c.args.last c.args.era c.loop-index.index (omega arith) c.loop-index.invariant
    (λ block lt to. omega arith) (omega arith)
