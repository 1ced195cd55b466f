use Rattle.std.proofs.Common.{refl}
use Rattle.std.proofs.lemmas.Bool.{false≢true}
use Rattle.era_core.proofs.Runs.{run-next, stops-at}
use Rattle.era_core.proofs.running.run.Goals as goal

-- the step may not happen
pub returns-then-not-enabled-clause-stopped : goal.returns-then-not-enabled-clause-stopped
returns-then-not-enabled-clause-stopped c =
    stops-at c.args.core c.loop-index.core c.args.steps.now c.loop-index.index c.index-steps-index.result c.loop-index-test.true c.index-steps-index.is
    c.loop-index.invariant (λ may. false≢true (c.if-not-enabled.ensures.1 may))

-- one more step was taken
pub loop-index-preserved : goal.loop-index-preserved
loop-index-preserved c =
    run-next c.args.core c.loop-index.core c.step.new.self c.args.steps.now c.loop-index.index c.index-steps-index.result c.loop-index-test.true c.index-steps-index.is
    c.loop-index.invariant (c.if-not-enabled.ensures.0 refl) c.in-Ok.ensures.ok
