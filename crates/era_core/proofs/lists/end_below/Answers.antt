use Rattle.std.proofs.Common.{arith}
use Rattle.std.proofs.lemmas.Bool.{false≢true}
use Rattle.era_core.proofs.Listing.{cover-last, cover-take}
use Rattle.era_core.proofs.lists.end_below.Goals as goal

-- the run's last block lies in it
pub returns-then-blocks-run : goal.returns-then-blocks-run
returns-then-blocks-run c =
    let last = cover-last c.args.runs.now c.loop-run.run-index (0, 0) c.requires c.loop-run-test.true in
    (λ h. absurd (false≢true h), λ none. let never = none _ c.if-blocks-run.true in cc)

-- one more run ends below
pub loop-run-preserved : goal.loop-run-preserved
loop-run-preserved c = λ block le.
    cover-take c.args.runs.now c.loop-run.run-index (0, 0) block c.loop-run-test.true (c.loop-run.invariant block le) (omega (arith, c.if-blocks-run.false))
