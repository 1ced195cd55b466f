use Rattle.std.proofs.Common.{ℕ, length, subst}
use Rattle.era_base.specs.Flags.{has}
use Rattle.era_meta.specs.AsRuns.{TellSet}
use Rattle.era_meta.proofs.MarkRunsTold.{sets-step, size-at}
use Rattle.era_meta.proofs.as_runs.runs_of_sets.Goals as goal

-- one set more
pub loop-set-preserved : goal.loop-set-preserved
loop-set-preserved c = λ blocks sizes.
    let sets = c.args.sets.now in let at = c.loop-set.set-index in let set = c.set-item.result in
    let own : TellSet c.in_ok-blocks.blocks (length set.blocks) (has set.blocks) = rw c.blocks-in-loop-set.ensures at c.in_ok-blocks.ensures in
    let size = size-at blocks sets at set sizes c.loop-set-test.true c.set-item.is in
    let all : TellSet c.in_ok-blocks.blocks blocks (has set.blocks) = subst (λ (n : ℕ). TellSet c.in_ok-blocks.blocks n (has set.blocks)) size own in
    rw c.in_ok-push.ensures.ok (sets-step c.loop-set.told blocks at sets _ set c.loop-set-test.true c.set-item.is (c.loop-set.invariant blocks sizes) c.era.ensures all)
