use Rattle.era_model.specs.declared.marked_set.MarkedSet.{MarkedSet}
use Rattle.era_text.specs.Folding.{set_value}
use Rattle.era_text.proofs.Raises.{raised-more, raised-none}
use Rattle.era_text.proofs.merge.raise_sets.Goals as goal

-- none was looked at
pub loop-set-init : goal.loop-set-init
loop-set-init c = raised-none (λ (set : MarkedSet). set_value set.era set.blocks) c.args.entries.now

-- one set more
pub loop-set-preserved : goal.loop-set-preserved
loop-set-preserved c =
    raised-more (λ (set : MarkedSet). set_value set.era set.blocks) c.args.sets.now c.loop-set.set-index c.set-item.result _ c.loop-set.entries _ c.loop-set-test.true c.set-item.is
    c.loop-set.invariant (rw c.as_slice.ensures.value at c.raise_runs.ensures)
