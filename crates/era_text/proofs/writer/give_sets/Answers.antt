use Rattle.std.proofs.Common.{refl, ◌∙◌, subst}
use Rattle.era_model.specs.declared.marked_set.MarkedSet.{MarkedSet}
use Rattle.era_line.proofs.PartSteps.{HasAdded, HasCut, added-none}
use Rattle.era_text.proofs.Gives.{items-added, items-cut}
use Rattle.era_text.specs.Pieces.{set_text}
use Rattle.era_text.proofs.writer.give_sets.Goals as goal

-- none was added at first
pub loop-set-init : goal.loop-set-init
loop-set-init g c = (added-none (g.K.Sink.given c.args.sink.now) c.args.text.now, refl)

-- the sink failed at one
pub returns-in_default-clause-added : goal.returns-in_default-clause-added
returns-in_default-clause-added g c =
    let before = g.K.Sink.given c.loop-set.sink in
    let after = g.K.Sink.given c.give_set.new.sink in
    items-cut set_text c.args.sets.now c.loop-set.set-index c.set-item.result _ before after _ c.loop-set.text c.loop-set-test.true c.loop-set.invariant.0
    (subst (λ (s : MarkedSet). HasCut before c.loop-set.text after (set_text s)) c.set-item.is c.in_default.ensures.added)

-- one more was added
pub loop-set-preserved : goal.loop-set-preserved
loop-set-preserved g c =
    let before = g.K.Sink.given c.loop-set.sink in
    let after = g.K.Sink.given c.give_set.new.sink in (
      items-added set_text c.args.sets.now c.loop-set.set-index c.set-item.result _ before after _ c.loop-set.text c.give_set.new.text c.loop-set-test.true c.loop-set.invariant.0
          (subst (λ (s : MarkedSet). HasAdded before c.loop-set.text after c.give_set.new.text (set_text s)) c.set-item.is c.in-Ok.ensures.added),
      c.in-Ok.ensures.cause.kept ∙ c.loop-set.invariant.1,
    )
