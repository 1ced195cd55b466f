use Rattle.std.proofs.Common.{take, refl, sym, ◌∙◌, subst}
use Rattle.era_line.specs.Parts.{parts_text}
use Rattle.era_line.proofs.PartSteps.{HasAdded, HasCut, added-none, added-then, cut-then, parts_text-split, parts_text-more}
use Rattle.era_line.proofs.parts.give_parts.Goals as goal

-- none was added at first
pub loop-part-init : goal.loop-part-init
loop-part-init g c = (added-none (g.K.Sink.given c.args.sink.now) c.args.text.now, refl)

-- the sink failed at a part
pub returns-in_default-clause-added : goal.returns-in_default-clause-added
returns-in_default-clause-added g c =
    let parts = c.args.parts.now in
    subst (HasCut (g.K.Sink.given c.args.sink.now) c.args.text.now (g.K.Sink.given c.give_part.new.sink))
    (sym (parts_text-split parts c.loop-part.part-index _ c.loop-part-test.true))
    (cut-then _ _ _ _ _ (parts_text (take c.loop-part.part-index parts)) _ _ c.loop-part.invariant.0 c.in_default.ensures.added)

-- one part more was added
pub loop-part-preserved : goal.loop-part-preserved
loop-part-preserved g c = (
  subst (HasAdded (g.K.Sink.given c.args.sink.now) c.args.text.now (g.K.Sink.given c.give_part.new.sink) c.give_part.new.text)
      (sym (parts_text-more c.args.parts.now c.loop-part.part-index _ c.loop-part-test.true))
      (added-then _ _ _ _ _ _ (parts_text (take c.loop-part.part-index c.args.parts.now)) _ c.loop-part.invariant.0 c.in-Ok.ensures.added),
  c.in-Ok.ensures.cause.kept ∙ c.loop-part.invariant.1,
)
