use Rattle.std.proofs.Common.{[], ◌∷◌, take, sym, ◌∙◌, subst}
use Rattle.era_line.proofs.PartSteps.{HasAdded, HasCut, added-then, cut-then}
use Rattle.era_model.specs.Transcript.{trail_text}
use Rattle.era_reply.specs.Replies.{placed, trail_of}
use Rattle.era_reply.proofs.Trails.{text-next, text-split}
use Rattle.era_reply.proofs.replies.give_trail.Goals as goal

-- the sink failed at an event
pub returns-in_default-clause-added : goal.returns-in_default-clause-added
returns-in_default-clause-added g c =
    let trail = c.args.trail.now in
    subst (HasCut (g.K.Sink.given c.args.sink.now) c.args.text.now (g.K.Sink.given c.give_step.new.sink))
    (sym (text-split trail c.loop-entry.entry-index c.entry-item.result c.loop-entry-test.true c.entry-item.is))
    (cut-then _ _ _ _ _ (trail_text (trail_of (take c.loop-entry.entry-index trail))) (trail_text (placed c.entry-item.result.now ∷ [])) _ c.loop-entry.invariant.added c.in_default.ensures.added)

-- one event more was added
pub loop-entry-preserved : goal.loop-entry-preserved
loop-entry-preserved g c =
    let trail = c.args.trail.now in
    record {
      added = subst (HasAdded (g.K.Sink.given c.args.sink.now) c.args.text.now (g.K.Sink.given c.give_step.new.sink) c.give_step.new.text)
          (sym (text-next trail c.loop-entry.entry-index c.entry-item.result c.loop-entry-test.true c.entry-item.is))
          (added-then _ _ _ _ _ _ (trail_text (trail_of (take c.loop-entry.entry-index trail))) (trail_text (placed c.entry-item.result.now ∷ [])) c.loop-entry.invariant.added c.in-Ok.ensures.added);
      kept = c.in-Ok.ensures.cause.kept ∙ c.loop-entry.invariant.kept;
    }
