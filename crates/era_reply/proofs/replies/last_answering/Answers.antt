use Rattle.std.proofs.Common.{◌≡◌, ◌+◌, take, sym, ◌∙◌, subst, Option, Bor}
use Rattle.era_model.specs.Commands.{answer_of}
use Rattle.era_model.specs.declared.event.Event.{Event}
use Rattle.era_reply.specs.Replies.{told_by, trail_of}
use Rattle.era_reply.proofs.Trails.{told-anew, told-kept}
use Rattle.era_reply.proofs.replies.last_answering.Goals as goal
use Rattle.era_reply.proofs.replies.last_answering.Goals.{then-gives_answer, else-gives_answer}

-- an event gives the answer, or leaves the one before
pub loop-entry-preserved : goal.loop-entry-preserved
loop-entry-preserved c =
    let trail = c.args.trail.now in
    let i = c.loop-entry.entry-index in
    let Tells : Option (Bor Event) → Type 0 = λ found. told_by found ≡ answer_of (trail_of (take (i + 1) trail)) in
    elim c.if-gives_answer.branch [
      | then-gives_answer w ↦ subst Tells (sym w.found-is) (told-anew trail i c.entry-item.result c.loop-entry-test.true c.entry-item.is (sym c.gives_answer.ensures ∙ w.if-gives_answer.true))
      | else-gives_answer w ↦ subst Tells (sym w.found-is) (told-kept trail i c.entry-item.result (told_by c.loop-entry.found) c.loop-entry-test.true c.entry-item.is (sym c.gives_answer.ensures ∙ w.if-gives_answer.false) c.loop-entry.invariant)
    ]
