use Rattle.std.proofs.Common.{[], ◌++◌, ◌∙◌, subst, append_assoc}
use Rattle.std.specs.Prelude.{codes}
use Rattle.std.specs.Fmt.{decimal}
use Rattle.era_line.specs.TextBuffer.{Adds}
use Rattle.era_line.proofs.PartSteps.{HasCut, added-then, cut-then}
use Rattle.era_model.specs.Commands.{answer_of}
use Rattle.era_model.specs.Transcript.{answer_text, trail_text}
use Rattle.era_reply.specs.Replies.{trail_of}
use Rattle.era_reply.proofs.Gives.{adds-then, cut-first}
use Rattle.era_reply.proofs.ReplyParts.{reply-parts}
use Rattle.era_reply.proofs.replies.give_reply.Goals as goal

-- the sink failed at the number of the line
pub returns-in_default-clause-added : goal.returns-in_default-clause-added
returns-in_default-clause-added g c =
    let events = trail_of c.args.trail.now in
    let given = g.K.Sink.given c.args.sink.now in
    let numbered = g.K.Sink.given c.give_parts.new.sink in
    subst (HasCut given c.args.text.now numbered) (reply-parts c.args.line events)
    (cut-first given numbered c.args.text.now (decimal c.args.line ++ (codes " " ++ [])) (answer_text (answer_of events) ++ (trail_text events ++ codes "\n"))
    (rw c.from.ensures at c.in_default.ensures.added))

-- it failed at the answer
pub returns-in_default-give_trails_answer-clause-added : goal.returns-in_default-give_trails_answer-clause-added
returns-in_default-give_trails_answer-clause-added g c =
    let events = trail_of c.args.trail.now in
    let given = g.K.Sink.given c.args.sink.now in
    let numbered = g.K.Sink.given c.give_parts.new.sink in
    let answered = g.K.Sink.given c.give_trails_answer.new.sink in
    subst (HasCut given c.args.text.now answered) (reply-parts c.args.line events)
    (cut-then given numbered answered c.args.text.now c.give_parts.new.text (decimal c.args.line ++ (codes " " ++ [])) (answer_text (answer_of events)) (trail_text events ++ codes "\n")
    (rw c.from.ensures at c.in-Ok.ensures.added) c.in_default-give_trails_answer.ensures.added)

-- it failed at the trail
pub returns-in_default-give_trail-clause-added : goal.returns-in_default-give_trail-clause-added
returns-in_default-give_trail-clause-added g c =
    let events = trail_of c.args.trail.now in
    let given = g.K.Sink.given c.args.sink.now in
    let numbered = g.K.Sink.given c.give_parts.new.sink in
    let answered = g.K.Sink.given c.give_trails_answer.new.sink in
    let trailed = g.K.Sink.given c.give_trail.new.sink in
    let first = decimal c.args.line ++ (codes " " ++ []) in
    let answer = answer_text (answer_of events) in
    subst (HasCut given c.args.text.now trailed) (append_assoc first answer (trail_text events ++ codes "\n") ∙ reply-parts c.args.line events)
    (cut-then given answered trailed c.args.text.now c.give_trails_answer.new.text (first ++ answer) (trail_text events) (codes "\n")
    (added-then given numbered answered c.args.text.now c.give_parts.new.text c.give_trails_answer.new.text first answer (rw c.from.ensures at c.in-Ok.ensures.added) c.in-Ok-give_trails_answer.ensures.added)
    c.in_default-give_trail.ensures.added)

-- all parts were added, or the sink failed at the last of them
pub returns-clause-added : goal.returns-clause-added
returns-clause-added g c =
    let events = trail_of c.args.trail.now in
    let given = g.K.Sink.given c.args.sink.now in
    let numbered = g.K.Sink.given c.give_parts.new.sink in
    let answered = g.K.Sink.given c.give_trails_answer.new.sink in
    let trailed = g.K.Sink.given c.give_trail.new.sink in
    let ended = g.K.Sink.given c.add.new.sink in
    let first = decimal c.args.line ++ (codes " " ++ []) in
    let answer = answer_text (answer_of events) in
    let text = c.args.text.now in
    subst (λ bytes. Adds given text ended c.add.new.self bytes c.add.result) (reply-parts c.args.line events)
    (adds-then given numbered ended text c.give_parts.new.text c.add.new.self first (answer ++ (trail_text events ++ codes "\n")) c.add.result
    (rw c.from.ensures at c.in-Ok.ensures.added)
    (adds-then numbered answered ended c.give_parts.new.text c.give_trails_answer.new.text c.add.new.self answer (trail_text events ++ codes "\n") c.add.result
    c.in-Ok-give_trails_answer.ensures.added
    (adds-then answered trailed ended c.give_trails_answer.new.text c.give_trail.new.text c.add.new.self (trail_text events) (codes "\n") c.add.result
    c.in-Ok-give_trail.ensures.added c.add.ensures.added)))
