use Rattle.std.proofs.Common.{[], ◌++◌, subst, sym}
use Rattle.std.specs.Prelude.{codes}
use Rattle.std.specs.Fmt.{decimal}
use Rattle.era_line.specs.TextBuffer.{Adds}
use Rattle.era_model.specs.Transcript.{runs_text}
use Rattle.era_line.proofs.PartSteps.{HasCut, cut-then}
use Rattle.era_reply.proofs.Gives.{adds-then, cut-first}
use Rattle.era_top.proofs.ReplyParts.{list-parts}
use Rattle.era_top.proofs.replies.give_list.Goals as goal

-- the sink failed at the number of the line
pub returns-in_default-clause-added : goal.returns-in_default-clause-added
returns-in_default-clause-added g c =
    let given = g.K.Sink.given c.args.sink.now in
    let numbered = g.K.Sink.given c.give_parts.new.sink in
    subst (HasCut given c.args.text.now numbered) (sym (list-parts c.args.line c.args.place c.args.blocks.now))
    (cut-first given numbered c.args.text.now (decimal c.args.line ++ (codes " blocks " ++ [])) _ c.in_default.ensures.added)

-- it failed at the runs
pub returns-in_default-give_runs-clause-added : goal.returns-in_default-give_runs-clause-added
returns-in_default-give_runs-clause-added g c =
    let given = g.K.Sink.given c.args.sink.now in
    let numbered = g.K.Sink.given c.give_parts.new.sink in
    let listed = g.K.Sink.given c.give_runs.new.sink in
    subst (HasCut given c.args.text.now listed) (sym (list-parts c.args.line c.args.place c.args.blocks.now))
    (cut-then given numbered listed c.args.text.now c.give_parts.new.text (decimal c.args.line ++ (codes " blocks " ++ [])) (runs_text c.args.blocks.now) _
    c.in-Ok.ensures.added (λ before text is. rw c.as_slice.ensures.value at (c.in_default-give_runs.ensures.added before text is)))

-- the event stands behind them
pub returns-clause-added : goal.returns-clause-added
returns-clause-added g c =
    let given = g.K.Sink.given c.args.sink.now in
    let numbered = g.K.Sink.given c.give_parts.new.sink in
    let listed = g.K.Sink.given c.give_runs.new.sink in
    let ended = g.K.Sink.given c.give_parts-2.new.sink in
    let at_first = c.args.text.now in
    let with_number = c.give_parts.new.text in
    let with_runs = c.give_runs.new.text in
    let at_last = c.give_parts-2.new.text in
    subst (λ bytes. Adds given at_first ended at_last bytes c.give_parts-2.result) (sym (list-parts c.args.line c.args.place c.args.blocks.now))
    (adds-then given numbered ended at_first with_number at_last (decimal c.args.line ++ (codes " blocks " ++ [])) _ c.give_parts-2.result
    c.in-Ok.ensures.added
    (adds-then numbered listed ended with_number with_runs at_last (runs_text c.args.blocks.now) _ c.give_parts-2.result
    (λ before all is. rw c.as_slice.ensures.value at (c.in-Ok-give_runs.ensures.added before all is))
    c.give_parts-2.ensures.added))
