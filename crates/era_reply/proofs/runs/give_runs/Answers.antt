use Rattle.std.proofs.Common.{subst, sym}
use Rattle.era_line.specs.TextBuffer.{Adds}
use Rattle.era_model.specs.Transcript.{more_runs_text, run_text, runs_text}
use Rattle.era_line.proofs.PartSteps.{HasCut}
use Rattle.era_reply.proofs.Gives.{adds-then, cut-first}
use Rattle.era_reply.proofs.runs.give_runs.Goals as goal

-- the sink failed at the first run
pub returns-in_default-give_run-clause-added : goal.returns-in_default-give_run-clause-added
returns-in_default-give_run-clause-added g c =
    subst (λ runs. HasCut (g.K.Sink.given c.args.sink.now) c.args.text.now (g.K.Sink.given c.give_run.new.sink) (runs_text runs)) (sym c.in-Some.ensures.cases.0)
    (cut-first (g.K.Sink.given c.args.sink.now) (g.K.Sink.given c.give_run.new.sink) c.args.text.now (run_text c.in-Some.run'.now) (more_runs_text c.in-Some.more.now)
    c.in_default-give_run.ensures.added)

-- the others stand behind it
pub returns-clause-added : goal.returns-clause-added
returns-clause-added g c =
    let given = g.K.Sink.given c.args.sink.now in
    let first = g.K.Sink.given c.give_run.new.sink in
    let all = g.K.Sink.given c.give_more_runs.new.sink in
    subst (λ runs. Adds given c.args.text.now all c.give_more_runs.new.text (runs_text runs) c.give_more_runs.result) (sym c.in-Some.ensures.cases.0)
    (adds-then given first all c.args.text.now c.give_run.new.text c.give_more_runs.new.text (run_text c.in-Some.run'.now) (more_runs_text c.in-Some.more.now)
    c.give_more_runs.result c.in-Ok.ensures.added c.give_more_runs.ensures.added)
