use Rattle.std.proofs.Common.{[], ◌∷◌}
use Rattle.era_model.specs.Transcript.{run_text}
use Rattle.era_reply.proofs.Gives.{adds-then, cut-first}
use Rattle.era_reply.proofs.runs.give_next_run.Goals as goal

-- the sink failed at the comma
pub returns-in_default-clause-added : goal.returns-in_default-clause-added
returns-in_default-clause-added g c =
    cut-first (g.K.Sink.given c.args.sink.now) (g.K.Sink.given c.add.new.sink) c.args.text.now (44 ∷ []) (run_text (c.args.first, c.args.last)) c.in_default.ensures.added

-- the run stands behind the comma
pub returns-clause-added : goal.returns-clause-added
returns-clause-added g c =
    adds-then (g.K.Sink.given c.args.sink.now) (g.K.Sink.given c.add.new.sink) (g.K.Sink.given c.give_run.new.sink)
    c.args.text.now c.add.new.self c.give_run.new.text (44 ∷ []) (run_text (c.args.first, c.args.last))
    c.give_run.result c.in-Ok.ensures.added c.give_run.ensures.added
