use Rattle.std.specs.Prelude.{codes}
use Rattle.era_model.specs.Transcript.{runs_text}
use Rattle.era_reply.proofs.Gives.{adds-then, cut-first}
use Rattle.era_reply.proofs.answers.give_blocks.Goals as goal

-- the sink failed at the word
pub returns-in_default-clause-added : goal.returns-in_default-clause-added
returns-in_default-clause-added g c =
    cut-first (g.K.Sink.given c.args.sink.now) (g.K.Sink.given c.add.new.sink) c.args.text.now (codes "blocks ") (runs_text c.args.blocks.now) c.in_default.ensures.added

-- the runs stand behind it
pub returns-clause-added : goal.returns-clause-added
returns-clause-added g c =
    adds-then (g.K.Sink.given c.args.sink.now) (g.K.Sink.given c.add.new.sink) (g.K.Sink.given c.give_runs.new.sink) c.args.text.now c.add.new.self c.give_runs.new.text
    (codes "blocks ") (runs_text c.args.blocks.now) c.give_runs.result c.in-Ok.ensures.added (λ before text is. rw c.as_slice.ensures.value at (c.give_runs.ensures.added before text is))
