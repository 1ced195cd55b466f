use Rattle.era_serve.specs.Replying.{told_at}
use Rattle.era_serve.proofs.ServedSteps.{answered-by}
use Rattle.era_serve.proofs.round.answer_round.Goals as goal

-- the round was run, and its replies were given
pub returns-clause-ok : goal.returns-clause-ok
returns-clause-ok g c =
    answered-by g.D.Disk c.args.commands.now c.args.session.now c.serve_commands.new.session (told_at g.K.Sink c.args.replies.now c.args.sink.now)
    (told_at g.K.Sink c.serve_commands.new.replies c.serve_commands.new.sink) (told_at g.K.Sink c.flush_unless_lost.new.replies c.flush_unless_lost.new.sink)
    c.serve_commands.ensures c.flush_unless_lost.ensures c.requires.text c.requires.sink
