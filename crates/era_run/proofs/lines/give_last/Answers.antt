use Rattle.std.proofs.Common.{[], ◌++◌}
use Rattle.era_model.specs.Transcript.{end_line, stop_line}
use Rattle.era_run.specs.Endings.{told_stop}
use Rattle.era_run.proofs.Texts.{front-longer}
use Rattle.era_run.proofs.lines.give_last.Goals as goal

-- the sink failed at the reason
pub returns-in_default-clause-given : goal.returns-in_default-clause-given
returns-in_default-clause-given g c = λ before is.
    front-longer before (stop_line (told_stop c.args.stop)) (end_line c.args.era c.args.events) (g.K.Sink.given c.give_stop.new.sink)
    (c.in_default.ensures.added before [] (c.new-text.ensures before (g.K.Sink.given c.args.sink.now) is))

-- the sink failed at the last line
pub returns-in_default-give_end-clause-given : goal.returns-in_default-give_end-clause-given
returns-in_default-give_end-clause-given g c = λ before is.
    c.in_default-give_end.ensures.added before (stop_line (told_stop c.args.stop))
    (c.in-Ok.ensures.added before [] (c.new-text.ensures before (g.K.Sink.given c.args.sink.now) is))

-- all was given
pub returns-clause-given : goal.returns-clause-given
returns-clause-given g c = λ before is.
    c.flush.ensures.flushed before (stop_line (told_stop c.args.stop) ++ end_line c.args.era c.args.events)
    (c.in-Ok-give_end.ensures.added before (stop_line (told_stop c.args.stop))
    (c.in-Ok.ensures.added before [] (c.new-text.ensures before (g.K.Sink.given c.args.sink.now) is)))
