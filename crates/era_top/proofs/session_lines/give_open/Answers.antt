use Rattle.std.proofs.Common.{[]}
use Rattle.era_top.proofs.SessionTexts.{open-parts}
use Rattle.era_top.proofs.session_lines.give_open.Goals as goal

-- the sink failed at a part
pub returns-in_default-clause-given : goal.returns-in_default-clause-given
returns-in_default-clause-given g c = λ before is.
    rw (open-parts c.args.geometry.now)
    (rw (c.from.ensures, c.blocks-2.ensures.value) at (c.in_default.ensures.added before [] (c.new-text.ensures before (g.K.Sink.given c.args.sink.now) is)))

-- the parts are the line
pub returns-clause-given : goal.returns-clause-given
returns-clause-given g c = λ before is.
    rw (open-parts c.args.geometry.now)
    (rw (c.from.ensures, c.blocks-2.ensures.value)
    at (c.flush.ensures.flushed before _ (c.in-Ok.ensures.added before [] (c.new-text.ensures before (g.K.Sink.given c.args.sink.now) is))))
