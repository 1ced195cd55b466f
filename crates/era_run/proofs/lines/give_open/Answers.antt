use Rattle.std.proofs.Common.{[]}
use Rattle.era_run.proofs.LineParts.{open-parts}
use Rattle.era_run.proofs.lines.give_open.Goals as goal

-- the sink failed at a part
pub returns-in_default-clause-given : goal.returns-in_default-clause-given
returns-in_default-clause-given g c = λ before is.
    rw (open-parts c.args.geometry.now c.args.era)
    (rw (c.from.ensures, c.from-2.ensures, c.blocks-2.ensures.value) at (c.in_default.ensures.added before [] (c.new-text.ensures before (g.K.Sink.given c.args.sink.now) is)))

-- the parts are the line
pub returns-clause-given : goal.returns-clause-given
returns-clause-given g c = λ before is.
    rw (open-parts c.args.geometry.now c.args.era)
    (rw (c.from.ensures, c.from-2.ensures, c.blocks-2.ensures.value)
    at (c.flush.ensures.flushed before _ (c.in-Ok.ensures.added before [] (c.new-text.ensures before (g.K.Sink.given c.args.sink.now) is))))
