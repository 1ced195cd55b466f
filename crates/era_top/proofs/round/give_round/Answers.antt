use Rattle.std.proofs.Common.{[]}
use Rattle.era_top.proofs.round.give_round.Goals as goal

-- the sink failed at a reply
pub returns-in_default-clause-given : goal.returns-in_default-clause-given
returns-in_default-clause-given g c = λ before is.
    c.in_default.ensures.added before [] (c.new-text.ensures before (g.K.Sink.given c.args.sink.now) is)

-- the replies are the text
pub returns-clause-given : goal.returns-clause-given
returns-clause-given g c = λ before is.
    c.flush.ensures.flushed before _ (c.in-Ok.ensures.added before [] (c.new-text.ensures before (g.K.Sink.given c.args.sink.now) is))
