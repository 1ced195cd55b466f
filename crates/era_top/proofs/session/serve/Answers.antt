use Rattle.std.proofs.Common.{refl}
use Rattle.era_top.proofs.SessionSteps.{goes-unopened, goes-behind, goes-no_marks}
use Rattle.era_top.proofs.session.serve.Goals as goal

-- the first line was refused
pub returns-in_default-clause-goes : goal.returns-in_default-clause-goes
returns-in_default-clause-goes g c = λ contents.
    goes-unopened c.args.geometry.now contents _ (g.K.Sink.given c.args.sink.now) (g.K.Sink.given c.give_open.new.sink) (λ _. refl) refl refl refl (λ before is. c.in_default.ensures.given before is)

-- memory for the marks was refused
pub returns-in_default-new-clause-goes : goal.returns-in_default-new-clause-goes
returns-in_default-new-clause-goes g c = λ contents.
    goes-behind c.args.geometry.now contents _ (g.K.Sink.given c.args.sink.now) (g.K.Sink.given c.give_open.new.sink) (g.K.Sink.given c.give_stop.new.sink) c.give_stop.result
    (λ before is. c.in-Ok.ensures.given before is)
    (goes-no_marks c.args.geometry.now contents _ (g.K.Sink.given c.give_open.new.sink) (g.K.Sink.given c.give_stop.new.sink) c.give_stop.result (λ _. refl) refl refl c.give_stop.ensures.printed)

-- the rounds were served
pub returns-clause-goes : goal.returns-clause-goes
returns-clause-goes g c = λ contents.
    goes-behind c.args.geometry.now contents _ (g.K.Sink.given c.args.sink.now) (g.K.Sink.given c.give_open.new.sink) (g.K.Sink.given c.serve_rounds.new.sink) c.serve_rounds.result
    (λ before is. c.in-Ok.ensures.given before is)
    (c.serve_rounds.ensures.goes contents)
