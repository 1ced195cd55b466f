use Rattle.era_session.proofs.Served.{request-did, request-draws}
use Rattle.era_session.proofs.session.Session.serve_request.Goals as goal

pub returns-clause-did : goal.returns-clause-did
returns-clause-did g c = request-did g.D.Disk c.args.id c.args.request c.ask.result c.args.self.now c.ask.new.self c.requires.other c.ask.ensures.did c.ask.ensures.drew

pub returns-clause-same : goal.returns-clause-same
returns-clause-same g c = (c.ask.ensures.same, request-draws c.args.id c.args.request c.ask.result c.args.self.now.pass c.ask.new.self.pass c.ask.ensures.drew.drew)
