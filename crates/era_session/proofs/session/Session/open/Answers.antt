use Rattle.era_session.proofs.Prepared.{over-opened, over-safely, unbegun-unopened}
use Rattle.era_session.proofs.session.Session.open.Goals as goal

pub begin-requires-clause-begun : goal.begin-requires-clause-begun
begin-requires-clause-begun g c = (c.args.metadata, c.in-Ok.ensures.begun)

pub returns-in-Ok-clause-opened : goal.returns-in-Ok-clause-opened
returns-in-Ok-clause-opened g c =
    over-opened g.D.Disk c.args.geometry c.args.metadata c.args.parts.items c.in-Ok.meta c.begin.result c.in-Ok.ensures.started c.in-Ok.ensures.begun c.begin.ensures.over

pub returns-in-Ok-clause-refused : goal.returns-in-Ok-clause-refused
returns-in-Ok-clause-refused g c =
    unbegun-unopened g.D.Disk c.args.geometry c.args.metadata c.args.parts.items c.in-Ok.meta c.begin.result c.in-Ok.ensures.started c.begin.ensures.refused

pub returns-in-Ok-clause-safely : goal.returns-in-Ok-clause-safely
returns-in-Ok-clause-safely g c =
    over-safely g.D.Disk c.args.geometry c.args.metadata c.args.parts.items c.in-Ok.meta c.begin.result c.in-Ok.ensures.safely c.begin.ensures.over c.begin.ensures.refused
