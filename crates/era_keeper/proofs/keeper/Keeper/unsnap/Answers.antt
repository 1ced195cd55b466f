use Rattle.std.proofs.Common.{sym, ◌∙◌}
use Rattle.era_keeper.proofs.Drawn.{drew-one}
use Rattle.era_keeper.proofs.Went.{unsnap-did}
use Rattle.era_keeper.proofs.keeper.Keeper.unsnap.Goals as goal

pub returns-then-not-held-clause-did : goal.returns-then-not-held-clause-did
returns-then-not-held-clause-did g c = record {
  none = sym c.held.ensures ∙ c.if-not-held.true;
  same = c.tell.ensures.same.meta;
  drew = drew-one c.args.self.now c.tell.new.self c.args.pass.now c.tell.new.pass _ c.tell.ensures.drew.0 c.tell.ensures.drew.1;
}

pub returns-in-Ok-clause-stands : goal.returns-in-Ok-clause-stands
returns-in-Ok-clause-stands g c = λ opening stands. c.unsnap_stored.ensures.stands opening (c.begin.ensures.stands opening stands)

pub returns-in-Ok-clause-did : goal.returns-in-Ok-clause-did
returns-in-Ok-clause-did g c =
    unsnap-did g.D.Disk c.args.id c.unsnap_stored.result c.args.self.now c.begin.new.self c.unsnap_stored.new.self c.args.pass.now c.begin.new.pass c.unsnap_stored.new.pass
    (sym c.held.ensures ∙ c.if-not-held.false) c.in-Ok.ensures.did c.unsnap_stored.ensures.went
