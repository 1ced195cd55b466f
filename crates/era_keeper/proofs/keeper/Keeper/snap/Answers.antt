use Rattle.std.proofs.Common.{refl, sym, ◌∙◌}
use Rattle.era_keeper.proofs.Drawn.{drew-one}
use Rattle.era_keeper.proofs.Went.{snap-did}
use Rattle.era_keeper.proofs.keeper.Keeper.snap.Goals as goal

pub returns-then-held-clause-did : goal.returns-then-held-clause-did
returns-then-held-clause-did g c = record {
  held = sym c.held.ensures ∙ c.if-held.true;
  two = refl;
  same = c.tell.ensures.same.meta;
  drew = drew-one c.args.self.now c.tell.new.self c.args.pass.now c.tell.new.pass _ c.tell.ensures.drew.0 c.tell.ensures.drew.1;
}

pub returns-in-Ok-clause-stands : goal.returns-in-Ok-clause-stands
returns-in-Ok-clause-stands g c = λ opening stands. c.snap_stored.ensures.stands opening (c.begin.ensures.stands opening stands)

pub returns-in-Ok-clause-did : goal.returns-in-Ok-clause-did
returns-in-Ok-clause-did g c =
    snap-did g.D.Disk c.args.id c.snap_stored.result c.args.self.now c.begin.new.self c.snap_stored.new.self c.args.pass.now c.begin.new.pass c.snap_stored.new.pass
    (sym c.held.ensures ∙ c.if-held.false) c.in-Ok.ensures.did c.snap_stored.ensures.went
