use Rattle.std.proofs.Common.{rules, ◌<◌, sym, ◌∙◌}
use Rattle.era_keeper.proofs.Begun.{checkpoint-did}
use Rattle.era_keeper.proofs.Drawn.{drew-one}
use Rattle.era_keeper.proofs.keeper.Keeper.checkpoint.Goals as goal

pub returns-then-era-clause-did : goal.returns-then-era-clause-did
returns-then-era-clause-did g c = record {
  last = sym c.era.ensures ∙ c.if-era.true;
  same = c.tell.ensures.same.meta;
  drew = drew-one c.args.self.now c.tell.new.self c.args.pass.now c.tell.new.pass _ c.tell.ensures.drew.0 c.tell.ensures.drew.1;
}

pub returns-in-Ok-clause-did : goal.returns-in-Ok-clause-did
returns-in-Ok-clause-did g c =
    let old = c.args.self.now in
    let below : old.meta.marks.era < 4294967295 = search rules in
    checkpoint-did g.D.Disk c.args.id c.checkpoint_stored.result old c.begin.new.self c.checkpoint_stored.new.self c.args.pass.now c.begin.new.pass c.checkpoint_stored.new.pass c.in-Ok.ensures.did below
    c.checkpoint_stored.ensures.went
