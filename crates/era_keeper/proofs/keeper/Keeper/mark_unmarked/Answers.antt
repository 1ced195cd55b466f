use Rattle.std.proofs.Common.{inl}
use Rattle.era_keeper.proofs.Begun.{mark-did, may-begun}
use Rattle.era_keeper.proofs.keeper.Keeper.mark_unmarked.Goals as goal

pub returns-in-Err-clause-fits : goal.returns-in-Err-clause-fits
returns-in-Err-clause-fits g c = c.in-Err.ensures.did.0

pub returns-in-Err-clause-did : goal.returns-in-Err-clause-did
returns-in-Err-clause-did g c = inl c.in-Err.ensures.did.1

pub mark_stored-requires-clause-may : goal.mark_stored-requires-clause-may
mark_stored-requires-clause-may g c =
    may-begun g.D.Disk c.args.gate.now c.args.self.now c.begin.new.self c.args.pass.now c.begin.new.pass c.args.id 2 c.in-Ok.ensures.did c.requires.may

pub returns-in-Ok-clause-stands : goal.returns-in-Ok-clause-stands
returns-in-Ok-clause-stands g c = λ opening stands. c.mark_stored.ensures.stands opening (c.begin.ensures.stands opening stands)

pub returns-in-Ok-clause-did : goal.returns-in-Ok-clause-did
returns-in-Ok-clause-did g c =
    mark-did g.D.Disk c.args.id c.args.block c.mark_stored.result c.args.self.now c.begin.new.self c.mark_stored.new.self c.args.pass.now c.begin.new.pass c.mark_stored.new.pass
    c.in-Ok.ensures.did c.mark_stored.ensures.went
