use Rattle.std.proofs.Common.{inl}
use Rattle.era_keeper.proofs.DigestSteps.{step-unstored}
use Rattle.era_keeper.proofs.Went.{digest-did}
use Rattle.era_keeper.proofs.keeper.Keeper.digest.Goals as goal

pub returns-in-Ok-clause-stands : goal.returns-in-Ok-clause-stands
returns-in-Ok-clause-stands g c = λ opening stands. c.digest_stored.ensures.stands opening (c.begin.ensures.stands opening stands)

pub returns-in-Ok-clause-did : goal.returns-in-Ok-clause-did
returns-in-Ok-clause-did g c =
    digest-did g.D.Disk c.args.id c.digest_stored.result c.args.self.now c.begin.new.self c.digest_stored.new.self c.args.pass.now c.begin.new.pass c.digest_stored.new.pass
    c.in-Ok.ensures.did c.digest_stored.ensures.went

pub returns-in-Err-clause-did : goal.returns-in-Err-clause-did
returns-in-Err-clause-did g c =
    let first = c.in-Err.ensures.did.1 in
    (step-unstored g.D.Disk c.args.self.now.meta c.begin.new.self.meta c.requires.may.fits.standing first.failed, inl first)
