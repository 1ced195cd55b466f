use Rattle.era_keeper.proofs.Stores.{stands-stored, stands-unstored}
use Rattle.era_keeper.proofs.keeper.Keeper.store_era.Goals as goal

pub returns-in_err-store-clause-stands : goal.returns-in_err-store-clause-stands
returns-in_err-store-clause-stands g c = λ opening stands.
    stands-unstored g.D.Disk opening c.args.self.now c.store.new.self c.requires.fits.standing c.store.ensures.moments c.in_err-store.ensures.err.0 c.in_err-store.ensures.err.1
    c.store.ensures.same c.store.ensures.cause.cause.later stands

pub returns-in_ok-store-clause-stands : goal.returns-in_ok-store-clause-stands
returns-in_ok-store-clause-stands g c = λ opening stands.
    stands-stored g.D.Disk opening c.args.self.now c.store.new.self c.requires.fits.standing c.store.ensures.moments c.in_ok-store.ensures.ok.0 c.in_ok-store.ensures.ok.1
    c.store.ensures.same c.store.ensures.cause.cause.later stands
