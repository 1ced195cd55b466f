use Rattle.std.proofs.Common.{◌≡◌, true, ap, sym, subst}
use Rattle.era_gate.specs.Calls.{KeeperToken, has_mark}
use Rattle.era_keeper.proofs.keeper.Keeper.set_bit.Goals as goal

pub set-requires-clause-marked : goal.set-requires-clause-marked
set-requires-clause-marked g c =
    let keeper = c.args.self.now in
    subst (λ era. has_mark c.args.block era keeper.seat.part.state.entries ≡ true) (sym c.requires.fits.era) (c.requires.fits.drawn c.args.block c.requires.marked)

pub returns-clause-marked : goal.returns-clause-marked
returns-clause-marked g c =
    let keeper = c.args.self.now in
    subst (λ (s : KeeperToken). has_mark c.args.block s.part.state.era s.part.state.entries ≡ true) (sym c.set.ensures.seat)
    (subst (λ era. has_mark c.args.block era keeper.seat.part.state.entries ≡ true) (sym c.requires.fits.era) (c.requires.fits.drawn c.args.block c.requires.marked))

pub returns-clause-same : goal.returns-clause-same
returns-clause-same g c =
    let keeper = c.args.self.now in
    ap (λ (s : KeeperToken). record { meta = keeper.meta; seat = s; entries = keeper.entries; notes = keeper.notes }) c.set.ensures.seat
