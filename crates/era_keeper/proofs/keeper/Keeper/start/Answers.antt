use Rattle.std.proofs.Common.{arith, refl}
use Rattle.era_notes.specs.declared.chunks.Chunks.{Start}
use Rattle.era_keeper.proofs.Starts.{stands-start}
use Rattle.era_keeper.proofs.keeper.Keeper.start.Goals as goal

pub returns-clause-fits : goal.returns-clause-fits
returns-clause-fits g c =
    let new = c.requires.meta in
    let fresh = new.fresh in
    let below = new.below in
    let none = c.requires.seat.none in
    record {
      standing = new.standing;
      era = c.requires.seat.present;
      switched = c.requires.seat.drawn;
      drawn = λ block last. let low = fresh block in absurd (omega (arith, low, last));
      numbers = rw none (omega (arith, below));
      few = rw none (omega arith);
    }

pub returns-clause-stands : goal.returns-clause-stands
returns-clause-stands g c = λ opening opened.
    stands-start g.D.Disk opening (record { meta = c.args.meta; seat = c.args.seat; entries = Start; notes = c.begin-notes.result }) opened c.begin-notes.ensures.notes c.begin-notes.ensures.first refl c.requires.seat.none c.requires.meta.stored c.crashes_now.ensures
