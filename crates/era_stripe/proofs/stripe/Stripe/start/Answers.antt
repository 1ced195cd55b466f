use Rattle.std.proofs.Common.{None, refl, sym, ◌∙◌}
use Rattle.std.proofs.lemmas.Bool.{false≢true}
use Rattle.era_notes.specs.declared.chunks.Chunks.{Start}
use Rattle.era_stripe.proofs.Starts.{stands-start}
use Rattle.era_stripe.proofs.stripe.Stripe.start.Goals as goal

pub returns-clause-fits : goal.returns-clause-fits
returns-clause-fits g c = record {
  size = c.requires.size;
  seat = c.requires.seat.number;
  era = λ inside. absurd (false≢true (sym c.requires.seat.outside ∙ inside));
  cut = c.requires.seat.idle;
}

pub returns-clause-rest : goal.returns-clause-rest
returns-clause-rest g c = c.requires.seat.outside

pub returns-clause-stands : goal.returns-clause-stands
returns-clause-stands g c = λ opening part holds.
    stands-start g.D.Disk opening
    (record {
      disk = c.args.disk;
      index = c.args.index;
      geometry = c.args.geometry;
      first_block = c.args.first_block;
      blocks = c.args.blocks;
      seat = c.args.seat;
      era = 0;
      cut = None;
      entries = Start;
      notes = c.begin-notes.result;
      room = None;
    })
    c.args.disk part c.begin-notes.ensures.notes c.begin-notes.ensures.first refl refl c.requires.seat.idle c.requires.seat.none holds
