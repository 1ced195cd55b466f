use Rattle.std.proofs.Common.{refl, sym, ap}
use Rattle.era_gate.specs.Calls.{StripeToken}
use Rattle.era_stripe.specs.Stripes.{part_of, view_of}
use Rattle.era_stripe.proofs.StripeSteps.{fits-again, cut-moved}
use Rattle.era_stripe.proofs.Views.{stands-stay}
use Rattle.era_stripe.proofs.stripe.Stripe.enter.Goals as goal

pub enter-self-requires-clause-tables : goal.enter-self-requires-clause-tables
enter-self-requires-clause-tables g c = (c.requires.may.call.table, c.requires.may.call.pass_table)

pub enter-self-requires-clause-outside : goal.enter-self-requires-clause-outside
enter-self-requires-clause-outside g c = c.requires.may.outside

pub enter-self-requires-clause-lane : goal.enter-self-requires-clause-lane
enter-self-requires-clause-lane g c = c.requires.may.call.lane

pub returns-clause-fits : goal.returns-clause-fits
returns-clause-fits g c =
    let seat = c.enter-self.ensures.seat in
    let fits = c.requires.may.fits in
    let inside = ap (λ (s : StripeToken). s.part.state.inside) seat in
    fits-again g.D.Disk c.args.self.now _ (record {
      index = refl;
      geometry = refl;
      first_block = refl;
      blocks = refl;
      place = refl;
      sectors = refl;
      began = refl;
      table = ap (λ (s : StripeToken). s.table) seat;
    }) fits (ap (λ (s : StripeToken). s.part.stripe) seat) (λ _. sym (ap (λ (s : StripeToken). s.part.era) seat))
    (cut-moved c.args.self.now.geometry (part_of c.args.self.now) c.args.self.now.cut c.args.self.now.seat.part c.enter-self.new.seat.part
    (ap (λ (s : StripeToken). s.part.state.flight) seat) (λ _. inside) fits.cut)

pub returns-clause-stands : goal.returns-clause-stands
returns-clause-stands g c = λ opening stands.
    let seat = c.enter-self.ensures.seat in
    stands-stay g.D.Disk.tells opening (view_of g.D.Disk c.args.self.now) c.enter-self.new.seat.part.state (ap (λ (s : StripeToken). s.part.state.flight) seat)
    (ap (λ (s : StripeToken). s.part.state.entries) seat) stands
