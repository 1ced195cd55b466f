use Rattle.std.proofs.Common.{refl, sym, ap, ◌∙◌}
use Rattle.era_gate.specs.Calls.{StripeToken}
use Rattle.era_stripe.specs.Stripes.{part_of, view_of}
use Rattle.era_stripe.proofs.StripeSteps.{fits-again, cut-moved}
use Rattle.era_stripe.proofs.Views.{stands-stay}
use Rattle.era_stripe.proofs.stripe.Stripe.look.Goals as goal

pub returns-clause-fits : goal.returns-clause-fits
returns-clause-fits g c =
    let seat = c.look.ensures.seat in
    let fits = c.requires.fits in
    let inside = ap (λ (s : StripeToken). s.part.state.inside) seat in
    fits-again g.D.Disk c.args.self.now _ (record {
      index = refl;
      geometry = refl;
      first_block = refl;
      blocks = refl;
      place = refl;
      sectors = refl;
      began = refl;
      table = ap (λ (s : StripeToken). s.table) seat;
    }) fits (ap (λ (s : StripeToken). s.part.stripe) seat) (λ is. fits.era (sym inside ∙ is) ∙ sym (ap (λ (s : StripeToken). s.part.era) seat))
    (cut-moved c.args.self.now.geometry (part_of c.args.self.now) c.args.self.now.cut c.args.self.now.seat.part c.look.new.seat.part
    (ap (λ (s : StripeToken). s.part.state.flight) seat) (λ is. inside ∙ is) fits.cut)

pub returns-clause-stands : goal.returns-clause-stands
returns-clause-stands g c = λ opening stands.
    let seat = c.look.ensures.seat in
    stands-stay g.D.Disk.tells opening (view_of g.D.Disk c.args.self.now) c.look.new.seat.part.state (ap (λ (s : StripeToken). s.part.state.flight) seat)
    (ap (λ (s : StripeToken). s.part.state.entries) seat) stands
