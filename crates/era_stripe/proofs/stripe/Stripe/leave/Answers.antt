use Rattle.std.proofs.Common.{refl, sym, ap, ◌∙◌, subst}
use Rattle.std.proofs.lemmas.Bool.{false≢true}
use Rattle.std.specs.Prelude.{is_some}
use Rattle.era_gate.specs.Calls.{PassToken, StripeToken}
use Rattle.era_stripe.specs.Stripes.{CutFits, part_of, view_of}
use Rattle.era_stripe.proofs.StripeSteps.{fits-again}
use Rattle.era_stripe.proofs.Views.{stands-stay}
use Rattle.era_stripe.proofs.stripe.Stripe.leave.Goals as goal

pub leave-requires-clause-tables : goal.leave-requires-clause-tables
leave-requires-clause-tables g c = (c.requires.may.table, c.requires.may.pass_table)

pub leave-requires-clause-inside : goal.leave-requires-clause-inside
leave-requires-clause-inside g c = c.requires.may.inside

pub leave-requires-clause-idle : goal.leave-requires-clause-idle
leave-requires-clause-idle g c = subst (λ cut. CutFits c.args.self.now.geometry (part_of c.args.self.now) cut c.args.self.now.seat.part) c.requires.may.uncut c.requires.may.fits.cut

pub returns-clause-fits : goal.returns-clause-fits
returns-clause-fits g c =
    let seat = c.leave.ensures.seat in
    let fits = c.requires.may.fits in
    let inside = ap (λ (s : StripeToken). s.part.state.inside) seat in
    let idle = subst (λ cut. CutFits c.args.self.now.geometry (part_of c.args.self.now) cut c.args.self.now.seat.part) c.requires.may.uncut fits.cut in
    fits-again g.D.Disk c.args.self.now _ (record {
      index = refl;
      geometry = refl;
      first_block = refl;
      blocks = refl;
      place = refl;
      sectors = refl;
      began = refl;
      table = ap (λ (s : StripeToken). s.table) seat;
    }) fits (ap (λ (s : StripeToken). s.part.stripe) seat) (λ is. absurd (false≢true (sym inside ∙ is)))
    (subst (λ cut. CutFits c.args.self.now.geometry (part_of c.args.self.now) cut c.leave.new.seat.part) (sym c.requires.may.uncut)
    (ap (λ (s : StripeToken). s.part.state.flight) seat ∙ idle))

pub returns-clause-stands : goal.returns-clause-stands
returns-clause-stands g c = λ opening stands.
    let seat = c.leave.ensures.seat in
    stands-stay g.D.Disk.tells opening (view_of g.D.Disk c.args.self.now) c.leave.new.seat.part.state (ap (λ (s : StripeToken). s.part.state.flight) seat)
    (ap (λ (s : StripeToken). s.part.state.entries) seat) stands

pub returns-clause-rest : goal.returns-clause-rest
returns-clause-rest g c = ap (λ (s : StripeToken). s.part.state.inside) c.leave.ensures.seat ∙ sym (ap is_some c.requires.may.uncut)

pub returns-clause-pass : goal.returns-clause-pass
returns-clause-pass g c = record { lanes = ap (λ (t : PassToken). t.part.lanes) c.leave.ensures.pass; keeps = c.leave.ensures.keeps; knows = c.leave.ensures.knows }
