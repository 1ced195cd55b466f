use Rattle.std.proofs.Common.{arith, refl, sym, ap, subst}
use Rattle.era_gate.specs.Passes.{no_write}
use Rattle.era_model.specs.declared.event.Event.TheVariants.{Refused}
use Rattle.era_model.specs.declared.event.Why.TheVariants.{DataFault}
use Rattle.era_stripe.specs.Stripes.{StripeView, ViewStands, view_of}
use Rattle.era_stripe.proofs.ReadBack.{owes-refused}
use Rattle.era_stripe.proofs.StripeDraws.{drew-one}
use Rattle.era_stripe.proofs.StripeSteps.{fits-noted, stay-noted}
use Rattle.era_stripe.proofs.Views.{stands-noted}
use Rattle.era_stripe.proofs.stripe.Stripe.refuse_as.Goals as goal

pub note-requires : goal.note-requires
note-requires g c =
    let call = c.requires.call in
    record { may = record { table = call.table; pass_table = call.pass_table; may = tt; asks = (call.lane, omega (arith, call.budget)); room = omega (arith, call.room) } }

pub returns-clause-fits : goal.returns-clause-fits
returns-clause-fits g c =
    fits-noted g.D.Disk c.args.self.now c.note.new.self (Refused c.args.id c.args.kind (DataFault c.args.self.now.index c.args.count)) c.note.result c.note.ensures.same c.note.ensures.seat refl c.requires.fits

pub returns-clause-stands : goal.returns-clause-stands
returns-clause-stands g c = λ opening new stands.
    let view = view_of g.D.Disk c.args.self.now in
    let owes = owes-refused g.D.Disk.tells opening view c.args.id c.args.kind c.args.count new.present new.rose stands in
    subst (ViewStands g.D.Disk.tells opening) (sym c.note.ensures.view)
    (stands-noted g.D.Disk.tells opening view (Refused c.args.id c.args.kind (DataFault c.args.self.now.index c.args.count)) c.note.result c.note.ensures.drew.next.ascend owes stands)

pub returns-clause-drew : goal.returns-clause-drew
returns-clause-drew g c =
    drew-one c.args.self.now c.note.new.self c.args.pass.now c.note.new.pass (Refused c.args.id c.args.kind (DataFault c.args.self.now.index c.args.count)) c.note.result no_write
    (ap (λ (v : StripeView). v.entries) c.note.ensures.view) c.note.ensures.drew

pub returns-clause-stay : goal.returns-clause-stay
returns-clause-stay g c =
    stay-noted c.args.self.now c.note.new.self (Refused c.args.id c.args.kind (DataFault c.args.self.now.index c.args.count)) c.note.result c.note.ensures.same c.note.ensures.seat refl

pub returns-clause-same : goal.returns-clause-same
returns-clause-same g c = c.note.ensures.same
