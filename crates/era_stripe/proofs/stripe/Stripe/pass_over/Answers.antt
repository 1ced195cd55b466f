use Rattle.std.proofs.Common.{arith, refl, sym, ap, ◌∙◌, subst}
use Rattle.std.proofs.lemmas.Bool.{false≢true}
use Rattle.std.specs.Prelude.{is_some}
use Rattle.era_gate.specs.Passes.{no_write}
use Rattle.era_gate.specs.StateAfter.{flights}
use Rattle.era_model.specs.declared.event.Event.TheVariants.{Unsettled}
use Rattle.era_model.specs.Writes.{is_cut}
use Rattle.era_model.proofs.CommandReplies.{same_id-refl}
use Rattle.era_notes.proofs.Drawn.{cut-own}
use Rattle.era_stripe.specs.Results.{PassedOver}
use Rattle.era_stripe.specs.Stripes.{StripeView, ViewStands, cut_flight_of, view_of}
use Rattle.era_stripe.proofs.ReadBack.{owes-unsettled}
use Rattle.era_stripe.proofs.StripeDraws.{drew-one}
use Rattle.era_stripe.proofs.StripeSteps.{cut-there, fits-noted, stay-noted}
use Rattle.era_stripe.proofs.Views.{stands-noted}
use Rattle.era_stripe.proofs.stripe.Stripe.pass_over.Goals as goal

pub unreachable-requires : goal.unreachable-requires
unreachable-requires g c = false≢true (sym (ap is_some (sym c.take.ensures.value ∙ c.in_default.is)) ∙ c.requires.cut)

pub note-requires : goal.note-requires
note-requires g c =
    let call = c.requires.may.call in
    let cut = c.in-Some.cut in
    let there = cut-there c.args.self.now cut (sym c.take.ensures.value ∙ c.in-Some.is) c.requires.may.fits.cut in
    record {
      may = record {
        table = call.table;
        pass_table = call.pass_table;
        may = ap (λ flight. is_cut (flights flight) cut.id) there.flight ∙ cut-own (cut_flight_of cut there.bytes) cut.id (same_id-refl cut.id) refl;
        asks = (call.lane, omega (arith, call.budget));
        room = omega (arith, call.room);
      };
    }

pub returns-clause-fits : goal.returns-clause-fits
returns-clause-fits g c =
    let cut = c.in-Some.cut in
    let fits = c.requires.may.fits in
    let there = cut-there c.args.self.now cut (sym c.take.ensures.value ∙ c.in-Some.is) fits.cut in
    fits-noted g.D.Disk _ c.note.new.self (Unsettled c.args.by cut.id c.args.count) c.note.result c.note.ensures.same c.note.ensures.seat refl
    (record { size = fits.size; seat = fits.seat; era = fits.era; cut = there })

pub returns-clause-stands : goal.returns-clause-stands
returns-clause-stands g c = λ opening new stands.
    let cut = c.in-Some.cut in
    let view = view_of g.D.Disk c.args.self.now in
    let there = cut-there c.args.self.now cut (sym c.take.ensures.value ∙ c.in-Some.is) c.requires.may.fits.cut in
    let owes = owes-unsettled g.D.Disk.tells opening view c.args.by cut.id c.args.count (cut_flight_of cut there.bytes) there.flight (same_id-refl cut.id) refl new.present new.rose stands in
    subst (ViewStands g.D.Disk.tells opening) (sym c.note.ensures.view) (stands-noted g.D.Disk.tells opening view (Unsettled c.args.by cut.id c.args.count) c.note.result c.note.ensures.drew.next.ascend owes stands)

pub returns-clause-drew : goal.returns-clause-drew
returns-clause-drew g c =
    let cut = c.in-Some.cut in
    let is = sym c.take.ensures.value ∙ c.in-Some.is in
    subst (λ found. PassedOver found c.args.by c.args.count c.args.self.now c.note.new.self c.args.pass.now c.note.new.pass) (sym is)
    (drew-one c.args.self.now c.note.new.self c.args.pass.now c.note.new.pass (Unsettled c.args.by cut.id c.args.count) c.note.result no_write
    (ap (λ (v : StripeView). v.entries) c.note.ensures.view) c.note.ensures.drew)

pub returns-clause-stay : goal.returns-clause-stay
returns-clause-stay g c =
    let is = sym c.take.ensures.value ∙ c.in-Some.is in
    let stay = stay-noted _ c.note.new.self (Unsettled c.args.by c.in-Some.cut.id c.args.count) c.note.result c.note.ensures.same c.note.ensures.seat refl in
    record { inside = stay.inside; flight = stay.flight; seen = stay.seen; era = stay.era; cut = stay.cut ∙ sym is; table = stay.table }

pub returns-clause-same : goal.returns-clause-same
returns-clause-same g c =
    let is = sym c.take.ensures.value ∙ c.in-Some.is in
    let same = c.note.ensures.same in
    record {
      disk = same.disk;
      index = same.index;
      geometry = same.geometry;
      first_block = same.first_block;
      blocks = same.blocks;
      era = same.era;
      cut = same.cut ∙ sym is;
      began = same.began;
      room = same.room;
    }
