use Rattle.std.proofs.Common.{◌≡◌, ℕ, ◌<◌, ◌≤◌, List, length, slice_get, Some, refl, sym, ap, ◌∙◌, subst, arith}
use Rattle.std.proofs.lemmas.Option.{slice_get_read}
use Rattle.era_gate.specs.Passes.{no_write}
use Rattle.era_model.specs.declared.event.Event.{Event}
use Rattle.era_session.proofs.AtStripes.{count-left, keeper-same, session-fits, session-same, session-stands, stripes-left, stripes-stand, with-stripe}
use Rattle.era_session.specs.Sessions.{SamePlan}
use Rattle.era_session.proofs.Requested.{AskForMarks, ask-settled, drew-asked}
use Rattle.era_session.proofs.session.Session.settle_at.Goals as goal

pub settle_stripe-requires : goal.settle_stripe-requires
settle_stripe-requires g c =
    let fits = c.requires.may.fits in
    let found = slice_get_read c.args.self.now.stripes.items _ c.args.index c.index_mut-stripe.result.now refl c.requires.stripe c.index_mut-stripe.ensures.value in
    let is = fits.stripes c.args.index c.index_mut-stripe.result.now found in
    record {
      may = record {
        fits = is.fits;
        rest = is.rest;
        table = is.table;
        pass_table = fits.tables.1;
        lane = fits.lanes c.args.by.lane c.requires.may.lane;
        budget = c.requires.may.budget;
      };
    }

pub returns-clause-fits : goal.returns-clause-fits
returns-clause-fits g c =
    let old = c.args.self.now in
    let fits = c.requires.may.fits in
    let after = c.settle_stripe.new.stripe in
    let new = with-stripe old c.args.index after old.keeper c.settle_stripe.new.pass in
    let plan : SamePlan old new = record { gate = refl; geometry = refl; each = refl; seats = refl; parts = refl } in
    let found = slice_get_read old.stripes.items _ c.args.index c.index_mut-stripe.result.now refl c.requires.stripe c.index_mut-stripe.ensures.value in
    let did = c.settle_stripe.ensures.did.1 in
    let drew = did.drew in
    session-fits g.D.Disk _ no_write old new fits plan (count-left old new c.args.index after refl)
    (stripes-left g.D.Disk old new c.args.index c.index_mut-stripe.result.now after fits plan found refl c.settle_stripe.ensures.same c.settle_stripe.ensures.fits.0 c.settle_stripe.ensures.fits.1)
    fits.keeper (keeper-same g.D.Disk old.keeper) refl drew.keeps
    (drew-asked c.settle_stripe.ensures.did.0 no_write old.pass c.settle_stripe.new.pass (subst AskForMarks (sym did.events_are) (ask-settled c.index_mut-stripe.result.now.cut c.args.by did.bytes did.result)) drew fits.asked)

pub returns-clause-stands : goal.returns-clause-stands
returns-clause-stands g c = λ opening stands.
    let old = c.args.self.now in
    let found = slice_get_read old.stripes.items _ c.args.index c.index_mut-stripe.result.now refl c.requires.stripe c.index_mut-stripe.ensures.value in
    let new = with-stripe old c.args.index c.settle_stripe.new.stripe old.keeper c.settle_stripe.new.pass in
    session-stands g.D.Disk opening old new stands (record { gate = refl; geometry = refl; each = refl; seats = refl; parts = refl }) stands.keeper
    (stripes-stand g.D.Disk opening old new c.args.index c.settle_stripe.new.stripe stands refl
    (c.settle_stripe.ensures.stands opening (stands.stripes c.args.index c.index_mut-stripe.result.now found)))

pub returns-clause-did : goal.returns-clause-did
returns-clause-did g c =
    let old = c.args.self.now in (
      c.settle_stripe.ensures.did.0,
      record {
        stripe = c.index_mut-stripe.result.now;
        after = c.settle_stripe.new.stripe;
        found = slice_get_read old.stripes.items _ c.args.index c.index_mut-stripe.result.now refl c.requires.stripe c.index_mut-stripe.ensures.value;
        did = c.settle_stripe.ensures.did.1;
        stripes = refl;
        keeper = refl;
        plan = record { gate = refl; geometry = refl; each = refl; seats = refl; parts = refl };
        same = c.settle_stripe.ensures.same;
      },
    )

pub returns-clause-same : goal.returns-clause-same
returns-clause-same g c =
    let old = c.args.self.now in
    let found = slice_get_read old.stripes.items _ c.args.index c.index_mut-stripe.result.now refl c.requires.stripe c.index_mut-stripe.ensures.value in
    session-same g.D.Disk old (with-stripe old c.args.index c.settle_stripe.new.stripe old.keeper c.settle_stripe.new.pass) c.args.index c.index_mut-stripe.result.now c.settle_stripe.new.stripe (record { gate = refl; geometry = refl; each = refl; seats = refl; parts = refl })
    found refl c.settle_stripe.ensures.same (keeper-same g.D.Disk old.keeper)
