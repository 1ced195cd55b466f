use Rattle.std.proofs.Common.{◌/◌, refl, sym, ap, ◌∙◌, subst, arith}
use Rattle.std.proofs.lemmas.Option.{slice_get_read}
use Rattle.era_base.specs.Geometry.{place_at}
use Rattle.era_gate.specs.Passes.{no_write}
use Rattle.era_session.specs.Desks.{desk}
use Rattle.era_session.specs.Reads.{AreOfBlock}
use Rattle.era_session.specs.Sessions.{SamePlan}
use Rattle.era_session.proofs.AtStripes.{count-left, keeper-same, session-fits, session-itself, session-same, session-stands, stripes-left, stripes-stand, with-stripe}
use Rattle.era_session.proofs.Places.{sectors-at-stripe, stripe-of-block}
use Rattle.era_session.proofs.ReadAt.{did-nothing, did-read, keeps-itself}
use Rattle.era_session.proofs.Requested.{ask-read, drew-asked}
use Rattle.era_session.proofs.session.Session.read.Goals as goal

pub returns-in_default-clause-did : goal.returns-in_default-clause-did
returns-in_default-clause-did g c =
    let session = c.args.self.now in
    let none = sym c.in_default.ensures.value in
    did-nothing g.D.Disk (place_at session.geometry.sectors session.geometry.block_sectors c.args.sector c.args.count) c.args.id c.args.sector c.args.count session
    (ap (place_at session.geometry.sectors session.geometry.block_sectors c.args.sector) (sym c.from.ensures) ∙ none)

pub returns-in_default-clause-keeps : goal.returns-in_default-clause-keeps
returns-in_default-clause-keeps g c = record { drawn = 0; few = omega arith; keeps = keeps-itself c.args.self.now.pass }

pub returns-in_default-clause-same : goal.returns-in_default-clause-same
returns-in_default-clause-same g c = session-itself g.D.Disk c.args.self.now

pub index_mut-stripe-requires : goal.index_mut-stripe-requires
index_mut-stripe-requires g c =
    let below = (stripe-of-block c.args.self.now c.in-Some.block c.requires.may.fits.shared c.in-Some.ensures.block).1 in
    omega (arith, below)

pub read_block-requires-clause-may : goal.read_block-requires-clause-may
read_block-requires-clause-may g c =
    let session = c.args.self.now in
    let fits = c.requires.may.fits in
    let block = c.in-Some.block in
    let below = c.in-Some.ensures.block in
    let stripe = c.index_mut-stripe.result.now in
    let found = slice_get_read session.stripes.items _ (block / session.each) stripe refl (stripe-of-block session block fits.shared below).1 c.index_mut-stripe.ensures.value in
    let is = fits.stripes (block / session.each) stripe found in
    record {
      fits = is.fits;
      rest = is.rest;
      table = is.table;
      pass_table = fits.tables.1;
      lane = fits.lanes c.args.id.lane c.requires.may.lane;
      budget = let most = c.requires.may.budget in omega (arith, most);
      sectors = subst (AreOfBlock stripe c.args.sector) c.from.ensures
          (sectors-at-stripe g.D.Disk session stripe c.args.sector c.from.result block c.in-Some.field-0-1 (sym c.in-Some.ensures.value) c.in-Some.ensures.sector c.in-Some.ensures.within fits.shared below is);
    }

pub returns-clause-fits : goal.returns-clause-fits
returns-clause-fits g c =
    let old = c.args.self.now in
    let fits = c.requires.may.fits in
    let k = c.in-Some.block / old.each in
    let stripe = c.index_mut-stripe.result.now in
    let after = c.read_block.new.stripe in
    let new = with-stripe old k after old.keeper c.read_block.new.pass in
    let plan : SamePlan old new = record { gate = refl; geometry = refl; each = refl; seats = refl; parts = refl } in
    let found = slice_get_read old.stripes.items _ k stripe refl (stripe-of-block old c.in-Some.block fits.shared c.in-Some.ensures.block).1 c.index_mut-stripe.ensures.value in
    session-fits g.D.Disk _ no_write old new fits plan (count-left old new k after refl)
    (stripes-left g.D.Disk old new k stripe after fits plan found refl c.read_block.ensures.same c.read_block.ensures.fits.0 c.read_block.ensures.fits.1)
    fits.keeper (keeper-same g.D.Disk old.keeper) refl c.read_block.ensures.keeps.keeps
    (drew-asked _ no_write old.pass c.read_block.new.pass (ask-read c.args.id c.args.sector c.read_block.ensures.did.before.index c.read_block.result) (c.read_block.ensures.did.read old.keeper).drew fits.asked)

pub returns-clause-stands : goal.returns-clause-stands
returns-clause-stands g c = λ opening stands.
    let old = c.args.self.now in
    let fits = c.requires.may.fits in
    let k = c.in-Some.block / old.each in
    let stripe = c.index_mut-stripe.result.now in
    let found = slice_get_read old.stripes.items _ k stripe refl (stripe-of-block old c.in-Some.block fits.shared c.in-Some.ensures.block).1 c.index_mut-stripe.ensures.value in
    let new = with-stripe old k c.read_block.new.stripe old.keeper c.read_block.new.pass in
    session-stands g.D.Disk opening old new stands (record { gate = refl; geometry = refl; each = refl; seats = refl; parts = refl }) stands.keeper
    (stripes-stand g.D.Disk opening old new k c.read_block.new.stripe stands refl (c.read_block.ensures.stands opening (stands.stripes k stripe found)))

pub returns-clause-did : goal.returns-clause-did
returns-clause-did g c =
    let old = c.args.self.now in
    let fits = c.requires.may.fits in
    let k = c.in-Some.block / old.each in
    let stripe = c.index_mut-stripe.result.now in
    let after = c.read_block.new.stripe in
    let found = slice_get_read old.stripes.items _ k stripe refl (stripe-of-block old c.in-Some.block fits.shared c.in-Some.ensures.block).1 c.index_mut-stripe.ensures.value in
    let did = c.read_block.ensures.did in
    did-read g.D.Disk (place_at old.geometry.sectors old.geometry.block_sectors c.args.sector c.args.count) c.args.id c.args.sector c.args.count c.in-Some.block c.in-Some.field-0-1 c.read_block.result old
    (with-stripe old k after old.keeper c.read_block.new.pass)
    (ap (place_at old.geometry.sectors old.geometry.block_sectors c.args.sector) (sym c.from.ensures) ∙ sym c.in-Some.ensures.value)
    (record {
      before = desk did.before old.keeper old.pass;
      after = desk after old.keeper c.read_block.new.pass;
      found = record { stripe = stripe; found = found; admitted = did.admitted; keeper = record { view = refl; meta = refl; seat = refl; notes = refl }; pass = refl };
      left = record { stripes = refl; keeper = refl; pass = refl; plan = record { gate = refl; geometry = refl; each = refl; seats = refl; parts = refl } };
      did = did.read old.keeper;
    })

pub returns-clause-same : goal.returns-clause-same
returns-clause-same g c =
    let old = c.args.self.now in
    let fits = c.requires.may.fits in
    let k = c.in-Some.block / old.each in
    let stripe = c.index_mut-stripe.result.now in
    let found = slice_get_read old.stripes.items _ k stripe refl (stripe-of-block old c.in-Some.block fits.shared c.in-Some.ensures.block).1 c.index_mut-stripe.ensures.value in
    session-same g.D.Disk old (with-stripe old k c.read_block.new.stripe old.keeper c.read_block.new.pass) k stripe c.read_block.new.stripe (record { gate = refl; geometry = refl; each = refl; seats = refl; parts = refl })
    found refl c.read_block.ensures.same (keeper-same g.D.Disk old.keeper)
