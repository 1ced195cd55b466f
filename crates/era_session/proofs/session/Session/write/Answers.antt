use Rattle.std.proofs.Common.{◌/◌, length, refl, sym, ◌∙◌, arith}
use Rattle.std.proofs.lemmas.Option.{slice_get_read}
use Rattle.era_session.specs.AtStripes.{IsAdmitted, IsKeeperAdmitted}
use Rattle.era_session.specs.Desks.{desk}
use Rattle.era_stripe.specs.Results.{only}
use Rattle.era_session.proofs.Places.{stripe-of-block}
use Rattle.era_session.proofs.WriteAt.{did-write, few-events, fits-written, may-write-at, place-of-bytes, same-written, stands-written}
use Rattle.era_session.proofs.Requested.{ask-write, drew-asked}
use Rattle.era_session.proofs.session.Session.write.Goals as goal

pub index_mut-stripe-requires : goal.index_mut-stripe-requires
index_mut-stripe-requires g c =
    let share = (stripe-of-block c.args.self.now c.in-Some.block c.requires.may.fits.shared c.in-Some.ensures.block).1 in
    omega (arith, share)

pub admit-requires-2 : goal.admit-requires-2
admit-requires-2 g c =
    let old = c.args.self.now in
    let fits = c.requires.may.fits in
    let stripe = c.index_mut-stripe.result.now in
    let share = (stripe-of-block old c.in-Some.block fits.shared c.in-Some.ensures.block).1 in
    let found = slice_get_read old.stripes.items _ (c.in-Some.block / old.each) stripe refl share c.index_mut-stripe.ensures.value in
    record { fits = (fits.stripes (c.in-Some.block / old.each) stripe found).fits }

pub write_block-requires : goal.write_block-requires
write_block-requires g c =
    let old = c.args.self.now in
    let fits = c.requires.may.fits in
    let stripe = c.index_mut-stripe.result.now in
    let admitted = c.admit-2.new.self in
    let keeper = c.admit.new.self in
    let share = stripe-of-block old c.in-Some.block fits.shared c.in-Some.ensures.block in
    let found = slice_get_read old.stripes.items _ (c.in-Some.block / old.each) stripe refl share.1 c.index_mut-stripe.ensures.value in
    let is : IsAdmitted g.D.Disk stripe admitted = record { view = c.admit-2.ensures.view; device = c.admit-2.ensures.same.0; seat = c.admit-2.ensures.same.1; cut = c.admit-2.ensures.same.2; notes = c.admit-2.ensures.same.4; last = c.admit-2.ensures.last } in
    let keeper-is : IsKeeperAdmitted g.D.Disk old.keeper keeper = record { view = c.admit.ensures.view; meta = c.admit.ensures.same.0; seat = c.admit.ensures.same.1; notes = c.admit.ensures.same.2 } in
    let place = place-of-bytes old.geometry c.args.sector (length c.args.bytes.now) c.in-Some.block c.in-Some.first (sym c.place_of.ensures.value ∙ c.in-Some.is) c.in-Some.ensures.sector c.in-Some.ensures.within.0 c.in-Some.ensures.within.1 c.requires.bytes.1 in
    record {
      may = may-write-at g.D.Disk old stripe admitted keeper c.args.id c.in-Some.block c.in-Some.first (length c.args.bytes.now) c.args.room c.requires.may c.requires.once found c.in-Some.ensures.block place is c.admit-2.ensures.fits
          c.admit-2.ensures.entries c.admit-2.ensures.buffers c.requires.bytes.0 keeper-is c.admit.ensures.fits c.admit.ensures.entries c.admit.ensures.last;
    }

pub returns-clause-fits : goal.returns-clause-fits
returns-clause-fits g c =
    let old = c.args.self.now in
    let fits = c.requires.may.fits in
    let stripe = c.index_mut-stripe.result.now in
    let admitted = c.admit-2.new.self in
    let keeper = c.admit.new.self in
    let share = stripe-of-block old c.in-Some.block fits.shared c.in-Some.ensures.block in
    let found = slice_get_read old.stripes.items _ (c.in-Some.block / old.each) stripe refl share.1 c.index_mut-stripe.ensures.value in
    let is : IsAdmitted g.D.Disk stripe admitted = record { view = c.admit-2.ensures.view; device = c.admit-2.ensures.same.0; seat = c.admit-2.ensures.same.1; cut = c.admit-2.ensures.same.2; notes = c.admit-2.ensures.same.4; last = c.admit-2.ensures.last } in
    let keeper-is : IsKeeperAdmitted g.D.Disk old.keeper keeper = record { view = c.admit.ensures.view; meta = c.admit.ensures.same.0; seat = c.admit.ensures.same.1; notes = c.admit.ensures.same.2 } in
    let after = desk c.write_block.new.stripe c.write_block.new.keeper c.write_block.new.pass in
    let drew = c.write_block.ensures.drew in
    fits-written g.D.Disk _ (only c.args.id) old (c.in-Some.block / old.each) stripe admitted keeper after fits found is keeper-is c.write_block.ensures.fits c.write_block.ensures.same c.write_block.ensures.drew.drew.keeps
    (drew-asked drew.events (only c.args.id) old.pass c.write_block.new.pass (ask-write c.args.id c.in-Some.block c.in-Some.first c.args.bytes.now c.write_block.result (desk admitted keeper old.pass) drew.events drew.are) drew.drew fits.asked)

pub returns-clause-stands : goal.returns-clause-stands
returns-clause-stands g c =
    let old = c.args.self.now in
    let fits = c.requires.may.fits in
    let stripe = c.index_mut-stripe.result.now in
    let admitted = c.admit-2.new.self in
    let keeper = c.admit.new.self in
    let share = stripe-of-block old c.in-Some.block fits.shared c.in-Some.ensures.block in
    let found = slice_get_read old.stripes.items _ (c.in-Some.block / old.each) stripe refl share.1 c.index_mut-stripe.ensures.value in
    let is : IsAdmitted g.D.Disk stripe admitted = record { view = c.admit-2.ensures.view; device = c.admit-2.ensures.same.0; seat = c.admit-2.ensures.same.1; cut = c.admit-2.ensures.same.2; notes = c.admit-2.ensures.same.4; last = c.admit-2.ensures.last } in
    let keeper-is : IsKeeperAdmitted g.D.Disk old.keeper keeper = record { view = c.admit.ensures.view; meta = c.admit.ensures.same.0; seat = c.admit.ensures.same.1; notes = c.admit.ensures.same.2 } in
    let after = desk c.write_block.new.stripe c.write_block.new.keeper c.write_block.new.pass in
    λ opening stands. stands-written g.D.Disk opening old (c.in-Some.block / old.each) stripe admitted keeper after stands found is keeper-is (c.write_block.ensures.stands opening)

pub returns-clause-did : goal.returns-clause-did
returns-clause-did g c =
    let old = c.args.self.now in
    let fits = c.requires.may.fits in
    let stripe = c.index_mut-stripe.result.now in
    let admitted = c.admit-2.new.self in
    let keeper = c.admit.new.self in
    let share = stripe-of-block old c.in-Some.block fits.shared c.in-Some.ensures.block in
    let found = slice_get_read old.stripes.items _ (c.in-Some.block / old.each) stripe refl share.1 c.index_mut-stripe.ensures.value in
    let is : IsAdmitted g.D.Disk stripe admitted = record { view = c.admit-2.ensures.view; device = c.admit-2.ensures.same.0; seat = c.admit-2.ensures.same.1; cut = c.admit-2.ensures.same.2; notes = c.admit-2.ensures.same.4; last = c.admit-2.ensures.last } in
    let keeper-is : IsKeeperAdmitted g.D.Disk old.keeper keeper = record { view = c.admit.ensures.view; meta = c.admit.ensures.same.0; seat = c.admit.ensures.same.1; notes = c.admit.ensures.same.2 } in
    let after = desk c.write_block.new.stripe c.write_block.new.keeper c.write_block.new.pass in
    did-write g.D.Disk _ c.args.id c.in-Some.block c.in-Some.first c.args.bytes.now c.write_block.result old stripe admitted keeper after (sym c.place_of.ensures.value ∙ c.in-Some.is) found is keeper-is (record {
      went = c.write_block.ensures.went;
      drew = c.write_block.ensures.drew;
      same = c.write_block.ensures.same;
      cause = c.write_block.ensures.cause;
    })

pub returns-clause-keeps : goal.returns-clause-keeps
returns-clause-keeps g c =
    let old = c.args.self.now in
    let fits = c.requires.may.fits in
    let stripe = c.index_mut-stripe.result.now in
    let admitted = c.admit-2.new.self in
    let keeper = c.admit.new.self in
    let share = stripe-of-block old c.in-Some.block fits.shared c.in-Some.ensures.block in
    let found = slice_get_read old.stripes.items _ (c.in-Some.block / old.each) stripe refl share.1 c.index_mut-stripe.ensures.value in
    let is : IsAdmitted g.D.Disk stripe admitted = record { view = c.admit-2.ensures.view; device = c.admit-2.ensures.same.0; seat = c.admit-2.ensures.same.1; cut = c.admit-2.ensures.same.2; notes = c.admit-2.ensures.same.4; last = c.admit-2.ensures.last } in
    let keeper-is : IsKeeperAdmitted g.D.Disk old.keeper keeper = record { view = c.admit.ensures.view; meta = c.admit.ensures.same.0; seat = c.admit.ensures.same.1; notes = c.admit.ensures.same.2 } in
    let after = desk c.write_block.new.stripe c.write_block.new.keeper c.write_block.new.pass in
    let drew = c.write_block.ensures.drew in
    record {
      drawn = length drew.events;
      few = few-events c.args.id c.in-Some.block c.in-Some.first c.args.bytes.now c.write_block.result (desk admitted keeper old.pass) drew.events drew.are;
      keeps = drew.drew.keeps;
    }

pub returns-clause-same : goal.returns-clause-same
returns-clause-same g c =
    let old = c.args.self.now in
    let fits = c.requires.may.fits in
    let stripe = c.index_mut-stripe.result.now in
    let admitted = c.admit-2.new.self in
    let keeper = c.admit.new.self in
    let share = stripe-of-block old c.in-Some.block fits.shared c.in-Some.ensures.block in
    let found = slice_get_read old.stripes.items _ (c.in-Some.block / old.each) stripe refl share.1 c.index_mut-stripe.ensures.value in
    let is : IsAdmitted g.D.Disk stripe admitted = record { view = c.admit-2.ensures.view; device = c.admit-2.ensures.same.0; seat = c.admit-2.ensures.same.1; cut = c.admit-2.ensures.same.2; notes = c.admit-2.ensures.same.4; last = c.admit-2.ensures.last } in
    let keeper-is : IsKeeperAdmitted g.D.Disk old.keeper keeper = record { view = c.admit.ensures.view; meta = c.admit.ensures.same.0; seat = c.admit.ensures.same.1; notes = c.admit.ensures.same.2 } in
    let after = desk c.write_block.new.stripe c.write_block.new.keeper c.write_block.new.pass in
    same-written g.D.Disk old (c.in-Some.block / old.each) stripe admitted keeper after found is keeper-is c.write_block.ensures.same
