use Rattle.std.proofs.Common.{◌/◌, refl, sym, arith}
use Rattle.std.proofs.lemmas.Option.{slice_get_read}
use Rattle.era_session.proofs.Places.{stripe-of-block}
use Rattle.era_session.proofs.TrailParts.{block-trail-there}
use Rattle.era_session.proofs.session.Session.at_block.Goals as goal

pub nonzero_div-block : goal.nonzero_div-block
nonzero_div-block g c = (stripe-of-block c.args.self.now c.in-Some.block c.requires.shared c.in-Some.ensures.block).0

pub index-requires : goal.index-requires
index-requires g c =
    let share = (stripe-of-block c.args.self.now c.in-Some.block c.requires.shared c.in-Some.ensures.block).1 in
    omega (arith, share)

pub returns : goal.returns
returns g c =
    let session = c.args.self.now in
    let k = c.in-Some.block / session.each in
    let share = (stripe-of-block session c.in-Some.block c.requires.shared c.in-Some.ensures.block).1 in
    let found = slice_get_read session.stripes.items _ k c.index.result.now refl share c.index.ensures in
    block-trail-there session c.in-Some.block c.in-Some.field-0-1 c.args.sector c.args.count c.index.result.now c.trail.result (sym c.in-Some.ensures.value) found c.trail.ensures
