use Rattle.std.proofs.Common.{◌<◌, length, refl, ◌∙◌, arith}
use Rattle.era_session.proofs.ListsInOrder.{left-behind, taken}
use Rattle.era_session.proofs.StripesBegun.{over-next, over-none}
use Rattle.era_session.proofs.preparing.start_stripes.Goals as goal

pub loop-index-init : goal.loop-index-init
loop-index-init g c = record {
  parts = refl;
  seats = refl;
  stripes = over-none g.D.Disk c.args.geometry c.args.each c.args.parts.now.items c.args.seats.now.items c.args.stripes.now.items c.requires.room.none;
  parts_room = refl;
  seats_room = refl;
  room = omega arith;
}

pub loop-index-preserved : goal.loop-index-preserved
loop-index-preserved g c =
    let held = c.loop-index.invariant in
    let k = c.loop-index.index in
    let parts = c.args.parts.now.items in
    let seats = c.args.seats.now.items in
    let low : k < length parts = omega arith in
    let low-seats : k < length seats = omega (arith, low, c.requires.seats.0) in
    let found = taken parts c.loop-index.parts.items k c.remove-part.result low held.parts c.remove-part.ensures.value in
    let behind = taken seats c.loop-index.seats.items k c.remove-seat.result low-seats held.seats c.remove-seat.ensures.value in
    record {
      parts = c.remove-part.ensures.by_index.2 ∙ left-behind parts c.loop-index.parts.items k held.parts;
      seats = c.remove-seat.ensures.by_index.2 ∙ left-behind seats c.loop-index.seats.items k held.seats;
      stripes = over-next g.D.Disk c.args.geometry c.args.each k parts seats c.loop-index.stripes.items c.push.new.self.items c.remove-part.result c.remove-seat.result c.stripe_over-stripe.result
          held.stripes found behind c.stripe_over-stripe.ensures c.in-Ok.ensures.items;
      parts_room = c.remove-part.ensures.capacity ∙ held.parts_room;
      seats_room = c.remove-seat.ensures.capacity ∙ held.seats_room;
      room = omega (arith, held.room, c.in-Ok.ensures.capacity);
    }
