use Rattle.std.proofs.Common.{◌∙◌}
use Rattle.era_gate.proofs.Making.{row_first, row_next, row_pushed}
use Rattle.era_gate.proofs.make.stripes_off.Goals as goal

pub stripe_off-seat-requires-clause-view : goal.stripe_off-seat-requires-clause-view
stripe_off-seat-requires-clause-view c =
    row_first c.loop-stripe.stripe c.args.stripes c.args.place.now.me.0 c.loop-stripe.place.me c.loop-stripe-test.true c.loop-stripe.invariant.1

pub loop-stripe-preserved : goal.loop-stripe-preserved
loop-stripe-preserved c = (
  c.stripe_off-seat.ensures.table ∙ c.loop-stripe.invariant.0,
  row_next c.loop-stripe.stripe c.args.stripes c.args.place.now.me.0 c.loop-stripe.place.me c.stripe_off-seat.new.place.me c.loop-stripe-test.true c.loop-stripe.invariant.1 c.stripe_off-seat.ensures.view,
  row_pushed c.loop-stripe.seats.items c.push.new.self.items c.args.place.now.table_id c.loop-stripe.place.table_id c.loop-stripe.stripe c.stripe_off-seat.result c.in_ok-push.ensures.items c.loop-stripe.invariant.2 c.stripe_off-seat.ensures.seat c.loop-stripe.invariant.0,
)
