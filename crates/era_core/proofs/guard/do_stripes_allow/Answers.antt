use Rattle.std.specs.Prelude.{reverse}
use Rattle.era_core.proofs.guard.do_stripes_allow.Goals as goal

-- the block's stripe
pub returns-in-Go : goal.returns-in-Go
returns-in-Go c = rw c.in-Go.is (rw c.stripe_of.ensures at (c.is_known_inside.ensures (reverse c.args.h.now) c.args.kept.now))

-- the stripe of the command's write
pub returns-in-Done : goal.returns-in-Done
returns-in-Done c = rw c.in-Done.is (rw c.written_stripe_of.ensures at (c.is_known_inside-in-Done.ensures (reverse c.args.h.now) c.args.kept.now))

-- the same
pub returns-in-Cut : goal.returns-in-Cut
returns-in-Cut c = rw c.in-Cut.is (rw c.written_stripe_of-in-Cut.ensures at (c.is_known_inside-in-Cut.ensures (reverse c.args.h.now) c.args.kept.now))

-- the stripe of the write that is resolved
pub returns-in-Settle : goal.returns-in-Settle
returns-in-Settle c = rw c.in-Settle.is (rw c.written_stripe_of-in-Settle.ensures at (c.is_known_inside-in-Settle.ensures (reverse c.args.h.now) c.args.kept.now))

-- the same
pub returns-in-Unsettled : goal.returns-in-Unsettled
returns-in-Unsettled c =
    rw c.in-Unsettled.is (rw c.written_stripe_of-in-Unsettled.ensures at (c.is_known_inside-in-Unsettled.ensures (reverse c.args.h.now) c.args.kept.now))
