use Rattle.std.proofs.Common.{length, ap, arith}
use Rattle.era_model.proofs.WritesInFlight.{cut_next}
use Rattle.era_model.proofs.flight.mark_cut.Goals as goal

-- one more write was looked at
pub loop-write-preserved : goal.loop-write-preserved
loop-write-preserved c =
    cut_next c.args.writes.now.items c.loop-write.write-items c.loop-write.write-index c.args.id c.write-item.result c.mark_if_of.new.write
    (omega arith) (omega (arith, ap length c.deref_mut-write-items.ensures.value)) c.loop-write.invariant c.mark_if_of.ensures
