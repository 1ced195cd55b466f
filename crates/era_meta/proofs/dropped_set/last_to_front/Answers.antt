use Rattle.std.proofs.Common.{◌<◌, length, ap, arith}
use Rattle.era_meta.proofs.DroppedSets.{rotated-length, rotated-step}
use Rattle.era_meta.proofs.dropped_set.last_to_front.Goals as goal

pub push_reserved-requires : goal.push_reserved-requires
push_reserved-requires c =
    let size = rotated-length c.args.sets.now c.loop.sets c.loop.counter c.loop.invariant in
    let split = ap length c.take_first-first.ensures in
    (omega arith, omega (arith, size, split, c.requires))

pub loop-preserved : goal.loop-preserved
loop-preserved c =
    let lt : c.loop.counter < length c.args.sets.now = omega (arith, c.len.ensures, c.saturating_sub-end.ensures, c.loop-test.true) in
    rw c.push_reserved.ensures
    (rotated-step c.args.sets.now c.loop.sets c.take_first-first.new.self c.take_first-first.result c.loop.counter lt c.loop.invariant c.take_first-first.ensures)
