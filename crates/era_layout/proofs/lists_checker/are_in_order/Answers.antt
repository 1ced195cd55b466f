use Rattle.std.proofs.Common.{◌≡◌, ◌+◌, ◌-◌, suc, false, arith}
use Rattle.std.specs.Prelude.{IsTrue}
use Rattle.era_layout.proofs.ListFields.{order_first, order_whole}
use Rattle.era_layout.proofs.lists_checker.are_in_order.Goals as goal
use Rattle.era_layout.proofs.lists_checker.are_in_order.Goals.{then-next-last-via-then-next-last, then-next-last-via-else-next-last+then-next-era}

never : IsTrue false → ⊥
never told = cc

pub returns-then-next-last : goal.returns-then-next-last
returns-then-next-last c =
    let left : c.args.count - c.loop.counter ≡ suc (c.args.count - (c.loop.counter + 1)) = omega arith in
    let first = order_first c.args.bytes.now c.args.width c.loop.at (c.args.count - c.loop.counter) (c.args.count - (c.loop.counter + 1)) c.loop.last c.args.era left in (
      λ told. absurd (never told),
      λ order.
          let f = first (c.loop.invariant.same.0 order) in
          elim c.then-next-last.branch [
            | then-next-last-via-then-next-last w ↦ absurd (omega (arith, f.above, c.read_u32-next.ensures))
            | then-next-last-via-else-next-last+then-next-era w ↦ absurd (omega (arith, f.below, c.read_u32-next.ensures))
          ],
    )

pub loop-preserved : goal.loop-preserved
loop-preserved c =
    let left : c.args.count - c.loop.counter ≡ suc (c.args.count - (c.loop.counter + 1)) = omega arith in
    record {
      within = omega arith;
      same = (
        λ order.
            let f = order_first c.args.bytes.now c.args.width c.loop.at (c.args.count - c.loop.counter) (c.args.count - (c.loop.counter + 1)) c.loop.last c.args.era left (c.loop.invariant.same.0 order) in
            rw c.read_u32-next.ensures f.others,
        λ others.
            c.loop.invariant.same.1 (order_whole c.args.bytes.now c.args.width c.loop.at (c.args.count - c.loop.counter) (c.args.count - (c.loop.counter + 1)) c.loop.last c.args.era left
            (record { above = omega arith; below = omega arith; others = rw c.read_u32-next.ensures at others })),
      );
    }
