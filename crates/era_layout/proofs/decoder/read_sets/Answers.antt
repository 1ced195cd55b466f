use Rattle.std.proofs.Common.{◌≡◌, ◌+◌, ◌-◌, suc, append_assoc, length-append, arith}
use Rattle.era_layout.proofs.ListFields.{sets_at_first}
use Rattle.era_layout.proofs.decoder.read_sets.Goals as goal

pub loop-preserved : goal.loop-preserved
loop-preserved c =
    let left : c.args.count - c.loop.counter ≡ suc (c.args.count - (c.loop.counter + 1)) = omega arith in
    record {
      room = rw (c.push_reserved.ensures, length-append) (omega (arith, c.loop.invariant.room));
      within = omega arith;
      same = rw (c.push_reserved.ensures, append_assoc, c.read_u32-era.ensures, c.in_ok-pages.ensures)
          (rw (sets_at_first c.args.bytes.now c.args.width c.loop.at (c.args.count - c.loop.counter) (c.args.count - (c.loop.counter + 1)) left) at c.loop.invariant.same);
    }
