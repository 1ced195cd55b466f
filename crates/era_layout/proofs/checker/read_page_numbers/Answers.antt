use Rattle.std.proofs.Common.{◌≡◌, ◌+◌, ◌-◌, suc, length-append, append_assoc, refl, arith}
use Rattle.era_layout.proofs.ListFields.{length-u32s_at, sets_at_first}
use Rattle.era_layout.proofs.checker.read_page_numbers.Goals as goal

pub read-requires-2-clause-room : goal.read-requires-2-clause-room
read-requires-2-clause-room c = rw (c.read.ensures, c.new-pages.ensures, length-u32s_at) (omega arith)

pub loop-init : goal.loop-init
loop-init c =
    let all : c.args.count - 0 ≡ c.args.count = omega arith in
    record {
      within = omega arith;
      room = rw (c.read-2.ensures, c.read.ensures, c.new-pages.ensures, length-append, length-u32s_at, length-u32s_at) (omega arith);
      same = rw (c.read-2.ensures, c.read.ensures, c.new-pages.ensures, all) refl;
    }

pub loop-preserved : goal.loop-preserved
loop-preserved c =
    let left : c.args.count - c.loop.counter ≡ suc (c.args.count - (c.loop.counter + 1)) = omega arith in
    record {
      within = omega arith;
      room = rw (c.read-in-loop.ensures, length-append, length-u32s_at) (omega arith);
      same = rw (c.read-in-loop.ensures, append_assoc)
          (rw (sets_at_first c.args.bytes.now c.args.width c.loop.at (c.args.count - c.loop.counter) (c.args.count - (c.loop.counter + 1)) left) at c.loop.invariant.same);
    }
