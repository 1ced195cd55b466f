use Rattle.std.proofs.Common.{length, length-append, append_assoc, refl, arith, ap}
use Rattle.era_layout.specs.Numbers.{u32s_at}
use Rattle.era_layout.proofs.ListFields.{length-u32s_at, u32s_at_more}
use Rattle.era_layout.proofs.page_numbers.PageNumbers.read.Goals as goal

pub push-requires : goal.push-requires
push-requires c =
    omega (arith, ap length c.loop-index.invariant, length-append c.args.self.now (u32s_at c.args.bytes.now c.args.offset c.loop-index.index), length-u32s_at c.args.bytes.now c.args.offset c.loop-index.index)

pub loop-index-preserved : goal.loop-index-preserved
loop-index-preserved c =
    rw (c.push.ensures, c.loop-index.invariant, c.read_u32.ensures, u32s_at_more, append_assoc) refl
