use Rattle.std.proofs.Common.{length, ap, arith}
use Rattle.era_sets.proofs.Flags.{blocks-of, first-flag}
use Rattle.era_sets.proofs.bit_set.BitSetRunSource.first_with.Goals as goal

pub first_bit-requires-clause-room : goal.first_bit-requires-clause-room
first_bit-requires-clause-room c = omega (arith, ap length c.deref.ensures.value, c.self.invariant.size)

pub first_bit-requires-clause-from : goal.first_bit-requires-clause-from
first_bit-requires-clause-from c =
    let size = blocks-of c.self.inside.blocks c.self.inside.words.items c.args.self.now c.self.view_is in
    omega (arith, ap length c.deref.ensures.value, c.self.invariant.size)

pub returns : goal.returns
returns c =
    let inside = c.self.inside in
    let size = blocks-of inside.blocks inside.words.items c.args.self.now c.self.view_is in
    let first = rw c.deref.ensures.value at c.first_bit.ensures in
    rw (c.min.ensures, ← size, ← c.self.view_is)
    (first-flag inside.blocks inside.words.items c.args.flag c.args.from c.first_bit.result c.self.invariant (omega arith) first)
