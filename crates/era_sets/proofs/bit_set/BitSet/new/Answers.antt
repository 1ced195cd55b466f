use Rattle.era_sets.proofs.Flags.{zeros-flags, zeros-packed}
use Rattle.era_sets.proofs.bit_set.BitSet.new.Goals as goal

pub invariant_of-result : goal.invariant_of-result
invariant_of-result c =
    let zeros = c.in_ok-words.ensures.items_if_clones_equal (λ y same. same) in
    rw zeros (zeros-packed c.args.blocks c.div_ceil.result c.div_ceil.ensures)

pub returns : goal.returns
returns c =
    let zeros = c.in_ok-words.ensures.items_if_clones_equal (λ y same. same) in
    rw zeros (zeros-flags c.args.blocks c.div_ceil.result)
