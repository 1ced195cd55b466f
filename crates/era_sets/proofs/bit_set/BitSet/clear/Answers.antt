use Rattle.std.proofs.Common.{false, replicate, ap, ◌∙◌, arith}
use Rattle.era_sets.proofs.Flags.{blocks-of, zeros-flags, zeros-packed}
use Rattle.era_sets.proofs.bit_set.BitSet.clear.Goals as goal

pub invariant_of-self : goal.invariant_of-self
invariant_of-self c =
    let inside = c.self.inside in
    let zeros = c.fill.ensures.items (λ y same. same) in
    rw zeros (zeros-packed inside.blocks _ (let size = c.self.invariant.size in omega (arith, inside.words.ok.0)))

pub returns : goal.returns
returns c =
    let inside = c.self.inside in
    let zeros = c.fill.ensures.items (λ y same. same) in
    rw zeros (zeros-flags inside.blocks _)
    ∙ ap (λ blocks. replicate blocks false) (blocks-of inside.blocks inside.words.items c.args.self.now c.self.view_is)
