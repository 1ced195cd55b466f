use Rattle.std.proofs.Common.{ap, sym, ◌∙◌}
use Rattle.era_base.specs.Bits.{bit_of_words}
use Rattle.era_base.specs.Flags.{has}
use Rattle.era_sets.proofs.Flags.{flag-bit}
use Rattle.era_sets.proofs.bit_set.BitSet.has.Goals as goal

pub returns : goal.returns
returns c =
    let block = c.args.block in
    let inside = c.self.inside in
    c.has_bit.ensures ∙ ap (λ words. bit_of_words words block) c.deref.ensures.value
    ∙ sym (flag-bit inside.blocks inside.words.items block c.self.invariant) ∙ ap (λ flags. has flags block) c.self.view_is
