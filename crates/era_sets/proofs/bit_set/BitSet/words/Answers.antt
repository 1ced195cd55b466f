use Rattle.std.proofs.Common.{length, ap, sym, ◌∙◌}
use Rattle.std.specs.Int.{div_ceil}
use Rattle.era_base.specs.Bits.{bit_of_words}
use Rattle.era_base.specs.Flags.{has}
use Rattle.era_sets.proofs.Flags.{flag-bit, length-flags}
use Rattle.era_sets.proofs.bit_set.BitSet.words.Goals as goal

pub returns-clause-size : goal.returns-clause-size
returns-clause-size c =
    let inside = c.self.inside in
    ap length c.deref.ensures.value ∙ c.self.invariant.size
    ∙ ap (λ blocks. div_ceil blocks 64) (sym (length-flags inside.blocks inside.words.items) ∙ ap length c.self.view_is)

pub returns-clause-bits : goal.returns-clause-bits
returns-clause-bits c = λ block.
    let inside = c.self.inside in
    ap (λ words. bit_of_words words block) c.deref.ensures.value
    ∙ sym (flag-bit inside.blocks inside.words.items block c.self.invariant) ∙ ap (λ flags. has flags block) c.self.view_is
