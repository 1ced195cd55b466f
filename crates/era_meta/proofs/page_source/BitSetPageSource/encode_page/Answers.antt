use Rattle.std.proofs.Common.{◌+◌, ◌*◌, ap, ◌∙◌}
use Rattle.era_base.specs.Bits.{bit_of_words}
use Rattle.era_meta.proofs.PartsOfLists.{bit-of-part}
use Rattle.era_meta.proofs.page_source.BitSetPageSource.encode_page.Goals as goal

pub returns : goal.returns
returns c = λ bit lt.
    c.encode_bits_page.ensures.bits bit lt ∙ ap (λ words. bit_of_words words bit) c.part.ensures.items
    ∙ bit-of-part c.words.result.now c.args.index bit lt ∙ c.words.ensures.bits (32768 * c.args.index + bit)
