use Rattle.era_layout.proofs.PageFields.{bit_written}
use Rattle.era_layout.proofs.bits_page.encode_bits_page.Goals as goal

pub returns-clause-bits : goal.returns-clause-bits
returns-clause-bits c = λ index lt.
    rw (c.write_zeros.ensures, c.write_u64s-behind.ensures.front) (bit_written c.args.words.now _ index)
