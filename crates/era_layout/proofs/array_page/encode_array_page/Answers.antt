use Rattle.std.proofs.Common.{arith}
use Rattle.era_layout.proofs.PageFields.{entry_written}
use Rattle.era_layout.proofs.array_page.encode_array_page.Goals as goal

pub returns-clause-entries : goal.returns-clause-entries
returns-clause-entries c = λ index lt.
    rw (c.write_zeros.ensures, c.write_u32s-behind.ensures.front)
    (entry_written c.args.eras.now _ index (λ i. omega (arith, c.type_inv.eras i)))
