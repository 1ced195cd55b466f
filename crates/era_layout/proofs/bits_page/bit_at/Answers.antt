use Rattle.std.proofs.Common.{ap, nat_eq, ◌%◌}
use Rattle.std.proofs.lemmas.Nat.Bits.{shr_and_one}
use Rattle.era_base.specs.Bits.{bit_of}
use Rattle.era_layout.proofs.bits_page.bit_at.Goals as goal

pub returns : goal.returns
unfolding bit_of
returns c = ap (λ bit. nat_eq bit 1) (shr_and_one _ (c.args.index % 8))
