use Rattle.era_layout.proofs.PageBytes.{same_bits}
use Rattle.era_layout.proofs.laws.bits_are_of_one_page.Goals as goal

pub returns : goal.returns
returns c = λ one other size size' fits fits' same. same_bits one other 4096 size size' fits fits' same
