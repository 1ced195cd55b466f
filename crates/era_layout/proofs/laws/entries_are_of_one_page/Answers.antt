use Rattle.era_layout.proofs.PageBytes.{same_entries}
use Rattle.era_layout.proofs.laws.entries_are_of_one_page.Goals as goal

pub returns : goal.returns
returns c = λ one other size size' fits fits' same. same_entries one other 1024 size size' fits fits' same
