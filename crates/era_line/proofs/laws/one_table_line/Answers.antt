use Rattle.era_line.proofs.Spelling.{one_line}
use Rattle.era_line.proofs.laws.one_table_line.Goals as goal

pub returns : goal.returns
returns c = one_line
