use Rattle.era_text.proofs.ValidDumps.{read-one_way}
use Rattle.era_text.proofs.laws.lines_are_read_one_way.Goals as goal

pub returns : goal.returns
returns c = read-one_way
