use Rattle.era_line.proofs.Lines.{lines_of-ended, lines_of-last}
use Rattle.era_line.proofs.laws.first_line_ends_at_its_lf.Goals as goal

pub returns-clause-ended : goal.returns-clause-ended
returns-clause-ended c = lines_of-ended

pub returns-clause-last : goal.returns-clause-last
returns-clause-last c = lines_of-last
