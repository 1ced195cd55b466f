use Rattle.era_line.proofs.table_line.next_part.Goals as goal
use Rattle.era_line.proofs.Spelling.{cut_some, cut_none}

pub returns-clause-some : goal.returns-clause-some
returns-clause-some c = cut_some c.args.text.now c.split_once.result c.split_once.ensures.cases

pub returns-clause-none : goal.returns-clause-none
returns-clause-none c = cut_none c.args.text.now c.split_once.result c.split_once.ensures.cases
