use Rattle.era_line.proofs.LineTexts.{lines_of-text, lines_text-of}
use Rattle.era_line.proofs.laws.lines_are_read_back.Goals as goal

pub returns-clause-back : goal.returns-clause-back
returns-clause-back c = lines_of-text

pub returns-clause-text : goal.returns-clause-text
returns-clause-text c = lines_text-of
