use Rattle.era_line.proofs.WordSteps.{words_of-spaced, spaced-words_of, HasNo-words}
use Rattle.era_line.proofs.laws.words_are_read_back.Goals as goal

pub returns-clause-back : goal.returns-clause-back
returns-clause-back c = words_of-spaced

pub returns-clause-line : goal.returns-clause-line
returns-clause-line c = spaced-words_of

pub returns-clause-apart : goal.returns-clause-apart
returns-clause-apart c = HasNo-words
