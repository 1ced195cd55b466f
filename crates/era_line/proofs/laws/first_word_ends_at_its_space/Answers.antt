use Rattle.era_line.proofs.WordSteps.{words_of-cut, words_of-whole}
use Rattle.era_line.proofs.laws.first_word_ends_at_its_space.Goals as goal

pub returns-clause-ended : goal.returns-clause-ended
returns-clause-ended c = words_of-cut

pub returns-clause-last : goal.returns-clause-last
returns-clause-last c = words_of-whole
