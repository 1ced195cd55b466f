use Rattle.era_line.proofs.WordSteps.{words_cut, words_uncut}
use Rattle.era_line.proofs.words.split_word.Goals as goal

pub returns-clause-some : goal.returns-clause-some
returns-clause-some c = words_cut c.args.line.now c.cut_at.result c.cut_at.ensures.some

pub returns-clause-none : goal.returns-clause-none
returns-clause-none c = words_uncut c.args.line.now c.cut_at.result c.cut_at.ensures.none
