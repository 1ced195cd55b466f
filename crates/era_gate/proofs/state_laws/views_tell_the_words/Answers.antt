use Rattle.era_gate.proofs.ToldWords.{words_told}
use Rattle.era_gate.proofs.state_laws.views_tell_the_words.Goals as goal

pub returns : goal.returns
returns c = words_told
