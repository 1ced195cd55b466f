use Rattle.era_words.proofs.WrittenServing.{need-asked, need-refused}
use Rattle.era_words.proofs.laws.need_example.Goals as goal

pub returns : goal.returns
returns c = record { asked = need-asked; refused = need-refused }
