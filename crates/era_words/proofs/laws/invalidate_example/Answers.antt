use Rattle.era_words.proofs.WrittenTools.{invalidate-asked, invalidate-refused}
use Rattle.era_words.proofs.laws.invalidate_example.Goals as goal

pub returns : goal.returns
returns c = record { asked = invalidate-asked; refused = invalidate-refused }
