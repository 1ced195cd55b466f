use Rattle.era_words.proofs.WrittenTools.{check-asked, check-refused}
use Rattle.era_words.proofs.laws.check_example.Goals as goal

pub returns : goal.returns
returns c = record { asked = check-asked; refused = check-refused }
