use Rattle.era_words.proofs.WrittenTools.{apply-asked, apply-refused}
use Rattle.era_words.proofs.laws.apply_example.Goals as goal

pub returns : goal.returns
returns c = record { asked = apply-asked; refused = apply-refused }
