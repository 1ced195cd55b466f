use Rattle.era_words.proofs.WrittenTools.{restore-asked, restore-refused}
use Rattle.era_words.proofs.laws.restore_example.Goals as goal

pub returns : goal.returns
returns c = record { asked = restore-asked; refused = restore-refused }
