use Rattle.era_words.proofs.WrittenServing.{load-asked, load-refused}
use Rattle.era_words.proofs.laws.load_example.Goals as goal

pub returns : goal.returns
returns c = record { asked = load-asked; refused = load-refused }
