use Rattle.era_words.proofs.WrittenTools.{dump-asked, dump-refused}
use Rattle.era_words.proofs.laws.dump_example.Goals as goal

pub returns : goal.returns
returns c = record { asked = dump-asked; refused = dump-refused }
