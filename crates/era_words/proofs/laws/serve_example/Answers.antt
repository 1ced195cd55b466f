use Rattle.era_words.proofs.WrittenServing.{session-asked, session-refused}
use Rattle.era_words.proofs.laws.serve_example.Goals as goal

pub returns : goal.returns
returns c = record { asked = session-asked; refused = session-refused }
