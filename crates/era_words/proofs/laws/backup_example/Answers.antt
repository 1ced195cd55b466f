use Rattle.era_words.proofs.WrittenTools.{backup-asked, backup-refused}
use Rattle.era_words.proofs.laws.backup_example.Goals as goal

pub returns : goal.returns
returns c = record { asked = backup-asked; refused = backup-refused }
