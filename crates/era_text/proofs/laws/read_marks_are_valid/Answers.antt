use Rattle.era_text.proofs.ReadValid.{read-valid}
use Rattle.era_text.proofs.laws.read_marks_are_valid.Goals as goal

pub returns : goal.returns
returns c = read-valid
