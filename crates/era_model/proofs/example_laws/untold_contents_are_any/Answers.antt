use Rattle.era_model.proofs.UntoldContents.{illegal-other, legal-told, legal-untold}
use Rattle.era_model.proofs.example_laws.untold_contents_are_any.Goals as goal

pub returns : goal.returns
returns c = record { untold = legal-untold; same = legal-told; other = illegal-other }
