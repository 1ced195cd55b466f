use Rattle.era_model.proofs.DigestLasts.{digest-keeps}
use Rattle.era_model.proofs.marks_laws.digest_keeps_last_eras.Goals as goal

pub returns : goal.returns
returns c = digest-keeps
