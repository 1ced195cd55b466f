use Rattle.era_model.proofs.DigestLasts.{merge-keeps}
use Rattle.era_model.proofs.Follows.{as-they-stand, follows, switched-keeps}
use Rattle.era_model.proofs.session_laws.marks_follow_journal.Goals as goal

pub returns : goal.returns
returns c = record { journal = follows; durable = as-they-stand; switch = switched-keeps; merge = merge-keeps }
