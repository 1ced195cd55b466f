use Rattle.era_model.proofs.CommandReplies.{replies_text-other}
use Rattle.era_model.proofs.laws.replies_are_of_own_events.Goals as goal

pub returns : goal.returns
returns c = replies_text-other
