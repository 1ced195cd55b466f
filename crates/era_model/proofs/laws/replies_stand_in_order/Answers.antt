use Rattle.era_model.proofs.CommandReplies.{replies_text-append}
use Rattle.era_model.proofs.laws.replies_stand_in_order.Goals as goal

pub returns : goal.returns
returns c = replies_text-append
