use Rattle.std.proofs.Common.{rules, not}
use Rattle.std.proofs.lemmas.Fn.{filter_same}
use Rattle.era_model.specs.Events.{same_id}
use Rattle.era_model.proofs.flight.take_out.Goals as goal

-- what was retained are the writes of other commands
pub returns : goal.returns
returns c = filter_same _ (λ write. not (same_id write.id c.args.id)) _ (λ write kept state step. search rules) _ _ c.retain.ensures.filtered
