use Rattle.era_notes.proofs.KeeperDurable.{durable-whole}
use Rattle.era_notes.proofs.own_laws.durable_marks_follow_the_log.Goals as goal

pub returns : goal.returns
returns c = durable-whole
