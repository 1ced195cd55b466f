use Rattle.era_notes.proofs.KeeperRecovers.{recovered-whole}
use Rattle.era_notes.proofs.own_laws.recovered_marks_follow_the_log.Goals as goal

pub returns : goal.returns
returns c = recovered-whole
