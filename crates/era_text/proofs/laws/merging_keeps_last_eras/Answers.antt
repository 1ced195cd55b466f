use Rattle.era_text.proofs.MergedMarks.{merging-keeps}
use Rattle.era_text.proofs.laws.merging_keeps_last_eras.Goals as goal

pub returns : goal.returns
returns c = merging-keeps
