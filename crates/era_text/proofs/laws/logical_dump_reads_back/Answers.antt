use Rattle.era_text.proofs.MergedMarks.{logical-read}
use Rattle.era_text.proofs.laws.logical_dump_reads_back.Goals as goal

pub returns : goal.returns
returns c = logical-read
