use Rattle.era_text.proofs.ValidDumps.{dumps-read}
use Rattle.era_text.proofs.laws.dump_reads_back.Goals as goal

pub returns : goal.returns
returns c = dumps-read
