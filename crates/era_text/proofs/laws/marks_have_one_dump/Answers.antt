use Rattle.era_text.proofs.ValidDumps.{one-dump}
use Rattle.era_text.proofs.laws.marks_have_one_dump.Goals as goal

pub returns : goal.returns
returns c = one-dump
