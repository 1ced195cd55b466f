use Rattle.era_gate.proofs.PassKept.{cut_joined}
use Rattle.era_gate.proofs.pass_laws.split_and_joined_passes_are_whole.Goals as goal

pub returns : goal.returns
returns c = cut_joined
