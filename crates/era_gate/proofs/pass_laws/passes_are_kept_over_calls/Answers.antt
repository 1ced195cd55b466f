use Rattle.era_gate.proofs.PassKept.{kept_twice}
use Rattle.era_gate.proofs.pass_laws.passes_are_kept_over_calls.Goals as goal

pub returns : goal.returns
returns c = kept_twice
