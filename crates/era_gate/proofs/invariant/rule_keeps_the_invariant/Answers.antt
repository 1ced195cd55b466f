use Rattle.era_gate.proofs.InvariantHolds.{holds}
use Rattle.era_gate.proofs.invariant.rule_keeps_the_invariant.Goals as goal

pub returns : goal.returns
returns c = λ plan state ruled. holds plan state.words state.views ruled.0 ruled.1
