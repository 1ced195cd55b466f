use Rattle.era_gate.proofs.EraActs.{legal-keeps_eras}
use Rattle.era_gate.proofs.laws.writes_stay_in_their_era.Goals as goal

pub returns-clause-mark : goal.returns-clause-mark
returns-clause-mark c = λ n d era acts legal. (legal-keeps_eras n era acts legal).precede d

pub returns-clause-begin : goal.returns-clause-begin
returns-clause-begin c = λ n d era acts legal. (legal-keeps_eras n era acts legal).begins d

pub returns-clause-end : goal.returns-clause-end
returns-clause-end c = λ n d era acts legal. (legal-keeps_eras n era acts legal).ends d
