use Rattle.era_gate.proofs.LooseTold.{legal-keeps_stays}
use Rattle.era_gate.proofs.laws.failed_exchanges_are_bounded.Goals as goal

pub returns-clause-told : goal.returns-clause-told
returns-clause-told c = λ n era acts legal. (legal-keeps_stays n era acts legal).kept

pub returns-clause-bounded : goal.returns-clause-bounded
returns-clause-bounded c = λ n era acts legal. (legal-keeps_stays n era acts legal).told

pub returns-clause-stays : goal.returns-clause-stays
returns-clause-stays c = λ n d era acts legal. (legal-keeps_stays n era acts legal).stays d
