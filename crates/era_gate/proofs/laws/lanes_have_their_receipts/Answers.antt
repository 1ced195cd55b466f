use Rattle.era_gate.proofs.LaneReceipts.{opened-entries, opened-low, opened-stays}
use Rattle.era_gate.proofs.laws.lanes_have_their_receipts.Goals as goal

pub returns-clause-entries : goal.returns-clause-entries
returns-clause-entries c = opened-entries

pub returns-clause-stays : goal.returns-clause-stays
returns-clause-stays c = opened-stays

pub returns-clause-few : goal.returns-clause-few
returns-clause-few c = opened-low
