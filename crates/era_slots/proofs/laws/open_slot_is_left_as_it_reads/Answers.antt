use Rattle.era_slots.proofs.Survival.{open-left}
use Rattle.era_slots.proofs.laws.open_slot_is_left_as_it_reads.Goals as goal

pub returns : goal.returns
returns c = λ target number slot may_be_open now stands lt image is opened. open-left target number slot may_be_open now image stands lt is opened
