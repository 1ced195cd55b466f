use Rattle.era_slots.proofs.Survival.{page-stays}
use Rattle.era_slots.proofs.laws.page_that_is_not_put_stays.Goals as goal

pub returns : goal.returns
returns c = λ but block before now keeps behind differs durable image is. page-stays but block before now image keeps behind differs durable is
