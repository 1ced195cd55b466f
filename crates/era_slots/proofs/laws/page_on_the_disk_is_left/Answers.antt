use Rattle.era_slots.proofs.Survival.{page-left}
use Rattle.era_slots.proofs.laws.page_on_the_disk_is_left.Goals as goal

pub returns : goal.returns
returns c = λ block state durable image is. page-left block state image durable is
