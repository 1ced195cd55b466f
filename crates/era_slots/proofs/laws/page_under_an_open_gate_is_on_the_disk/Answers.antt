use Rattle.era_slots.proofs.Survival.{page-sealed}
use Rattle.era_slots.proofs.laws.page_under_an_open_gate_is_on_the_disk.Goals as goal

pub returns : goal.returns
returns c = page-sealed
