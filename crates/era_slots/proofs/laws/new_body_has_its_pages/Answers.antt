use Rattle.era_slots.proofs.Survival.{new-pages}
use Rattle.era_slots.proofs.laws.new_body_has_its_pages.Goals as goal

pub returns : goal.returns
returns c = new-pages
