use Rattle.era_slots.proofs.Survival.{body-wiped, page-wiped}
use Rattle.era_slots.proofs.laws.wiping_keeps_bodies_and_pages.Goals as goal

pub returns-clause-bodies : goal.returns-clause-bodies
returns-clause-bodies c = λ first slot before now clean wipes lt image is. body-wiped first slot before now image clean wipes lt is

pub returns-clause-pages : goal.returns-clause-pages
returns-clause-pages c = λ first block before now clean wipes behind image is. page-wiped first block before now image clean wipes behind is
