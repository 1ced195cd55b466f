use Rattle.era_meta.proofs.OneDamage.{first-is-one, first-or-none}
use Rattle.era_meta.proofs.damage_laws.one_damage_is_first.Goals as goal

pub returns-clause-one : goal.returns-clause-one
returns-clause-one c = first-is-one c.root_is_read_back.ensures.none c.root_is_read_back.ensures.held

pub returns-clause-none : goal.returns-clause-none
returns-clause-none c = first-or-none c.root_is_read_back.ensures.none c.root_is_read_back.ensures.held
