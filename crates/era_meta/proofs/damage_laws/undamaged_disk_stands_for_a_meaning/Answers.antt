use Rattle.era_meta.proofs.Undamaged.{undamaged-stands, stands-undamaged}
use Rattle.era_meta.proofs.damage_laws.undamaged_disk_stands_for_a_meaning.Goals as goal

pub returns-clause-stands : goal.returns-clause-stands
returns-clause-stands c = undamaged-stands c.root_is_read_back.ensures.fields

pub returns-clause-undamaged : goal.returns-clause-undamaged
returns-clause-undamaged c = stands-undamaged c.root_is_read_back.ensures.fields
