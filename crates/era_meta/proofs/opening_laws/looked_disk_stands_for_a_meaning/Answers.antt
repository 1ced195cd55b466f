use Rattle.era_meta.proofs.OneRefusal.{look-stands, look-hold}
use Rattle.era_meta.proofs.opening_laws.looked_disk_stands_for_a_meaning.Goals as goal

pub returns-clause-stands : goal.returns-clause-stands
returns-clause-stands c = look-stands c.root_is_read_back.ensures.fields

pub returns-clause-hold : goal.returns-clause-hold
returns-clause-hold c = look-hold c.root_is_read_back.ensures.fields
