use Rattle.era_layout.proofs.RootWritten.{length-root, length-fields}
use Rattle.era_layout.proofs.laws.root_fits_its_place.Goals as goal

pub returns-clause-whole : goal.returns-clause-whole
returns-clause-whole c = length-root

pub returns-clause-fields : goal.returns-clause-fields
returns-clause-fields c = length-fields
