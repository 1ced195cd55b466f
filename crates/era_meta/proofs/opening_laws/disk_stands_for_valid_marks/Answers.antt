use Rattle.era_meta.proofs.ValidMeaning.{image-valid, image-held-valid}
use Rattle.era_meta.proofs.opening_laws.disk_stands_for_valid_marks.Goals as goal

pub returns-clause-marks : goal.returns-clause-marks
returns-clause-marks c = image-valid

pub returns-clause-held : goal.returns-clause-held
returns-clause-held c = image-held-valid
