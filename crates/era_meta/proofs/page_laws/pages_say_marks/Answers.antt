use Rattle.era_meta.proofs.SaysMarks.{said-marks, whole-pages}
use Rattle.era_meta.proofs.page_laws.pages_say_marks.Goals as goal

pub returns-clause-marks : goal.returns-clause-marks
returns-clause-marks c = said-marks

pub returns-clause-whole : goal.returns-clause-whole
returns-clause-whole c = whole-pages
