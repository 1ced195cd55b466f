use Rattle.era_model.proofs.Ascending.{legal-moment}
use Rattle.era_model.proofs.Coverage.{base-is_covered}
use Rattle.era_model.proofs.session_laws.coverage_goes_on.Goals as goal

pub returns : goal.returns
returns c = λ h legal moment earlier opening m found era base contents is opened begun covers recovered possible block within unlisted.
    base-is_covered moment earlier opening m found era block (base block) (contents block) (legal-moment h moment legal is) opened
    recovered begun within (covers block) (possible block within) unlisted
