use Rattle.era_model.proofs.Ascending.{legal-moment}
use Rattle.era_model.proofs.Coverage.{changed-is_listed}
use Rattle.era_model.proofs.session_laws.no_changed_block_missed.Goals as goal

pub returns : goal.returns
returns c = λ h legal moment m found era is recovered block image within changed.
    changed-is_listed moment m found era block image (legal-moment h moment legal is) recovered within changed
