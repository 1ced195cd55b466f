use Rattle.era_model.proofs.Ascending.{legal-moment}
use Rattle.era_model.proofs.Asked.{listed-is_asked}
use Rattle.era_model.proofs.session_laws.no_unasked_block_listed.Goals as goal

pub returns : goal.returns
returns c = λ h legal moment m found era block is recovered listed.
    listed-is_asked moment m found era block (legal-moment h moment legal is) recovered listed
