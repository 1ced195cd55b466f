use Rattle.era_base.proofs.CrashImages.{clean-only, only-clean}
use Rattle.era_base.proofs.laws.clean_disk_has_one_image.Goals as goal

pub returns : goal.returns
returns c = λ state. (clean-only state, only-clean state)
