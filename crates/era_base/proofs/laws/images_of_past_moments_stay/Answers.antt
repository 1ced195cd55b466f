use Rattle.era_base.proofs.CrashImages.{continues-none, continues-step, continues-join, images-stay}
use Rattle.era_base.proofs.laws.images_of_past_moments_stay.Goals as goal

pub returns-clause-none : goal.returns-clause-none
returns-clause-none c = continues-none

pub returns-clause-call : goal.returns-clause-call
returns-clause-call c = continues-step

pub returns-clause-calls : goal.returns-clause-calls
returns-clause-calls c = continues-join

pub returns-clause-images : goal.returns-clause-images
returns-clause-images c = images-stay
