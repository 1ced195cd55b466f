use Rattle.era_base.proofs.CrashImages.{image-now, call-adds, images-joined}
use Rattle.era_base.proofs.laws.call_adds_its_images.Goals as goal

pub returns-clause-now : goal.returns-clause-now
returns-clause-now c = image-now

pub returns-clause-call : goal.returns-clause-call
returns-clause-call c = call-adds

pub returns-clause-joined : goal.returns-clause-joined
returns-clause-joined c = images-joined
