use Rattle.era_base.proofs.CallsSince.{image-kept, image-size, part-kept}
use Rattle.era_base.proofs.laws.synced_bytes_survive.Goals as goal

pub returns-clause-kept : goal.returns-clause-kept
returns-clause-kept c = λ before synced new ranges image offset sync. image-kept synced new ranges image offset sync.clean

pub returns-clause-size : goal.returns-clause-size
returns-clause-size c = image-size

pub returns-clause-part : goal.returns-clause-part
returns-clause-part c = λ before synced new ranges image at count sync. part-kept synced new ranges image at count sync.clean
