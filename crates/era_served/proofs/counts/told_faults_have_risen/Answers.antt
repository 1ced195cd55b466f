use Rattle.era_served.proofs.ChainCounts.{all-rose, all-tell}
use Rattle.era_served.proofs.counts.told_faults_have_risen.Goals as goal

pub returns-clause-some : goal.returns-clause-some
returns-clause-some g c = λ served first last all is. all-rose g.D.Disk served first last all is

pub returns-clause-device : goal.returns-clause-device
returns-clause-device g c = λ served first last one all has. all-tell g.D.Disk served one first last all has
