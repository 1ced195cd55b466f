use Rattle.era_served.proofs.ChainCounts.{all-fit, all-same, all-stand}
use Rattle.era_served.proofs.counts.sessions_keep_their_devices.Goals as goal

pub returns-clause-same : goal.returns-clause-same
returns-clause-same g c = λ served first last all. all-same g.D.Disk served first last all

pub returns-clause-fits : goal.returns-clause-fits
returns-clause-fits g c = λ served first last all fits. all-fit g.D.Disk served first last all fits

pub returns-clause-stands : goal.returns-clause-stands
returns-clause-stands g c = λ opening served first last all stands. all-stand g.D.Disk opening served first last all stands
