use Rattle.era_served.proofs.ChainCounts.{all-up, up-of_u64}
use Rattle.era_served.proofs.counts.devices_count_upwards.Goals as goal

pub returns-clause-capped : goal.returns-clause-capped
returns-clause-capped g c = λ served first last all. (all-up g.D.Disk served first last all).each

pub returns-clause-of_u64 : goal.returns-clause-of_u64
returns-clause-of_u64 g c = λ served first last all. up-of_u64 g.D.Disk first last (all-up g.D.Disk served first last all).each
