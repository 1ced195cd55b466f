use Rattle.era_meta.proofs.Usages.{usage-is}
use Rattle.era_meta.proofs.page_laws.used_blocks_are_a_usage.Goals as goal

pub returns : goal.returns
returns c = usage-is
